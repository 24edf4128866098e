-- How an answer is decided, and what its checks say.
use mathlib.Core.Bool.{Bool, true, false, true≢false}
use mathlib.Core.Path.{◌≡◌, refl, sym}
use Rattle.std.specs.Prelude.{Ok, Err}
use Rattle.basics.proofs.Tests.{cond_rule}
use Rattle.model.specs.declared.answer.CallAnswer.{CallAnswer}
use Rattle.model.specs.declared.code.Refusal.{Refusal}
use Rattle.model.specs.declared.state.State.{State}
use Rattle.model.specs.Answer.{decided, refused, must}
use Rattle.model.specs.Numbers.{Code, acceptedb}

module _ (s : State) (k : Code) (done : CallAnswer) where
  pub decided_yes : acceptedb k ≡ true → decided s k done ≡ done
  unfolding decided
  decided_yes h = simp h

  pub decided_no : acceptedb k ≡ false → decided s k done ≡ refused s k
  unfolding decided
  decided_no h = simp h

-- an accepted answer is 0 and nothing else
pub is_accepted : (k : Code) → acceptedb k ≡ true → k ≡ Ok tt
is_accepted (Ok tt) h = refl
is_accepted (Err r) h = absurd (true≢false (sym h))

-- a property of every refusal that leaves the state as it was
abbrev pub OfRefusals : (CallAnswer → Type 0) → State → Type 0
OfRefusals P s = (k : Code) → acceptedb k ≡ false → P (refused s k)

module _ (P : CallAnswer → Type 0) (s : State) (done : CallAnswer) (refusal : OfRefusals P s) where
  -- a property of what is decided by a code
  abbrev pub Decided : Code → Type 0
  Decided k = P (decided s k done)

  -- what holds of every refusal and, where the further checks come, of what they decide, holds of what a check decides
  pub must_rule : (b : Bool) (r : Refusal) (rest : Code) → (b ≡ true → Decided rest) → Decided (must b r rest)
  unfolding decided
  must_rule true r rest go = go refl
  must_rule false r rest go = refusal (Err r) refl

  -- and so of what the last code decides
  pub last_rule : (k : Code) → (k ≡ Ok tt → P done) → Decided k
  unfolding decided
  last_rule k acts = cond_rule P (acceptedb k) (λ h. acts (is_accepted k h)) (refusal k)
