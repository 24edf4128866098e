-- The checks with which every call begins.
use Prim.Native.Nat.{ℕ, ◌<◌, ◌≤◌}
use mathlib.Core.Bool.{true, false}
use mathlib.Core.Path.{◌≡◌, refl}
use borrow.Author.Tests.{ltb-true, lt-ltb, le-ltb}
use lib.Dec.{ltb}
use Rattle.std.specs.Prelude.{Err}
use Rattle.basics.proofs.Tests.{cond_rule}
use Rattle.model.specs.declared.answer.CallAnswer.{CallAnswer}
use Rattle.model.specs.declared.call.Call.{Call}
use Rattle.model.specs.Numbers.{Code}
use Rattle.model.specs.declared.code.Refusal.TheVariants as code
use Rattle.model.specs.declared.state.State.{State}
use Rattle.model.specs.Answer.{decided, refused, must}
use Rattle.model.specs.Calls.{runningb, for_cpu, for_caller, body_of, tested, call_of}
use Rattle.model.specs.SoundTest.{soundb}
use Rattle.model.specs.State.{cpu_count_of, cpu_at}
use Rattle.call_laws.proofs.Answer.{OfRefusals, Decided, must_rule}

-- every call first: 102, and else it is as on a state that is known to be sound
module _ (s : State) (k : Call) where
  pub call_unsound : soundb s ≡ false → call_of s k ≡ refused s (Err code.NotSound)
  call_unsound h = simp h

  pub call_known : soundb s ≡ true → call_of s k ≡ body_of s k
  call_known h = simp h

module _ (s : State) (c : ℕ) where
  -- the state is sound, and there is such a CPU
  pub record Known : Type 0 where
    pub sound : soundb s ≡ true
    pub exists : c < cpu_count_of s

  -- and it is running
  pub record Runs : Type 0 where
    pub known : Known
    pub running : runningb (cpu_at s c) ≡ true

  -- the outcomes of these checks, whatever the call
  module _ (k : Code) (done : CallAnswer) where
    pub no_caller : soundb s ≡ true → cpu_count_of s ≤ c →
        tested (soundb s) s (decided s (for_cpu s c k) done) ≡ refused s (Err code.NoCaller)
    unfolding decided
    no_caller h e = simp (h, le-ltb _ _ e)

    pub not_running : Known → runningb (cpu_at s c) ≡ false →
        tested (soundb s) s (decided s (for_caller s c k) done) ≡ refused s (Err code.NotRunning)
    unfolding decided
    not_running h e = simp (h.sound, lt-ltb _ _ h.exists, e)

    -- where they pass it is as the call's own checks say
    pub known_on : Known → tested (soundb s) s (decided s (for_cpu s c k) done) ≡ decided s k done
    known_on h = simp (h.sound, lt-ltb _ _ h.exists)

    pub runs_on : Runs → tested (soundb s) s (decided s (for_caller s c k) done) ≡ decided s k done
    runs_on h = simp (h.known.sound, lt-ltb _ _ h.known.exists, h.running)

-- what holds of every refusal and, where these checks pass, of what the call's own checks decide, holds of the answer
module _ (P : CallAnswer → Type 0) (s : State) (done : CallAnswer) (refusal : OfRefusals P s) (c : ℕ) where
  pub known_rule : (k : Code) → (Known s c → Decided P s done refusal k) →
      P (tested (soundb s) s (decided s (for_cpu s c k) done))
  known_rule k go =
      cond_rule P (soundb s)
      (λ a. must_rule P s done refusal (ltb c (cpu_count_of s)) code.NoCaller _
      (λ b. go (record { sound = a; exists = ltb-true _ _ b })))
      (λ _. refusal (Err code.NotSound) refl)

  pub runs_rule : (k : Code) → (Runs s c → Decided P s done refusal k) →
      P (tested (soundb s) s (decided s (for_caller s c k) done))
  runs_rule k go =
      known_rule (must (runningb (cpu_at s c)) code.NotRunning k)
      (λ a. must_rule P s done refusal (runningb (cpu_at s c)) code.NotRunning _
      (λ b. go (record { known = a; running = b })))
