-- Off: its outcomes and its rule.
use Prim.Native.Nat.{ℕ}
use mathlib.Core.Bool.{true, false}
use mathlib.Core.Path.{◌≡◌, ◌∙◌}
use Rattle.std.specs.Prelude.{Ok}
use Rattle.model.specs.declared.answer.CallAnswer.{CallAnswer}
use Rattle.model.specs.declared.call.Call.TheVariants as call
use Rattle.model.specs.declared.code.Refusal.TheVariants as code
use Rattle.model.specs.declared.sorts.CpuNumber.{CpuNumber}
use Rattle.model.specs.declared.state.State.{State}
use Rattle.model.specs.Answer.{refused}
use Rattle.model.specs.Calls.{acted, call_of, cpu_off_of}
use Rattle.model.specs.Numbers.{acceptedb, answer_of}
use Rattle.model.specs.State.{platform_at}
use Rattle.model.specs.Steps.{off_step}
use Rattle.call_laws.proofs.Answer.{decided_yes, decided_no, OfRefusals, last_rule}
use Rattle.call_laws.proofs.Caller.{Runs, runs_on, runs_rule}

module _ (s : State) (caller : CpuNumber) (answer : ℕ) where
  abbrev answer_to : CallAnswer
  answer_to = call_of s (call.Off caller answer)

  abbrev pub off_done : CallAnswer
  off_done = acted s caller.0 (off_step s.tree s.domains (platform_at s))

  module _ (r : Runs s caller.0) where
    -- the early answer's error, and 106 for what is no answer
    pub off_refused : acceptedb (answer_of answer) ≡ false → answer_to ≡ refused s (answer_of answer)
    unfolding cpu_off_of
    off_refused h = runs_on s caller.0 _ off_done r ∙ decided_no _ _ _ h

    pub off_accepted : acceptedb (answer_of answer) ≡ true → answer_to ≡ off_done
    unfolding cpu_off_of
    off_accepted h = runs_on s caller.0 _ off_done r ∙ decided_yes _ _ _ h

  -- what holds where off is accepted
  pub record OffAccepted : Type 0 where
    pub caller_runs : Runs s caller.0
    pub answered : answer_of answer ≡ Ok tt

  pub off_rule : (P : CallAnswer → Type 0) → OfRefusals P s → (OffAccepted → P off_done) → P answer_to
  unfolding cpu_off_of
  off_rule P refusal acts =
      runs_rule P s off_done refusal caller.0 _
      (λ r. last_rule P s off_done refusal (answer_of answer) (λ k. acts (record { caller_runs = r; answered = k })))
