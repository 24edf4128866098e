-- Set mode: its outcomes, in the order of the checks, and its rule.
use mathlib.Core.Bool.{Bool, true, false}
use mathlib.Core.Path.{◌≡◌, refl, sym, ap, ◌∙◌}
use Rattle.std.specs.Prelude.{Ok, Err}
use Rattle.model.specs.declared.answer.CallAnswer.{CallAnswer}
use Rattle.model.specs.declared.call.Call.TheVariants as call
use Rattle.model.specs.declared.code.Refusal.TheVariants as code
use Rattle.model.specs.declared.sorts.CpuNumber.{CpuNumber}
use Rattle.model.specs.declared.state.State.{State}
use Rattle.model.specs.declared.state.SuspendMode.{SuspendMode}
use Rattle.model.specs.declared.state.SuspendMode.TheVariants as mode
use Rattle.model.specs.Answer.{decided, nothing_out, accepted, refused}
use Rattle.model.specs.Calls.{call_of, set_suspend_mode_of, same_modeb, mode_mayb}
use Rattle.model.specs.State.{with_mode}
use Rattle.model.specs.StateQuery.{others_offb, all_onb}
use Rattle.call_laws.proofs.Answer.{OfRefusals, must_rule, last_rule}
use Rattle.call_laws.proofs.Caller.{Runs, runs_on, runs_rule}

-- a mode is the same as itself
same_mode : (m : SuspendMode) → same_modeb m m ≡ true
same_mode mode.PlatformCoordinated = refl
same_mode mode.OsInitiated = refl

module _ (s : State) (caller : CpuNumber) (feature : Bool) (wanted : SuspendMode) where
  abbrev answer_to : CallAnswer
  answer_to = call_of s (call.SetMode caller feature wanted)

  -- the mode is the current one, or it is allowed
  abbrev may : Bool
  may = mode_mayb s.mode wanted (others_offb s caller.0) (all_onb s)

  abbrev pub mode_done : CallAnswer
  mode_done = accepted nothing_out (with_mode s wanted)

  module _ (r : Runs s caller.0) where
    pub mode_absent : feature ≡ false → answer_to ≡ refused s (Err code.NotSupported)
    unfolding set_suspend_mode_of decided
    mode_absent h = runs_on s caller.0 _ mode_done r ∙ simp h

    module _ (h₁ : feature ≡ true) where
      pub mode_denied : may ≡ false → answer_to ≡ refused s (Err code.Denied)
      unfolding set_suspend_mode_of decided
      mode_denied h = runs_on s caller.0 _ mode_done r ∙ simp (h₁, h)

      pub mode_accepted : may ≡ true → answer_to ≡ mode_done
      unfolding set_suspend_mode_of decided
      mode_accepted h = runs_on s caller.0 _ mode_done r ∙ simp (h₁, h)

      -- the current mode gives 0 and changes nothing
      pub mode_current : s.mode ≡ wanted → answer_to ≡ accepted nothing_out s
      mode_current h =
          mode_accepted (simp (h, same_mode wanted)) ∙ ap (λ (m : SuspendMode). accepted nothing_out (with_mode s m)) (sym h)

  -- what holds where a mode is accepted
  pub record ModeAccepted : Type 0 where
    pub caller_runs : Runs s caller.0
    pub allowed : may ≡ true

  pub mode_rule : (P : CallAnswer → Type 0) → OfRefusals P s → (ModeAccepted → P mode_done) →
      P answer_to
  unfolding set_suspend_mode_of
  mode_rule P refusal acts =
      runs_rule P s mode_done refusal caller.0 _
      (λ r. must_rule P s mode_done refusal feature code.NotSupported _
      (λ _. must_rule P s mode_done refusal may code.Denied _
      (λ a. last_rule P s mode_done refusal (Ok tt) (λ _. acts (record { caller_runs = r; allowed = a })))))
