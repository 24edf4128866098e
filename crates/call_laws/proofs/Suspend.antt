-- Suspend: its outcomes, in the order of the checks, and its rule.
use mathlib.Core.Bool.{Bool, true, false, true≢false}
use mathlib.Core.Path.{◌≡◌, refl, sym, ◌∙◌}
use Rattle.std.specs.Prelude.{Ok, Err}
use Rattle.basics.proofs.Tests.{cond_rule}
use Rattle.model.specs.declared.answer.CallAnswer.{CallAnswer}
use Rattle.model.specs.declared.answer.Notice.TheVariants as notice
use Rattle.model.specs.declared.call.Call.TheVariants as call
use Rattle.model.specs.declared.code.Refusal.TheVariants as code
use Rattle.model.specs.declared.cpu.EntryPoint.{EntryPoint}
use Rattle.model.specs.declared.sorts.CpuNumber.{CpuNumber}
use Rattle.model.specs.declared.state.State.{State}
use Rattle.model.specs.declared.state.SuspendMode.{SuspendMode}
use Rattle.model.specs.declared.state.SuspendMode.TheVariants as mode
use Rattle.model.specs.declared.states.CompositeState.{CompositeState}
use Rattle.model.specs.Answer.{decided, not_entered_out, accepted, refused}
use Rattle.model.specs.Calls.{call_of, cpu_suspend_start_of, platform_coordinatedb, unless_pending, entered}
use Rattle.model.specs.Composite.{is_valid_suspend_requestb}
use Rattle.model.specs.State.{platform_at}
use Rattle.call_laws.proofs.Answer.{OfRefusals, must_rule, last_rule}
use Rattle.call_laws.proofs.Caller.{Runs, runs_on, runs_rule}

-- a mode that is platform-coordinated
pub is_platform_coordinated : (m : SuspendMode) → platform_coordinatedb m ≡ true → m ≡ mode.PlatformCoordinated
is_platform_coordinated mode.PlatformCoordinated h = refl
is_platform_coordinated mode.OsInitiated h = absurd (true≢false (sym h))

module _ (s : State) (caller : CpuNumber) (pending : Bool) (e : EntryPoint) (asked : CompositeState) where
  abbrev answer_to : CallAnswer
  answer_to = call_of s (call.Suspend caller pending e asked)

  -- an interrupt is pending: 0, and nothing changes
  abbrev pub not_entered : CallAnswer
  not_entered = accepted not_entered_out s

  abbrev pub suspend_done : CallAnswer
  suspend_done = entered s caller.0 asked e (notice.SpmToldSuspend e)

  abbrev may : CallAnswer
  may = unless_pending s pending suspend_done

  module _ (r : Runs s caller.0) where
    pub suspend_invalid : is_valid_suspend_requestb (platform_at s) asked ≡ false →
        answer_to ≡ refused s (Err code.InvalidParameters)
    unfolding cpu_suspend_start_of decided
    suspend_invalid h = runs_on s caller.0 _ may r ∙ simp h

    module _ (h₁ : is_valid_suspend_requestb (platform_at s) asked ≡ true) where
      pub suspend_os_initiated : s.mode ≡ mode.OsInitiated →
          answer_to ≡ refused s (Err code.OsInitiated)
      unfolding cpu_suspend_start_of decided
      suspend_os_initiated h = runs_on s caller.0 _ may r ∙ simp (h₁, h)

      module _ (h₂ : s.mode ≡ mode.PlatformCoordinated) where
        pub suspend_pending : pending ≡ true → answer_to ≡ not_entered
        unfolding cpu_suspend_start_of decided
        suspend_pending h = runs_on s caller.0 _ may r ∙ simp (h₁, h₂, h)

        pub suspend_entered : pending ≡ false → answer_to ≡ suspend_done
        unfolding cpu_suspend_start_of decided
        suspend_entered h = runs_on s caller.0 _ may r ∙ simp (h₁, h₂, h)

  -- what holds where a suspend is accepted
  pub record SuspendAccepted : Type 0 where
    pub caller_runs : Runs s caller.0
    pub valid : is_valid_suspend_requestb (platform_at s) asked ≡ true
    pub coordinates : s.mode ≡ mode.PlatformCoordinated

  pub suspend_rule : (P : CallAnswer → Type 0) → OfRefusals P s → (SuspendAccepted → pending ≡ true → P not_entered) →
      (SuspendAccepted → pending ≡ false → P suspend_done) → P answer_to
  unfolding cpu_suspend_start_of
  suspend_rule P refusal waits acts =
      runs_rule P s may refusal caller.0 _
      (λ r. must_rule P s may refusal (is_valid_suspend_requestb (platform_at s) asked) code.InvalidParameters _
      (λ a. must_rule P s may refusal (platform_coordinatedb s.mode) code.OsInitiated _
      (λ b. last_rule P s may refusal (Ok tt)
      (λ _. let facts : SuspendAccepted = record { caller_runs = r; valid = a; coordinates = is_platform_coordinated _ b } in
      cond_rule P pending (waits facts) (acts facts)))))
