-- System suspend: its outcomes, in the order of the checks, and its rule.
use mathlib.Core.Bool.{Bool, true, false}
use mathlib.Core.Path.{◌≡◌, refl, ◌∙◌}
use Rattle.std.specs.Prelude.{Ok, Err}
use Rattle.basics.proofs.Tests.{cond_rule}
use Rattle.model.specs.declared.answer.CallAnswer.{CallAnswer}
use Rattle.model.specs.declared.answer.Notice.TheVariants as notice
use Rattle.model.specs.declared.call.Call.TheVariants as call
use Rattle.model.specs.declared.code.Refusal.TheVariants as code
use Rattle.model.specs.declared.cpu.EntryPoint.{EntryPoint}
use Rattle.model.specs.declared.sorts.CpuNumber.{CpuNumber}
use Rattle.model.specs.declared.state.State.{State}
use Rattle.model.specs.declared.state.SuspendMode.TheVariants as mode
use Rattle.model.specs.declared.states.CompositeState.{CompositeState}
use Rattle.model.specs.declared.states.Platform.{Platform}
use Rattle.model.specs.Answer.{decided, not_entered_out, accepted, refused}
use Rattle.model.specs.Calls.{call_of, at_maxb, powers_downb, system_suspend_of, platform_coordinatedb, unless_pending, entered}
use Rattle.model.specs.Composite.{states_in_rangeb}
use Rattle.model.specs.State.{platform_at}
use Rattle.model.specs.StateQuery.{others_offb}
use Rattle.call_laws.proofs.Answer.{OfRefusals, must_rule, last_rule}
use Rattle.call_laws.proofs.Caller.{Runs, runs_on, runs_rule}
use Rattle.call_laws.proofs.Suspend.{is_platform_coordinated}

module _ (s : State) (caller : CpuNumber) (feature pending good : Bool) (e : EntryPoint) (asked : CompositeState) where
  abbrev answer_to : CallAnswer
  answer_to = call_of s (call.SystemSuspend caller feature pending good e asked)

  abbrev pub system_suspend_done : CallAnswer
  system_suspend_done = entered s caller.0 asked e (notice.SpmToldSystemSuspend e)

  abbrev may : CallAnswer
  may = unless_pending s pending system_suspend_done

  abbrev p : Platform
  p = platform_at s

  module _ (r : Runs s caller.0) where
    pub system_suspend_absent : feature ≡ false → answer_to ≡ refused s (Err code.NotSupported)
    unfolding system_suspend_of decided
    system_suspend_absent h = runs_on s caller.0 _ may r ∙ simp h

    module _ (h₁ : feature ≡ true) where
      pub system_suspend_not_last : others_offb s caller.0 ≡ false → answer_to ≡ refused s (Err code.Denied)
      unfolding system_suspend_of decided
      system_suspend_not_last h = runs_on s caller.0 _ may r ∙ simp (h₁, h)

      module _ (h₂ : others_offb s caller.0 ≡ true) where
        pub system_suspend_bad_address : good ≡ false → answer_to ≡ refused s (Err code.InvalidAddress)
        unfolding system_suspend_of decided
        system_suspend_bad_address h = runs_on s caller.0 _ may r ∙ simp (h₁, h₂, h)

        module _ (h₃ : good ≡ true) where
          pub system_suspend_out_of_range : states_in_rangeb p asked ≡ false → answer_to ≡ refused s (Err code.Unusable)
          unfolding system_suspend_of decided
          system_suspend_out_of_range h = runs_on s caller.0 _ may r ∙ simp (h₁, h₂, h₃, h)

          module _ (h₄ : states_in_rangeb p asked ≡ true) where
            pub system_suspend_below_max : at_maxb p asked ≡ false → answer_to ≡ refused s (Err code.Denied)
            unfolding system_suspend_of decided
            system_suspend_below_max h = runs_on s caller.0 _ may r ∙ simp (h₁, h₂, h₃, h₄, h)

            module _ (h₅ : at_maxb p asked ≡ true) where
              pub system_suspend_invalid : powers_downb p asked ≡ false → answer_to ≡ refused s (Err code.Unusable)
              unfolding system_suspend_of decided
              system_suspend_invalid h = runs_on s caller.0 _ may r ∙ simp (h₁, h₂, h₃, h₄, h₅, h)

              module _ (h₆ : powers_downb p asked ≡ true) where
                pub system_suspend_os_initiated : s.mode ≡ mode.OsInitiated → answer_to ≡ refused s (Err code.OsInitiated)
                unfolding system_suspend_of decided
                system_suspend_os_initiated h = runs_on s caller.0 _ may r ∙ simp (h₁, h₂, h₃, h₄, h₅, h₆, h)

                module _ (h₇ : s.mode ≡ mode.PlatformCoordinated) where
                  pub system_suspend_pending : pending ≡ true → answer_to ≡ accepted not_entered_out s
                  unfolding system_suspend_of decided
                  system_suspend_pending h = runs_on s caller.0 _ may r ∙ simp (h₁, h₂, h₃, h₄, h₅, h₆, h₇, h)

                  pub system_suspend_entered : pending ≡ false → answer_to ≡ system_suspend_done
                  unfolding system_suspend_of decided
                  system_suspend_entered h = runs_on s caller.0 _ may r ∙ simp (h₁, h₂, h₃, h₄, h₅, h₆, h₇, h)

  -- what holds where a system suspend is accepted
  pub record SystemSuspendAccepted : Type 0 where
    pub caller_runs : Runs s caller.0
    pub last : others_offb s caller.0 ≡ true
    pub at_max : at_maxb p asked ≡ true
    pub powers_down : powers_downb p asked ≡ true
    pub coordinates : s.mode ≡ mode.PlatformCoordinated

  pub system_suspend_rule : (P : CallAnswer → Type 0) → OfRefusals P s →
      (SystemSuspendAccepted → pending ≡ true → P (accepted not_entered_out s)) →
      (SystemSuspendAccepted → pending ≡ false → P system_suspend_done) → P answer_to
  unfolding system_suspend_of
  system_suspend_rule P refusal waits acts =
      runs_rule P s may refusal caller.0 _
      (λ r. must_rule P s may refusal feature code.NotSupported _
      (λ _. must_rule P s may refusal (others_offb s caller.0) code.Denied _
      (λ a. must_rule P s may refusal good code.InvalidAddress _
      (λ _. must_rule P s may refusal (states_in_rangeb p asked) code.Unusable _
      (λ _. must_rule P s may refusal (at_maxb p asked) code.Denied _
      (λ b. must_rule P s may refusal (powers_downb p asked) code.Unusable _
      (λ c. must_rule P s may refusal (platform_coordinatedb s.mode) code.OsInitiated _
      (λ d. last_rule P s may refusal (Ok tt)
      (λ _. let facts : SystemSuspendAccepted = record {
        caller_runs = r;
        last = a;
        at_max = b;
        powers_down = c;
        coordinates = is_platform_coordinated _ d;
      } in
      cond_rule P pending (waits facts) (acts facts))))))))))
