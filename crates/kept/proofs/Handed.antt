-- The resolved states that an off or an entered suspend hands the platform are the stored ones along the caller's path after the call.
use Prim.Native.Nat.{ℕ}
use mathlib.Core.Bool.{Bool, true, false, true≢false, and-eq-true_iff}
use mathlib.Core.Path.{◌≡◌, refl, sym, ap, ◌∙◌}
use Rattle.basics.proofs.Tests.{cond_rule}
use Rattle.call_laws.proofs.Caller.{Runs}
use Rattle.call_laws.proofs.Off.{off_rule}
use Rattle.call_laws.proofs.Suspend.{suspend_rule}
use Rattle.call_laws.proofs.SystemSuspend.{system_suspend_rule}
use Rattle.model.specs.Calls.{call_of, entered}
use Rattle.model.specs.Composite.{all_off, cpu_level_state_of, is_valid_suspend_requestb}
use Rattle.model.specs.declared.answer.CallAnswer.{CallAnswer}
use Rattle.model.specs.declared.answer.Notice.{Notice}
use Rattle.model.specs.declared.answer.Notice.TheVariants as notice
use Rattle.model.specs.declared.answer.Outgoing.{Outgoing}
use Rattle.model.specs.declared.call.Call.TheVariants as call
use Rattle.model.specs.declared.cpu.EntryPoint.{EntryPoint}
use Rattle.model.specs.declared.sorts.CpuNumber.{CpuNumber}
use Rattle.model.specs.declared.state.State.{State}
use Rattle.model.specs.declared.states.CompositeState.{CompositeState}
use Rattle.model.specs.declared.states.Platform.{Platform}
use Rattle.model.specs.Numbers.{acceptedb}
use Rattle.model.specs.State.{platform_at, max_at, states_along}
use Rattle.model.specs.States.{downb}
use Rattle.model.specs.Steps.{off_out, suspend_out}
use Rattle.kept.specs.Lengths.{SoundRecord}
use Rattle.kept.proofs.Down.{down_handed}
use Rattle.kept.proofs.Steps.{enter_goes_down, off_goes_down}

-- these states go out with a suspend, and in its notices
pub suspend_states : (p : Platform) (x : CompositeState) (told : Notice) → (suspend_out p x told).states ≡ x
suspend_states p x told = cond_rule (λ (o : Outgoing). o.states ≡ x) (downb p (cpu_level_state_of x)) (λ _. refl) (λ _. refl)

module _ (s : State) (whole : SoundRecord s) (caller : CpuNumber) where
  abbrev p : Platform
  p = platform_at s

  -- what is stored along the caller's path after an answer
  abbrev stored : CallAnswer → CompositeState
  stored a = states_along a.state caller.0

  -- Off
  pub off_handed : (answer : ℕ) → acceptedb (call_of s (call.Off caller answer)).code ≡ true →
      (call_of s (call.Off caller answer)).out ≡ off_out p (stored (call_of s (call.Off caller answer)))
  off_handed answer =
      off_rule s caller answer (λ a. acceptedb a.code ≡ true → a.out ≡ off_out p (stored a))
      (λ _ n h. absurd (true≢false (sym h ∙ n)))
      (λ f _. let r = f.caller_runs in
      ap (off_out p) (down_handed s whole caller.0 _ (all_off p) (max_at s)
      (off_goes_down s whole caller.0 r.known.exists r.running)))

  module _ (e : EntryPoint) (asked : CompositeState) where
    -- a suspend of either kind that is entered
    entered_handed : (told : Notice) → Runs s caller.0 → is_valid_suspend_requestb p asked ≡ true →
        (entered s caller.0 asked e told).out ≡ suspend_out p (stored (entered s caller.0 asked e told)) told
    entered_handed told r valid =
        ap (λ (x : CompositeState). suspend_out p x told) (down_handed s whole caller.0 _ asked _
        (enter_goes_down s whole caller.0 r.known.exists r.running asked valid e))

    -- Suspend
    pub suspend_handed : let k = call.Suspend caller false e asked in acceptedb (call_of s k).code ≡ true →
        (call_of s k).out ≡ suspend_out p (stored (call_of s k)) (notice.SpmToldSuspend e)
    suspend_handed =
        suspend_rule s caller false e asked (λ a. acceptedb a.code ≡ true → a.out ≡ suspend_out p (stored a) (notice.SpmToldSuspend e))
        (λ _ n h. absurd (true≢false (sym h ∙ n)))
        (λ _ n. absurd (true≢false (sym n)))
        (λ f _ _. entered_handed _ f.caller_runs f.valid)

    -- System suspend
    pub system_suspend_handed : (feature good : Bool) → let k = call.SystemSuspend caller feature false good e asked in
        acceptedb (call_of s k).code ≡ true →
        (call_of s k).out ≡ suspend_out p (stored (call_of s k)) (notice.SpmToldSystemSuspend e)
    system_suspend_handed feature good =
        system_suspend_rule s caller feature false good e asked
        (λ a. acceptedb a.code ≡ true → a.out ≡ suspend_out p (stored a) (notice.SpmToldSystemSuspend e))
        (λ _ n h. absurd (true≢false (sym h ∙ n)))
        (λ _ n. absurd (true≢false (sym n)))
        (λ f _ _. entered_handed _ f.caller_runs ((and-eq-true_iff (is_valid_suspend_requestb p asked) _).0 f.powers_down).0)
