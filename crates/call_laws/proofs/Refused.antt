-- Any call that is refused leaves the state as it was handed in, and nothing goes out.
use mathlib.Core.Bool.{false, true≢false}
use mathlib.Core.Path.{◌≡◌, refl}
use Rattle.model.specs.declared.answer.CallAnswer.{CallAnswer}
use Rattle.model.specs.declared.call.Call.{Call}
use Rattle.model.specs.declared.call.Call.TheVariants as call
use Rattle.model.specs.declared.state.State.{State}
use Rattle.model.specs.Answer.{refused}
use Rattle.model.specs.Calls.{call_of}
use Rattle.model.specs.Numbers.{acceptedb}
use Rattle.call_laws.proofs.Mode.{mode_rule}
use Rattle.call_laws.proofs.Off.{off_rule}
use Rattle.call_laws.proofs.On.{on_rule}
use Rattle.call_laws.proofs.Suspend.{suspend_rule}
use Rattle.call_laws.proofs.SystemSuspend.{system_suspend_rule}
use Rattle.call_laws.proofs.Wake.{finish_rule, boot_rule}

module _ (s : State) where
  -- an answer that is no 0 is a refusal
  abbrev Kept : CallAnswer → Type 0
  Kept a = acceptedb a.code ≡ false → a ≡ refused s a.code

  pub call_refused : (k : Call) → Kept (call_of s k)
  call_refused (call.On caller target e good answer) =
      on_rule s caller target e good answer Kept (λ _ _ _. refl) (λ _ h. absurd (true≢false h))
  call_refused (call.Off caller answer) = off_rule s caller answer Kept (λ _ _ _. refl) (λ _ h. absurd (true≢false h))
  call_refused (call.Suspend caller pending e asked) =
      suspend_rule s caller pending e asked Kept (λ _ _ _. refl) (λ _ _ h. absurd (true≢false h))
      (λ _ _ h. absurd (true≢false h))
  call_refused (call.Finish cpu) = finish_rule s cpu Kept (λ _ _ _. refl) (λ _ h. absurd (true≢false h))
  call_refused (call.Boot cpu) = boot_rule s cpu Kept (λ _ _ _. refl) (λ _ h. absurd (true≢false h))
  call_refused (call.SystemSuspend caller feature pending good e asked) =
      system_suspend_rule s caller feature pending good e asked Kept (λ _ _ _. refl) (λ _ _ h. absurd (true≢false h))
      (λ _ _ h. absurd (true≢false h))
  call_refused (call.SetMode caller feature wanted) =
      mode_rule s caller feature wanted Kept (λ _ _ _. refl) (λ _ h. absurd (true≢false h))
