-- No call changes the board or the tree.
use mathlib.Core.Path.{◌≡◌, refl}
use Rattle.model.specs.declared.answer.CallAnswer.{CallAnswer}
use Rattle.model.specs.declared.call.Call.{Call}
use Rattle.model.specs.declared.call.Call.TheVariants as call
use Rattle.model.specs.declared.state.State.{State}
use Rattle.model.specs.Calls.{call_of}
use Rattle.call_laws.proofs.Mode.{mode_rule}
use Rattle.call_laws.proofs.Off.{off_rule}
use Rattle.call_laws.proofs.On.{on_rule}
use Rattle.call_laws.proofs.Suspend.{suspend_rule}
use Rattle.call_laws.proofs.SystemSuspend.{system_suspend_rule}
use Rattle.call_laws.proofs.Wake.{finish_rule, boot_rule}

module _ (s : State) where
  pub record SameBoard (a : CallAnswer) : Type 0 where
    pub board : a.state.board ≡ s.board
    pub tree : a.state.tree ≡ s.tree

  same : (a : CallAnswer) → a.state.board ≡ s.board → a.state.tree ≡ s.tree → SameBoard a
  same a b t = record { board = b; tree = t }

  pub call_same_board : (k : Call) → SameBoard (call_of s k)
  call_same_board (call.On caller target e good answer) =
      on_rule s caller target e good answer SameBoard (λ _ _. same _ refl refl) (λ _. same _ refl refl)
  call_same_board (call.Off caller answer) = off_rule s caller answer SameBoard (λ _ _. same _ refl refl) (λ _. same _ refl refl)
  call_same_board (call.Suspend caller pending e asked) =
      suspend_rule s caller pending e asked SameBoard (λ _ _. same _ refl refl) (λ _ _. same _ refl refl) (λ _ _. same _ refl refl)
  call_same_board (call.Finish cpu) = finish_rule s cpu SameBoard (λ _ _. same _ refl refl) (λ _. same _ refl refl)
  call_same_board (call.Boot cpu) = boot_rule s cpu SameBoard (λ _ _. same _ refl refl) (λ _. same _ refl refl)
  call_same_board (call.SystemSuspend caller feature pending good e asked) =
      system_suspend_rule s caller feature pending good e asked SameBoard (λ _ _. same _ refl refl) (λ _ _. same _ refl refl)
      (λ _ _. same _ refl refl)
  call_same_board (call.SetMode caller feature wanted) =
      mode_rule s caller feature wanted SameBoard (λ _ _. same _ refl refl) (λ _. same _ refl refl)
