-- docs/REFERENCE.md, 'What a call leaves alone'.
use Rattle.std.specs.Prelude.{ℕ, ◌<◌, ◌≤◌, Bool, true, false, ◌≡◌}
use Rattle.model.specs.declared.call.Call.{Call}
use Rattle.model.specs.declared.call.Call.TheVariants as call
use Rattle.model.specs.declared.state.State.{State}
use Rattle.model.specs.Limits.{cpu_limit}
use Rattle.model.specs.State.{max_at, cpu_at, request_at, domain_state_at, domain_over}
use Rattle.script.specs.AnswerRecord.{named_of}

-- the call sets the mode
abbrev pub sets_modeb : Call → Bool
sets_modeb (call.On caller target e good answer) = false
sets_modeb (call.Off caller answer) = false
sets_modeb (call.Suspend caller pending e asked) = false
sets_modeb (call.Finish cpu) = false
sets_modeb (call.Boot cpu) = false
sets_modeb (call.SystemSuspend caller feature pending good e asked) = false
sets_modeb (call.SetMode caller feature wanted) = true

-- the board, the tree, the records and requests of the CPUs that it does not name, the states of the domains that are not over the CPU
-- that it names, the suspend states; and the mode, unless the call sets it
pub record LeftAlone (s : State) (k : Call) (after : State) : Type 0 where
  pub board : after.board ≡ s.board
  pub tree : after.tree ≡ s.tree
  pub cpus : (i : ℕ) → (i ≡ (named_of k).0 → ⊥) → cpu_at after i ≡ cpu_at s i
  pub requests : (level i : ℕ) → 1 ≤ level → i < cpu_limit → (i ≡ (named_of k).0 → ⊥) → request_at after level i ≡ request_at s level i
  pub states : (d : ℕ) → ((level : ℕ) → 1 ≤ level → level ≤ max_at s → d ≡ domain_over s level (named_of k).0 → ⊥) →
      domain_state_at after d ≡ domain_state_at s d
  pub suspends : after.domains.suspends ≡ s.domains.suspends
  pub mode : sets_modeb k ≡ false → after.mode ≡ s.mode
