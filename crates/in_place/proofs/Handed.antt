-- The states that go out, whatever the notices are.
use mathlib.Core.Path.{◌≡◌, refl}
use Rattle.basics.proofs.Tests.{cond_rule}
use Rattle.model.specs.declared.answer.Notice.{Notice}
use Rattle.model.specs.declared.answer.Outgoing.{Outgoing}
use Rattle.model.specs.declared.cpu.CpuPowerNode.{CpuPowerNode}
use Rattle.model.specs.declared.states.CompositeState.{CompositeState}
use Rattle.model.specs.declared.states.Platform.{Platform}
use Rattle.model.specs.Composite.{cpu_level_state_of}
use Rattle.model.specs.Cpu.{pendingb}
use Rattle.model.specs.States.{downb}
use Rattle.model.specs.Steps.{boot_out, finish_out, suspend_out}

module _ (x : CompositeState) where
  abbrev hands : Outgoing → Type 0
  hands o = o.states ≡ x

  pub suspend_states : (p : Platform) (told : Notice) → (suspend_out p x told).states ≡ x
  suspend_states p told = cond_rule hands (downb p (cpu_level_state_of x)) (λ _. refl) (λ _. refl)

  pub finish_states : (p : Platform) → (finish_out p x).states ≡ x
  finish_states p = cond_rule hands (downb p (cpu_level_state_of x)) (λ _. refl) (λ _. refl)

  pub boot_states : (c : CpuPowerNode) → (boot_out c x).states ≡ x
  boot_states c = cond_rule hands (pendingb c.affinity_info) (λ _. refl) (λ _. refl)
