-- No call changes the parent of the CPU that it names.
use Prim.Native.Nat.{ℕ}
use mathlib.Core.Bool.{Bool}
use mathlib.Core.List.{List}
use mathlib.Core.Path.{◌≡◌, refl}
use Rattle.basics.proofs.Tests.{cond_rule}
use Rattle.model.specs.declared.answer.Notice.{Notice}
use Rattle.model.specs.declared.answer.Notice.TheVariants as notice
use Rattle.model.specs.declared.answer.Step.{Step}
use Rattle.model.specs.declared.board.Tree.{Tree}
use Rattle.model.specs.declared.call.Call.{Call}
use Rattle.model.specs.declared.call.Call.TheVariants as call
use Rattle.model.specs.declared.cpu.CpuPowerNode.{CpuPowerNode}
use Rattle.model.specs.declared.cpu.EntryPoint.{EntryPoint}
use Rattle.model.specs.declared.state.Domains.{Domains}
use Rattle.model.specs.declared.state.SuspendMode.{SuspendMode}
use Rattle.model.specs.declared.states.CompositeState.{CompositeState}
use Rattle.model.specs.declared.states.Platform.{Platform}
use Rattle.model.specs.Numbers.{Code, acceptedb}
use Rattle.in_place.specs.Any.{call_in}
use Rattle.in_place.specs.Stepped.{decided_on, enter_in, stepped_of}
use Rattle.in_place.specs.declared.Stepped.{Stepped}

-- a record that is decided has the parent of both
pub stepped_parent : (k : Code) (was becomes : CpuPowerNode) (handed : CompositeState) → becomes.parent ≡ was.parent →
    (stepped_of k was becomes handed).node.parent ≡ was.parent
unfolding stepped_of
stepped_parent k was becomes handed h = cond_rule (λ (x : Stepped). x.node.parent ≡ was.parent) (acceptedb k) (λ _. h) (λ _. refl)

pub decided_parent : (k : Code) (node : CpuPowerNode) (d : Domains) (x : Step) → x.node.parent ≡ node.parent →
    (decided_on k node d x).stepped.node.parent ≡ node.parent
unfolding decided_on
decided_parent k node d x h = stepped_parent k node x.node x.out.states h

module _ (t : Tree) (p : Platform) (cpu : ℕ) (node : CpuPowerNode) (d : Domains) where
  -- a suspend, entered or not
  pub enter_parent : (pending : Bool) (asked : CompositeState) (e : EntryPoint) (told : Notice) →
      (enter_in t p cpu node d pending asked e told).node.parent ≡ node.parent
  enter_parent pending asked e told = cond_rule (λ (x : Step). x.node.parent ≡ node.parent) pending (λ _. refl) (λ _. refl)

module _ (t : Tree) (p : Platform) (m : SuspendMode) (affinities : List ℕ) (by node : CpuPowerNode) (d : Domains) where
  -- any call
  pub call_parent : (k : Call) → (call_in t p m affinities by node d k).moved.node.parent ≡ node.parent
  call_parent (call.On caller target e good answer) = stepped_parent _ _ _ _ refl
  call_parent (call.Off caller answer) = decided_parent _ _ _ _ refl
  call_parent (call.Suspend caller pending e asked) =
      decided_parent _ _ _ _ (enter_parent t p caller.0 node d pending asked e (notice.SpmToldSuspend e))
  call_parent (call.Finish cpu) = decided_parent _ _ _ _ refl
  call_parent (call.Boot cpu) = decided_parent _ _ _ _ refl
  call_parent (call.SystemSuspend caller feature pending good e asked) =
      decided_parent _ _ _ _ (enter_parent t p caller.0 node d pending asked e (notice.SpmToldSystemSuspend e))
  call_parent (call.SetMode caller feature wanted) = refl
