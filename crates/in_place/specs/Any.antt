-- Any call on what it reads.
use Rattle.std.specs.Prelude.{ℕ, cond, List}
use Rattle.cpu_table.specs.CpuTable.{all_on_bytes, others_off_bytes}
use Rattle.model.specs.declared.board.Tree.{Tree}
use Rattle.model.specs.declared.call.Call.{Call}
use Rattle.model.specs.declared.call.Call.TheVariants as call
use Rattle.model.specs.declared.cpu.CpuPowerNode.{CpuPowerNode}
use Rattle.model.specs.declared.sorts.CpuNumber.{CpuNumber}
use Rattle.model.specs.declared.state.Domains.{Domains}
use Rattle.model.specs.declared.state.SuspendMode.{SuspendMode}
use Rattle.model.specs.declared.states.Platform.{Platform}
use Rattle.model.specs.Numbers.{Code, acceptedb}
use Rattle.in_place.specs.declared.any.Moved.{Moved}
use Rattle.in_place.specs.Stepped.{Outcome, boot_in, finish_in, mode_in, off_in, on_in, outcome, suspend_in, system_suspend_in}

-- what a call gives, and the domains after it
pub record AnyOutcome : Type 0 where
  pub moved : Moved
  pub domains : Domains

abbrev pub with_domains : Moved → Domains → AnyOutcome
with_domains x d = record { moved = x; domains = d }

abbrev pub any_outcome : Code → CpuPowerNode → SuspendMode → Domains → AnyOutcome
any_outcome k node m d = with_domains (record { code = k; node = node; mode = m }) d

-- all but set mode leave the mode
abbrev pub in_mode : SuspendMode → Outcome → AnyOutcome
in_mode m x = any_outcome x.stepped.code x.stepped.node m x.domains

-- set mode leaves all else
abbrev pub sets_mode : SuspendMode → CpuPowerNode → Domains → SuspendMode → Code → AnyOutcome
sets_mode m node d wanted k = any_outcome k node (cond (acceptedb k) wanted m) d

-- the CPU that makes a call
abbrev pub caller_of : Call → CpuNumber
caller_of (call.On caller target e good answer) = caller
caller_of (call.Off caller answer) = caller
caller_of (call.Suspend caller pending e asked) = caller
caller_of (call.Finish cpu) = cpu
caller_of (call.Boot cpu) = cpu
caller_of (call.SystemSuspend caller feature pending good e asked) = caller
caller_of (call.SetMode caller feature wanted) = caller

-- by the caller's record and that of the CPU that is named
module _ (t : Tree) (p : Platform) (m : SuspendMode) (affinities : List ℕ) (by node : CpuPowerNode) (d : Domains) where
  abbrev pub call_in : Call → AnyOutcome
  call_in (call.On caller target e good answer) =
      in_mode m (outcome (on_in t.cpu_count caller.0 by target.0 node e good answer) d)
  call_in (call.Off caller answer) = in_mode m (off_in t p caller.0 node d answer)
  call_in (call.Suspend caller pending e asked) = in_mode m (suspend_in t p caller.0 node d m pending e asked)
  call_in (call.Finish cpu) = in_mode m (finish_in t p cpu.0 node d)
  call_in (call.Boot cpu) = in_mode m (boot_in t p cpu.0 node d)
  call_in (call.SystemSuspend caller feature pending good e asked) =
      in_mode m
      (system_suspend_in t p caller.0 node d m feature (others_off_bytes affinities t.cpu_count caller.0) pending good e asked)
  call_in (call.SetMode caller feature wanted) =
      sets_mode m node d wanted
      (mode_in t.cpu_count caller.0 by feature m wanted (others_off_bytes affinities t.cpu_count caller.0)
      (all_on_bytes affinities t.cpu_count))
