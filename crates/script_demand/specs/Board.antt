-- The board of a script that starts.
use Rattle.std.specs.Prelude.{ℕ, true, List, ◌≡◌, Some}
use Rattle.model.specs.Topology.{boardb}
use Rattle.model.specs.declared.sorts.CpuNumber.{CpuNumber}
use Rattle.model.specs.declared.states.Platform.{Platform}
use Rattle.script.specs.Record.{read_board_of}
use Rattle.script.specs.Run.{topology_in}

-- what the first record says, and that it is acceptable
pub record BoardIn (l : List ℕ) : Type 0 where
  pub platform : Platform
  pub primary : CpuNumber
  pub next : ℕ
  pub says : read_board_of l ≡ Some (record { platform = platform; primary = primary; next = next })
  pub accepted : boardb platform primary (topology_in next l) ≡ true
