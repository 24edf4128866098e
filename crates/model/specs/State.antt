-- What stands in a state.
use Rattle.std.specs.Prelude.{ℕ, suc, List, get_or, set, take, None}
use Rattle.model.specs.declared.board.Board.{Board}
use Rattle.model.specs.declared.board.Tree.{Tree}
use Rattle.model.specs.declared.cpu.AffinityInfo.TheVariants as affinity
use Rattle.model.specs.declared.cpu.CpuPowerNode.{CpuPowerNode}
use Rattle.model.specs.declared.state.Domains.{Domains}
use Rattle.model.specs.declared.state.State.{State}
use Rattle.model.specs.declared.state.SuspendMode.{SuspendMode}
use Rattle.model.specs.declared.states.CompositeState.{CompositeState}
use Rattle.model.specs.declared.states.Platform.{Platform}
use Rattle.model.specs.Path.{on_path_of, local_states_of, set_running_of}
use Rattle.model.specs.States.{off_of}
use Rattle.model.specs.Table.{at_level}

-- the record in a slot where there is no CPU
abbrev pub no_cpu : CpuPowerNode
no_cpu = record {
  parent = record { 0 = 0 };
  affinity_info = affinity.On;
  local_state = 0;
  entry_point = None;
}

-- a CPU's state and, above it, what it asks for in a table of requests
abbrev pub asked_in : List ℕ → CpuPowerNode → ℕ → CompositeState
asked_in requests cpu c = record {
  level0 = cpu.local_state;
  level1 = at_level requests 1 c;
  level2 = at_level requests 2 c;
  level3 = at_level requests 3 c;
}

-- a state of these parts
abbrev pub state_of : Board → Tree → List CpuPowerNode → Domains → SuspendMode → State
state_of board tree cpus domains mode =
    record { board = board; tree = tree; cpus = cpus; domains = domains; mode = mode }

module _ (s : State) where
  abbrev pub platform_at : Platform
  platform_at = s.board.platform

  -- MAX
  abbrev pub max_at : ℕ
  max_at = platform_at.max.0

  -- OFF
  abbrev pub off_at : ℕ
  off_at = off_of platform_at

  -- how many domains and CPUs there are
  abbrev pub domain_count_of : ℕ
  domain_count_of = s.tree.domain_count

  abbrev pub cpu_count_of : ℕ
  cpu_count_of = s.tree.cpu_count

  -- the topology: an entry for the top, and one for each domain
  abbrev pub topology_at : List ℕ
  topology_at = take (suc domain_count_of) s.board.topology

  -- the record of a CPU
  abbrev pub cpu_at : ℕ → CpuPowerNode
  cpu_at c = get_or s.cpus c no_cpu

  -- the state of a domain
  abbrev pub domain_state_at : ℕ → ℕ
  domain_state_at k = get_or s.domains.states k 0

  -- what a CPU asks of its domain of a level
  abbrev pub request_at : ℕ → ℕ → ℕ
  request_at = at_level s.domains.requests

  -- its suspend state there
  abbrev pub suspend_at : ℕ → ℕ → ℕ
  suspend_at = at_level s.domains.suspends

  -- the copy of a domain's state that its parent holds
  abbrev pub copy_at : ℕ → ℕ
  copy_at k = get_or s.domains.copies k 0

  -- the domain of a level over a CPU, by what is stored
  abbrev pub domain_over : ℕ → ℕ → ℕ
  domain_over level c = on_path_of s.tree.parents (cpu_at c).parent.0 level

  -- a CPU's state and, above it, its requests
  abbrev pub asked_of : ℕ → CompositeState
  asked_of c = asked_in s.domains.requests (cpu_at c) c

  -- the stored states along a CPU's path
  abbrev pub states_along : ℕ → CompositeState
  states_along c = local_states_of s.tree.parents s.domains.states max_at (cpu_at c)

  -- the state with another mode
  abbrev pub with_mode : SuspendMode → State
  with_mode = state_of s.board s.tree s.cpus s.domains

  -- the state with another record of a CPU
  abbrev pub with_cpu : ℕ → CpuPowerNode → State
  with_cpu c r = state_of s.board s.tree (set s.cpus c r) s.domains s.mode

  -- the state with another record of a CPU, and set_running along the path of that CPU
  abbrev pub up_with : ℕ → CpuPowerNode → State
  up_with c r =
      state_of s.board s.tree (set s.cpus c r) (set_running_of s.tree.parents max_at r.parent.0 c s.domains)
      s.mode
