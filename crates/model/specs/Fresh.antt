-- docs/REFERENCE.md, 'The fresh state'.
use Rattle.std.specs.Prelude.{ℕ, cond, List, eqb, get_or, length, replicate, Ok, Err}
use Rattle.model.specs.declared.board.Board.{Board}
use Rattle.model.specs.declared.code.Refusal.TheVariants as code
use Rattle.model.specs.declared.cpu.AffinityInfo.TheVariants as affinity
use Rattle.model.specs.declared.cpu.CpuPowerNode.{CpuPowerNode}
use Rattle.model.specs.declared.sorts.CpuNumber.{CpuNumber}
use Rattle.model.specs.declared.state.Domains.{Domains}
use Rattle.model.specs.declared.state.FreshAnswer.{FreshAnswer}
use Rattle.model.specs.declared.state.State.{State}
use Rattle.model.specs.declared.state.SuspendMode.TheVariants as mode
use Rattle.model.specs.declared.states.Platform.{Platform}
use Rattle.model.specs.Cpu.{new_of, set_affinity_info_of, set_local_state_of}
use Rattle.model.specs.Limits.{cpu_limit, entry_limit, request_slots}
use Rattle.model.specs.Node.{no_suspend_state}
use Rattle.model.specs.State.{no_cpu, state_of, cpu_at, up_with}
use Rattle.model.specs.States.{run, off_of}
use Rattle.model.specs.Table.{table_of, domain_row_of, levels_filled_of}
use Rattle.model.specs.Topology.{domains_of, cpus_of, boardb}
use Rattle.model.specs.Tree.{no_parent, no_row, no_tree, tree_of, cpu_parents_of, parent_at}

-- a board as it is stored
abbrev pub board_of : Platform → CpuNumber → List ℕ → Board
board_of p primary t =
    record { platform = p; primary = primary; topology = table_of entry_limit 0 (λ i. get_or t i 0) (length t) }

module _ (p : Platform) (t : List ℕ) where
  abbrev max : ℕ
  max = p.max.0

  abbrev cpus : ℕ
  cpus = cpus_of t max

  abbrev domains : ℕ
  domains = domains_of t max

  -- every CPU Off, in state OFF, with no entry point
  abbrev pub cpus_off_of : List CpuPowerNode
  cpus_off_of = table_of cpu_limit no_cpu (λ c. new_of (record { 0 = get_or (cpu_parents_of t max) c 0 }) (off_of p)) cpus

  -- every state, request and child copy OFF, and no suspend state; a top domain has no copy
  abbrev pub domains_off_of : Domains
  domains_off_of = record {
    states = domain_row_of (λ _. off_of p) domains;
    requests = levels_filled_of (off_of p) cpus max;
    suspends = levels_filled_of no_suspend_state cpus max;
    copies = domain_row_of (λ k. cond (eqb (parent_at (tree_of t max) k) no_parent) 0 (off_of p)) domains;
  }

-- a CPU that is On and RUN
abbrev pub running_of : CpuPowerNode → CpuPowerNode
running_of c = set_local_state_of (set_affinity_info_of c affinity.On) run

-- all is off
abbrev pub all_off_of : Platform → CpuNumber → List ℕ → State
all_off_of p primary t =
    state_of (board_of p primary t) (tree_of t p.max.0) (cpus_off_of p t) (domains_off_of p t) mode.PlatformCoordinated

-- the CPU is On and RUN, with set_running along its path
abbrev pub brought_up : State → ℕ → State
brought_up s c = up_with s c (running_of (cpu_at s c))

-- a state of zeros
abbrev pub no_state : State
no_state =
    state_of
    (record {
      platform = record { max = record { 0 = 0 }; states = 0; down = 0 };
      primary = record { 0 = 0 };
      topology = replicate entry_limit 0;
    })
    no_tree (replicate cpu_limit no_cpu)
    (record { states = no_row; requests = replicate request_slots 0; suspends = replicate request_slots 0; copies = no_row })
    mode.PlatformCoordinated

-- all is off, and then the primary is brought up; a board that is not acceptable is 101
unfoldable pub fresh_of : Platform → CpuNumber → List ℕ → FreshAnswer
fresh_of p primary t =
    cond (boardb p primary t)
    (record { code = Ok tt; state = brought_up (all_off_of p primary t) primary.0 })
    (record { code = Err code.BadBoard; state = no_state })
