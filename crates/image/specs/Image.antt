-- docs/REFERENCE.md, 'A state in bytes'.
use Rattle.std.specs.Prelude.{ℕ, ◌+◌, ◌*◌, cond, List, eqb, Option, None, Some}
use Rattle.model.specs.Limits.{cpu_limit, domain_limit, entry_limit, request_slots}
use Rattle.model.specs.State.{no_cpu}
use Rattle.model.specs.Table.{table_of}
use Rattle.model.specs.declared.board.Board.{Board}
use Rattle.model.specs.declared.board.Tree.{Tree}
use Rattle.model.specs.declared.cpu.AffinityInfo.{AffinityInfo}
use Rattle.model.specs.declared.cpu.AffinityInfo.TheVariants as affinity
use Rattle.model.specs.declared.cpu.CpuPowerNode.{CpuPowerNode}
use Rattle.model.specs.declared.cpu.EntryPoint.{EntryPoint}
use Rattle.model.specs.declared.state.Domains.{Domains}
use Rattle.model.specs.declared.state.State.{State}
use Rattle.model.specs.declared.state.SuspendMode.{SuspendMode}
use Rattle.model.specs.declared.state.SuspendMode.TheVariants as mode
use Rattle.script.specs.Bytes.{byte_at, number_at}

-- so many bytes from a place on, as a row
abbrev pub row_in : ℕ → List ℕ → ℕ → List ℕ
row_in slots l place = table_of slots 0 (λ i. byte_at l (place + i)) slots

abbrev pub affinity_in : ℕ → AffinityInfo
affinity_in b = cond (eqb b 0) affinity.On (cond (eqb b 1) affinity.Off affinity.OnPending)

abbrev pub mode_in : ℕ → SuspendMode
mode_in b = cond (eqb b 0) mode.PlatformCoordinated mode.OsInitiated

abbrev pub entry_in : ℕ → ℕ → ℕ → Option EntryPoint
entry_in held address context = cond (eqb held 0) None (Some (record { address = address; context = context }))

-- a CPU in 20 bytes: parent, affinity, state, whether an entry is held, its address and its context
abbrev pub cpu_in : List ℕ → ℕ → CpuPowerNode
cpu_in l place = record {
  parent = record { 0 = byte_at l place };
  affinity_info = affinity_in (byte_at l (place + 1));
  local_state = byte_at l (place + 2);
  entry_point = entry_in (byte_at l (place + 3)) (number_at 8 l (place + 4)) (number_at 8 l (place + 12));
}

abbrev pub cpus_in : List ℕ → ℕ → List CpuPowerNode
cpus_in l place = table_of cpu_limit no_cpu (λ c. cpu_in l (place + 20 * c)) cpu_limit

module _ (l : List ℕ) where
  abbrev pub board_in : Board
  board_in = record {
    platform = record { max = record { 0 = byte_at l 0 }; states = byte_at l 1; down = byte_at l 2 };
    primary = record { 0 = byte_at l 3 };
    topology = row_in entry_limit l 4;
  }

  abbrev pub tree_in : Tree
  tree_in = record {
    domain_count = byte_at l 21;
    cpu_count = byte_at l 22;
    parents = row_in domain_limit l 23;
    cpu_starts = row_in domain_limit l 39;
    cpu_ends = row_in domain_limit l 55;
    child_starts = row_in domain_limit l 71;
    child_ends = row_in domain_limit l 87;
  }

  abbrev pub domains_in : Domains
  domains_in = record {
    states = row_in domain_limit l 423;
    requests = row_in request_slots l 439;
    suspends = row_in request_slots l 487;
    copies = row_in domain_limit l 535;
  }

  -- the whole state
  unfoldable pub state_in : State
  state_in = record {
    board = board_in;
    tree = tree_in;
    cpus = cpus_in l 103;
    domains = domains_in;
    mode = mode_in (byte_at l 551);
  }
