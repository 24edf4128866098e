-- A board that lies in rows: what the calls read of it, and what they make of it.
use Rattle.std.specs.Prelude.{ℕ, cond, List, [], ◌∷◌, ℤ, get_or, set}
use Rattle.board_calls.specs.declared.kept.BoardView.{BoardView}
use Rattle.cpu_table.specs.CpuTable.{cpu_in, stored_in}
use Rattle.cpu_table.specs.declared.CpuRows.{CpuRows}
use Rattle.image.specs.Image.{mode_in}
use Rattle.in_place.specs.Stepped.{Outcome}
use Rattle.in_place.specs.declared.Stepped.{Stepped}
use Rattle.model.specs.declared.board.Tree.{Tree}
use Rattle.model.specs.declared.cpu.CpuPowerNode.{CpuPowerNode}
use Rattle.model.specs.declared.state.Domains.{Domains}
use Rattle.model.specs.declared.state.SuspendMode.{SuspendMode}
use Rattle.model.specs.declared.states.CompositeState.{CompositeState}
use Rattle.model.specs.declared.states.Platform.{Platform}
use Rattle.model.specs.Numbers.{Code, acceptedb, number_of}
use Rattle.model.specs.Tree.{no_row}

-- the row of the board: MAX, how many states there are, d, how many CPUs there are, the mode
module _ (board : List ℕ) where
  abbrev pub platform_on : Platform
  platform_on = record { max = record { 0 = get_or board 0 0 }; states = get_or board 1 0; down = get_or board 2 0 }

  abbrev pub count_on : ℕ
  count_on = get_or board 3 0

  abbrev pub mode_on : SuspendMode
  mode_on = mode_in (get_or board 4 0)

  -- the tree, but for what no call reads
  abbrev pub tree_on : (parents starts ends : List ℕ) → Tree
  tree_on parents starts ends = record {
    domain_count = 0;
    cpu_count = count_on;
    parents = parents;
    cpu_starts = starts;
    cpu_ends = ends;
    child_starts = no_row;
    child_ends = no_row;
  }

-- the same of rows that are lent together
abbrev pub tree_of : BoardView → Tree
tree_of b = tree_on b.row.now b.parents.now b.starts.now b.ends.now

-- the states that the platform is handed, from the CPU up
abbrev pub handed_bytes : CompositeState → List ℕ
handed_bytes x = x.level0 ∷ x.level1 ∷ x.level2 ∷ x.level3 ∷ []

-- what comes of a call: its number, and the rows after it
pub record Called : Type 0 where
  pub number : ℤ
  pub domains : Domains
  pub cpus : CpuRows
  pub handed : List ℕ

abbrev pub called : ℤ → Domains → CpuRows → List ℕ → Called
called number domains cpus handed = record { number = number; domains = domains; cpus = cpus; handed = handed }

-- the record of the CPU that is named is stored if the call is accepted, and else no row changes
abbrev pub record_kept : CpuRows → ℕ → Stepped → CpuRows
record_kept cpus c x = cond (acceptedb x.code) (stored_in cpus c x.node) cpus

-- so it is with the states that are handed out
abbrev pub states_kept : List ℕ → Stepped → List ℕ
states_kept handed x = cond (acceptedb x.code) (handed_bytes x.states) handed

-- a call on the record of a CPU and on the domains
abbrev pub call_on : Domains → CpuRows → List ℕ → ℕ → (CpuPowerNode → Domains → Outcome) → Called
call_on domains cpus handed c does =
    let x = does (cpu_in cpus c) domains in
    called (number_of x.stepped.code) x.domains (record_kept cpus c x.stepped) (states_kept handed x.stepped)

-- On changes the target's record alone
pub record Turned : Type 0 where
  pub number : ℤ
  pub cpus : CpuRows

abbrev pub turned : ℤ → CpuRows → Turned
turned number cpus = record { number = number; cpus = cpus }

abbrev pub turn_on : CpuRows → ℕ → Stepped → Turned
turn_on cpus target x = turned (number_of x.code) (record_kept cpus target x)

-- Set mode changes the board's row alone
pub record Moded : Type 0 where
  pub number : ℤ
  pub board : List ℕ

abbrev pub moded : ℤ → List ℕ → Moded
moded number board = record { number = number; board = board }

abbrev pub mode_set : List ℕ → ℕ → Code → Moded
mode_set board mode k = moded (number_of k) (cond (acceptedb k) (set board 4 mode) board)
