-- The rows of a board, and how they are filled at its start.
use Rattle.std.specs.Prelude.{ℕ, cond, List, [], ◌∷◌, ℤ}
use Rattle.cpu_table.specs.CpuTable.{rows_of}
use Rattle.cpu_table.specs.declared.CpuRows.{CpuRows}
use Rattle.model.specs.declared.state.Domains.{Domains}
use Rattle.model.specs.declared.state.FreshAnswer.{FreshAnswer}
use Rattle.model.specs.declared.state.State.{State}
use Rattle.model.specs.declared.states.Platform.{Platform}
use Rattle.model.specs.Numbers.{acceptedb, number_of}
use Rattle.model.specs.State.{cpu_count_of, platform_at}

-- all the rows of a board
pub record BoardRows : Type 0 where
  pub board : List ℕ
  pub parents : List ℕ
  pub starts : List ℕ
  pub ends : List ℕ
  pub domains : Domains
  pub cpus : CpuRows

abbrev pub board_rows : (board parents starts ends : List ℕ) → Domains → CpuRows → BoardRows
board_rows board parents starts ends domains cpus =
    record { board = board; parents = parents; starts = starts; ends = ends; domains = domains; cpus = cpus }

-- the row of a board that starts; it is platform-coordinated
abbrev pub board_bytes : Platform → ℕ → List ℕ
board_bytes p count = p.max.0 ∷ p.states ∷ p.down ∷ count ∷ 0 ∷ []

-- the rows of a state in which a board starts
abbrev pub start_rows : State → BoardRows
start_rows s =
    board_rows (board_bytes (platform_at s) (cpu_count_of s)) s.tree.parents s.tree.cpu_starts s.tree.cpu_ends
    s.domains (rows_of s.cpus)

-- what comes of a start: its number, and the rows after it
pub record Started : Type 0 where
  pub number : ℤ
  pub rows : BoardRows

abbrev pub started : ℤ → BoardRows → Started
started number rows = record { number = number; rows = rows }

-- the rows are those of the fresh state, and if that is refused no row changes
abbrev pub start_on : BoardRows → FreshAnswer → Started
start_on r a = started (number_of a.code) (cond (acceptedb a.code) (start_rows a.state) r)
