-- docs/REFERENCE.md, 'A request and its reply'.
use Rattle.std.specs.Prelude.{ℕ, zero, suc, ◌+◌, ◌*◌, cond, List, [], ◌∷◌, ◌++◌, eqb, drop, take, Err}
use Rattle.image.specs.Image.{state_in}
use Rattle.model.specs.Answer.{answered, nothing_out, refused}
use Rattle.model.specs.Calls.{call_of}
use Rattle.model.specs.Composite.{state_at}
use Rattle.model.specs.State.{cpu_at, max_at}
use Rattle.model.specs.Table.{filled_of}
use Rattle.model.specs.declared.answer.CallAnswer.{CallAnswer}
use Rattle.model.specs.declared.code.Refusal.TheVariants as code
use Rattle.model.specs.declared.state.State.{State}
use Rattle.script.specs.Bytes.{byte_at}
use Rattle.script.specs.Record.{read_of}
use Rattle.script.specs.Run.{start_of}
use Rattle.script.specs.declared.record.Read.{Read}
use Rattle.script.specs.declared.record.Read.TheVariants as read
use Rattle.script.specs.declared.run.Start.{Start}
use Rattle.traced_bytes.specs.Bytes.{board_byte, counts_byte, cpu_byte, entry_byte, head_byte, mode_byte, notice_at, notice_bytes}
use Rattle.traced_bytes.specs.Queries.{all_on_byte, allowed_byte, beside_byte, last_byte, last_to_idle_byte}
use Rattle.traced.specs.declared.table.Table.{Table}
use Rattle.traced.specs.declared.table.Table.TheVariants as table

module _ (a : CallAnswer) where
  abbrev s : State
  s = a.state

  -- what stands in a table, by row and column
  unfoldable pub cell_of : Table → ℕ → ℕ → ℕ
  cell_of table.Head k i = head_byte a i
  cell_of table.HandedOut k i = entry_byte a.out.entry i
  cell_of table.States k i = state_at a.out.states i
  cell_of table.Notices k i = byte_at (notice_bytes (notice_at a.out.notices k)) i
  cell_of table.Board k i = board_byte s.board i
  cell_of table.Topology k i = byte_at s.board.topology i
  cell_of table.Counts k i = counts_byte s.tree i
  cell_of table.Parents k i = byte_at s.tree.parents i
  cell_of table.CpuStarts k i = byte_at s.tree.cpu_starts i
  cell_of table.CpuEnds k i = byte_at s.tree.cpu_ends i
  cell_of table.ChildStarts k i = byte_at s.tree.child_starts i
  cell_of table.ChildEnds k i = byte_at s.tree.child_ends i
  cell_of table.Cpus k i = cpu_byte (cpu_at s k) i
  cell_of table.DomainStates k i = byte_at s.domains.states i
  cell_of table.Requests k i = byte_at s.domains.requests i
  cell_of table.Suspends k i = byte_at s.domains.suspends i
  cell_of table.Copies k i = byte_at s.domains.copies i
  cell_of table.Mode k i = mode_byte s.mode
  cell_of table.AllOn k i = all_on_byte s
  cell_of table.IsLast k i = last_byte s i
  cell_of table.LastToIdle k i = last_to_idle_byte s k i
  cell_of table.Allowed k i = allowed_byte s k i
  cell_of table.AllowedBesideChild k i = beside_byte s k i

  -- the rows of a table, one after the other from a place on
  unfoldable pub rows_onto : Table → ℕ → ℕ → ℕ → List ℕ → List ℕ
  rows_onto t place columns zero out = out
  rows_onto t place columns (suc k) out =
      filled_of (cell_of t k) (place + columns * k) columns (rows_onto t place columns k out)

-- a table with its size
pub record Sized : Type 0 where
  pub table : Table
  pub rows : ℕ
  pub columns : ℕ

abbrev pub sized : Table → ℕ → ℕ → Sized
sized t rows columns = record { table = t; rows = rows; columns = columns }

-- tables one after the other
unfoldable pub tables_onto : CallAnswer → List Sized → ℕ → List ℕ → List ℕ
tables_onto a [] place out = out
tables_onto a (t ∷ rest) place out =
    tables_onto a rest (place + t.rows * t.columns) (rows_onto a t.table place t.columns t.rows out)

-- the code and what goes out
abbrev pub going_out : List Sized
going_out = sized table.Head 1 3 ∷ sized table.HandedOut 1 17 ∷ sized table.States 1 4 ∷ sized table.Notices 5 17 ∷ []

-- the state after the call: its board
abbrev pub board : List Sized
board = sized table.Board 1 4 ∷ sized table.Topology 1 17 ∷ sized table.Counts 1 2 ∷ []

-- its tree
abbrev pub tree : List Sized
tree =
    sized table.Parents 1 16 ∷ sized table.CpuStarts 1 16 ∷ sized table.CpuEnds 1 16 ∷ sized table.ChildStarts 1 16
    ∷ sized table.ChildEnds 1 16 ∷ []

-- and what changes of it
abbrev pub power : List Sized
power =
    sized table.Cpus 16 20 ∷ sized table.DomainStates 1 16 ∷ sized table.Requests 1 48 ∷ sized table.Suspends 1 48
    ∷ sized table.Copies 1 16 ∷ sized table.Mode 1 1 ∷ []

-- the queries of that state
abbrev pub queries : List Sized
queries =
    sized table.AllOn 1 1 ∷ sized table.IsLast 1 16 ∷ sized table.LastToIdle 16 4 ∷ sized table.Allowed 16 16
    ∷ sized table.AllowedBesideChild 16 16 ∷ []

-- an answer in bytes
unfoldable pub reply_onto : CallAnswer → List ℕ → List ℕ
reply_onto a out = tables_onto a (going_out ++ board ++ tree ++ power ++ queries) 0 out

-- the start on a fresh board: nothing goes out
abbrev pub started_of : Start → CallAnswer
started_of x = answered x.code nothing_out x.state

-- an event that was read, or 108
abbrev pub event_of : State → Read → CallAnswer
event_of s read.End = refused s (Err code.Malformed)
event_of s (read.Event c next) = call_of s c
event_of s read.Malformed = refused s (Err code.Malformed)

-- a request: its kind, a record in 28 bytes, and for an event the state before it
abbrev pub record_in : List ℕ → List ℕ
record_in l = take 28 (drop 1 l)

abbrev pub image_in : List ℕ → List ℕ
image_in l = take 552 (drop 29 l)

unfoldable pub answer_to : List ℕ → CallAnswer
answer_to l =
    cond (eqb (byte_at l 0) 2) (started_of (start_of (record_in l)))
    (event_of (state_in (image_in l)) (read_of (max_at (state_in (image_in l))) (record_in l)))
