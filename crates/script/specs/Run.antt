-- docs/REFERENCE.md, 'A run'.
use Rattle.std.specs.Prelude.{ℕ, zero, suc, ◌+◌, ◌-◌, ◌*◌, Bool, cond, List, [], ◌++◌, ltb, length, take, drop, Ok, Err, Option, None, Some}
use Rattle.model.specs.Calls.{body_of, tested, call_of}
use Rattle.model.specs.Fresh.{no_state, fresh_of}
use Rattle.model.specs.State.{max_at}
use Rattle.model.specs.declared.answer.CallAnswer.{CallAnswer}
use Rattle.model.specs.declared.call.Call.{Call}
use Rattle.model.specs.Numbers.{Code}
use Rattle.model.specs.declared.code.Refusal.TheVariants as code
use Rattle.model.specs.declared.state.FreshAnswer.{FreshAnswer}
use Rattle.model.specs.declared.state.State.{State}
use Rattle.script.specs.declared.record.Read.{Read}
use Rattle.script.specs.declared.record.Read.TheVariants as read
use Rattle.script.specs.declared.record.BoardRecord.{BoardRecord}
use Rattle.script.specs.declared.run.EventAnswer.{EventAnswer}
use Rattle.script.specs.declared.run.RunAnswer.{RunAnswer}
use Rattle.script.specs.declared.run.Start.{Start}
use Rattle.script.specs.AnswerRecord.{answer_size, named_of, shown_of, answer_bytes}
use Rattle.script.specs.Record.{read_code_of, read_board_code_of, emptyb, read_of, topology_place, read_board_of}

-- the topology of a board record of this length
abbrev pub topology_in : ℕ → List ℕ → List ℕ
topology_in size l = take (size - topology_place) (drop topology_place l)

-- the fresh state, and the place of the first event
abbrev pub start_at : ℕ → FreshAnswer → Start
start_at next f = record { code = f.code; next = next; state = f.state }

-- a script starts fresh on the board of its first record; 108, or 101
abbrev pub start_with : Option BoardRecord → List ℕ → Start
start_with (Some b) l = start_at b.next (fresh_of b.platform b.primary (topology_in b.next l))
start_with None l = record { code = read_board_code_of None; next = 0; state = no_state }

unfoldable pub start_of : List ℕ → Start
start_of l = start_with (read_board_of l) l

-- what a run gives: its answer, and the bytes that it writes
pub record Run : Type 0 where
  pub answer : RunAnswer
  pub bytes : List ℕ

-- it stops after so many events
abbrev pub stopped : Code → ℕ → State → Run
stopped closing events s =
    record { answer = record { events = events; closing = closing; written = answer_size * events; state = s }; bytes = [] }

-- bytes come before those of the rest
abbrev pub after : List ℕ → Run → Run
after bytes r = record { answer = r.answer; bytes = bytes ++ r.bytes }

-- the output that it was lent, after it: what is not written is as it was
abbrev pub out_after : List ℕ → Run → List ℕ
out_after out r = r.bytes ++ drop (length r.bytes) out

-- the event, or the number of what else was read
abbrev pub event_or : Read → (Code → Run) → (Call → ℕ → Run) → Run
event_or read.End stop f = stop (read_code_of read.End)
event_or (read.Event c next) stop f = f c next
event_or read.Malformed stop f = stop (read_code_of read.Malformed)

-- what an event gives when its call has this answer: its code, the states along the path of the CPU that it names, and the next state
abbrev pub event_gives : Call → CallAnswer → EventAnswer
event_gives c a = record { code = a.code; shown = shown_of a.state (named_of c); state = a.state }

unfoldable pub event_answer_of : State → Call → EventAnswer
event_answer_of s c = event_gives c (call_of s c)

-- the same where the test of the state came out as is said
unfoldable pub event_answer_as : Bool → State → Call → EventAnswer
event_answer_as sound s c = event_gives c (tested sound s (body_of s c))

-- the answer record of an event
abbrev pub record_of_event : ℕ → EventAnswer → List ℕ
record_of_event number x = answer_bytes number x.code x.shown

-- with budget, room in the output and input that are left, and events that are taken. At each event: clean end (0), 112, 108, 110, then
-- the call, and its answer record
unfoldable pub run_of : (budget room : ℕ) → List ℕ → ℕ → State → Run
run_of zero room l taken s = stopped (cond (emptyb l) (Ok tt) (Err code.BudgetSpent)) taken s
run_of (suc budget) room l taken s =
    event_or (read_of (max_at s) l) (λ closing. stopped closing taken s) (λ c next.
    cond (ltb room answer_size) (stopped (Err code.NoRoom) taken s)
    (after (record_of_event (taken + 1) (event_answer_of s c))
    (run_of budget (room - answer_size) (drop next l) (taken + 1) (event_answer_of s c).state)))
