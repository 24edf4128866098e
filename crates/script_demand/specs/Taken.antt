-- What a run takes from its bytes: the calls, in order, and their answer records.
use Rattle.std.specs.Prelude.{ℕ, zero, suc, ◌+◌, ◌-◌, cond, List, [], ◌∷◌, ◌++◌, ltb, drop}
use Rattle.model.specs.State.{max_at}
use Rattle.model.specs.declared.call.Call.{Call}
use Rattle.model.specs.declared.state.State.{State}
use Rattle.script.specs.AnswerRecord.{answer_size}
use Rattle.script.specs.Record.{read_of}
use Rattle.script.specs.Run.{Run, record_of_event, event_answer_of, start_of, run_of}
use Rattle.script.specs.declared.record.Read.{Read}
use Rattle.script.specs.declared.record.Read.TheVariants as read

-- none where no event is read
abbrev pub taken_if : Read → (Call → ℕ → List Call) → List Call
taken_if read.End f = []
taken_if (read.Event c next) f = f c next
taken_if read.Malformed f = []

-- the calls that a run takes, on a board with this MAX
unfoldable pub taken_of : (budget room max : ℕ) → List ℕ → List Call
taken_of zero room max l = []
taken_of (suc budget) room max l =
    taken_if (read_of max l) (λ c next.
    cond (ltb room answer_size) [] (c ∷ taken_of budget (room - answer_size) max (drop next l)))

-- the answer records of calls, one after the other, where so many events were taken before
unfoldable pub records_of : ℕ → State → List Call → List ℕ
records_of taken s [] = []
records_of taken s (c ∷ cs) =
    record_of_event (taken + 1) (event_answer_of s c) ++ records_of (taken + 1) (event_answer_of s c).state cs

-- the calls that a script's run takes: they follow its board record
abbrev pub script_calls : (budget room : ℕ) → List ℕ → List Call
script_calls budget room l = taken_of budget room (max_at (start_of l).state) (drop (start_of l).next l)

-- the run of a script
abbrev pub script_run : (budget room : ℕ) → List ℕ → Run
script_run budget room l = run_of budget room (drop (start_of l).next l) 0 (start_of l).state
