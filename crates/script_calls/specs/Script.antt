-- A whole script.
use Rattle.std.specs.Prelude.{ℕ, cond, List}
use Rattle.model.specs.Numbers.{acceptedb}
use Rattle.script.specs.Run.{Run, run_of, start_of, stopped}
use Rattle.script.specs.declared.run.Start.{Start}

-- the run from a start, or none
abbrev pub run_from : ℕ → ℕ → List ℕ → Start → Run
run_from budget room events s =
    cond (acceptedb s.code) (run_of budget room events 0 s.state) (stopped s.code 0 s.state)

-- a board's record, and then events
unfoldable pub script_of : (budget room : ℕ) → (board events : List ℕ) → Run
script_of budget room board events = run_from budget room events (start_of board)
