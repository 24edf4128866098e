-- A state that lies in rows while a script runs.
use Rattle.std.specs.Prelude.{ℕ, Bool, ◌≡◌}
use Rattle.cpu_table.specs.CpuTable.{cpus_in}
use Rattle.cpu_table.specs.declared.CpuRows.{CpuRows}
use Rattle.kept.specs.Lengths.{Lengths}
use Rattle.model.specs.declared.board.Board.{Board}
use Rattle.model.specs.declared.board.Tree.{Tree}
use Rattle.model.specs.Numbers.{Code}
use Rattle.model.specs.declared.state.Domains.{Domains}
use Rattle.model.specs.declared.state.State.{State}
use Rattle.model.specs.declared.state.SuspendMode.{SuspendMode}
use Rattle.model.specs.declared.states.CompositeState.{CompositeState}
use Rattle.model.specs.SoundTest.{soundb}
use Rattle.model.specs.State.{state_of}
use Rattle.script.specs.declared.run.EventAnswer.{EventAnswer}
use Rattle.script.specs.declared.run.RunAnswer.{RunAnswer}

-- the test came out like this, and the tables have their lengths
pub record Carried (sound : Bool) (s : State) : Type 0 where
  pub outcome : sound ≡ soundb s
  pub lengths : Lengths s

-- the state that rows stand for
abbrev pub state_in : Board → Tree → CpuRows → Domains → SuspendMode → State
state_in board tree cpus domains mode = state_of board tree (cpus_in cpus) domains mode

abbrev pub event_answer : Code → CompositeState → State → EventAnswer
event_answer code shown state = record { code = code; shown = shown; state = state }

abbrev pub run_answer : ℕ → Code → ℕ → State → RunAnswer
run_answer events closing written state = record { events = events; closing = closing; written = written; state = state }
