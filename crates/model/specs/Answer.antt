-- docs/REFERENCE.md, 'Answers and what goes out'.
use Rattle.std.specs.Prelude.{Bool, true, false, cond, List, [], get_or, Ok, Err, ℕ, map, Option, None, Some}
use Rattle.model.specs.declared.answer.CallAnswer.{CallAnswer}
use Rattle.model.specs.declared.answer.Notice.{Notice}
use Rattle.model.specs.declared.answer.Notices.{Notices}
use Rattle.model.specs.declared.answer.Outgoing.{Outgoing}
use Rattle.model.specs.declared.answer.WakeUpReason.{WakeUpReason}
use Rattle.model.specs.declared.answer.WakeUpReason.TheVariants as wake
use Rattle.model.specs.declared.code.Refusal.{Refusal}
use Rattle.model.specs.declared.cpu.EntryPoint.{EntryPoint}
use Rattle.model.specs.declared.state.State.{State}
use Rattle.model.specs.declared.states.CompositeState.{CompositeState}
use Rattle.model.specs.Composite.{all_run}
use Rattle.model.specs.Numbers.{Code, acceptedb}

-- the notice at a place, where there is one
abbrev pub notice_in : List Notice → ℕ → Option Notice
notice_in l k = get_or (map Some l) k None

-- notices in order, the unused places last
abbrev pub notices_of : List Notice → Notices
notices_of l = record {
  first = notice_in l 0;
  second = notice_in l 1;
  third = notice_in l 2;
  fourth = notice_in l 3;
  fifth = notice_in l 4;
}

-- what goes out: states, notices, whether a suspend was not entered, which wake it was, and the entry that is handed out
abbrev pub outgoing : CompositeState → Notices → Bool → Option WakeUpReason → Option EntryPoint → Outgoing
outgoing states notices not_entered reason e =
    record { states = states; notices = notices; not_entered = not_entered; wake = reason; entry = e }

-- nothing goes out
abbrev pub nothing_out : Outgoing
nothing_out = outgoing all_run (notices_of []) false None None

-- a suspend is not entered
abbrev pub not_entered_out : Outgoing
not_entered_out = outgoing all_run (notices_of []) true None None

-- the states are handed to the platform, and these notices go out
abbrev pub notices_out : CompositeState → List Notice → Outgoing
notices_out states l = outgoing states (notices_of l) false None None

abbrev pub answered : Code → Outgoing → State → CallAnswer
answered k out s = record { code = k; out = out; state = s }

-- accepted
abbrev pub accepted : Outgoing → State → CallAnswer
accepted = answered (Ok tt)

-- a refusal leaves the state as it was handed in, and nothing goes out
abbrev pub refused : State → Code → CallAnswer
refused s k = answered k nothing_out s

-- 0 acts, and any other number refuses
unfoldable pub decided : State → Code → CallAnswer → CallAnswer
decided s k done = cond (acceptedb k) done (refused s k)

-- a check: the refusal if the test fails, and else what the further checks give
abbrev pub must : Bool → Refusal → Code → Code
must test r rest = cond test rest (Err r)
