-- What a run carries from event to event, from one test on: a call leaves a state as sound as it was.
use mathlib.Core.Bool.{Bool}
use mathlib.Core.List.{List}
use mathlib.Core.Path.{◌≡◌, sym, ap, subst, ◌∙◌}
use Rattle.cpu_table.proofs.Rows.{table_of_rows}
use Rattle.cpu_table.specs.CpuTable.{cpus_in, rows_of}
use Rattle.cpu_table.specs.declared.CpuRows.{CpuRows}
use Rattle.kept.proofs.Kept.{lengths_stay, sound_stays}
use Rattle.kept.specs.Lengths.{Lengths}
use Rattle.model.specs.declared.call.Call.{Call}
use Rattle.model.specs.declared.cpu.CpuPowerNode.{CpuPowerNode}
use Rattle.model.specs.declared.state.State.{State}
use Rattle.model.specs.State.{state_of}
use Rattle.script.specs.declared.run.EventAnswer.{EventAnswer}
use Rattle.script.specs.Run.{event_answer_of, event_answer_as}
use Rattle.script_run.specs.Rows.{Carried, state_in}

module _ {sound : Bool} {s : State} (c : Call) {x : EventAnswer} (k : Carried sound s) (h : x ≡ event_answer_as sound s c) where
  -- the event is answered as if its call tested
  pub carried_answer : x ≡ event_answer_of s c
  unfolding event_answer_of event_answer_as
  carried_answer = h ∙ rw k.outcome

  -- and the same is carried on to the next state
  pub carried_next : Carried sound x.state
  unfolding event_answer_of
  carried_next =
      subst (λ (y : EventAnswer). Carried sound y.state) (sym carried_answer)
      (record { outcome = k.outcome ∙ sym (sound_stays s k.lengths c); lengths = lengths_stay s k.lengths c })

-- the rows of a state stand for it
pub rows_stand : (s : State) {x : CpuRows} → Lengths s → x ≡ rows_of s.cpus → state_in s.board s.tree x s.domains s.mode ≡ s
rows_stand s l h =
    ap (λ (t : List CpuPowerNode). state_of s.board s.tree t s.domains s.mode)
    (ap cpus_in h ∙ table_of_rows s.cpus l.cpus)
