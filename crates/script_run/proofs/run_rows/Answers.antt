use Rattle.std.proofs.Common.{◌≡◌, sym, ◌∙◌, rules, arith}
use Rattle.script.specs.declared.record.Read.TheVariants as read
use Rattle.script_laws.proofs.Parts.{some_left, none_left, within_whole}
use Rattle.script_laws.proofs.Reached.{reached_step, reached_end}
use Rattle.script_laws.proofs.Record.{read_left, read_within}
use Rattle.script_laws.proofs.Run.{run_end, run_spent, run_malformed, run_full}
use Rattle.script_run.proofs.Carried.{carried_answer, carried_next}
use Rattle.script_run.proofs.Read.{read_none}
use Rattle.script_run.proofs.run_rows.Goals as goal

-- 112
pub returns-then-budget-events-clause-value : goal.returns-then-budget-events-clause-value
returns-then-budget-events-clause-value c =
    let l = c.loop-at in
    reached_end _ _ _ l.invariant.2 l.invariant.1
    (run_spent _ _ _ _ _ (some_left _ _ c.loop-at-test.true) c.if-budget-events.true)

-- 108
pub returns-in_default-clause-value : goal.returns-in_default-clause-value
returns-in_default-clause-value c =
    let l = c.loop-at in
    let g = read_left _ l.at c.args.input.now c.read_record.ensures in
    let m : c.read_record.result ≡ read.Malformed =
    read_none _ _ (some_left _ _ c.loop-at-test.true) c.read_record.result (sym g) c.in_default.not-Event in
    reached_end _ _ _ l.invariant.2 l.invariant.1 (run_malformed _ _ _ _ _ c.if-budget-events.false (g ∙ m))

-- the record lies within the input
pub overflow_add-next : goal.overflow_add-next
overflow_add-next c =
    let l = c.loop-at in
    let g = read_left _ l.at c.args.input.now c.in-Event.ensures in
    let h = read_within _ _ _ _ g in
    let n = within_whole l.at _ c.args.input.now (omega arith) h.1 in
    search rules

-- 110
pub returns-then-out-written-lt-ANSWER-clause-value : goal.returns-then-out-written-lt-ANSWER-clause-value
returns-then-out-written-lt-ANSWER-clause-value c =
    let l = c.loop-at in
    let g = read_left _ l.at c.args.input.now c.in-Event.ensures in
    reached_end _ _ _ l.invariant.2 l.invariant.1
    (run_full _ _ _ _ _ c.if-budget-events.false _ _ g c.if-out-written-lt-ANSWER.true)

-- an event is taken
pub loop-at-preserved : goal.loop-at-preserved
loop-at-preserved c =
    let l = c.loop-at in
    let g = read_left _ l.at c.args.input.now c.in-Event.ensures in
    let w = l.invariant.1 in
    let b = c.if-budget-events.false in
    let x = c.event-done.ensures.value in (
      omega (arith, b),
      omega (arith, w),
      reached_step _ _ _ _ _ _ _ _ _ l.invariant.2 b g c.if-out-written-lt-ANSWER.false
          (carried_answer _ l.invariant.3 x) c.write_answer.ensures.out_after,
      carried_next _ l.invariant.3 x,
      search rules,
      search rules,
    )

-- the clean end
pub returns-clause-value : goal.returns-clause-value
returns-clause-value c =
    let l = c.loop-at in
    reached_end _ _ _ l.invariant.2 l.invariant.1 (run_end _ _ _ _ _ (none_left l.at c.args.input.now (omega arith)))
