use Rattle.std.proofs.Common.{arith, sym, ◌∙◌}
use Rattle.states.proofs.Highest.{highest_end, highest_found, highest_next}
use Rattle.states.proofs.request.highest_at.Goals as goal

pub returns-then-test : goal.returns-then-test
returns-then-test g c holds gives =
    let l = c.loop-level in
    sym (l.invariant holds gives
    ∙ highest_found holds l.level (omega (arith, c.loop-level-test.true)) (sym (gives _ _ c.test.ensures) ∙ c.if-test.true))

pub loop-level-preserved : goal.loop-level-preserved
loop-level-preserved g c holds gives =
    let l = c.loop-level in
    l.invariant holds gives
    ∙ highest_next holds l.level (omega (arith, c.loop-level-test.true)) (sym (gives _ _ c.test.ensures) ∙ c.if-test.false)

pub returns : goal.returns
returns g c holds gives =
    let l = c.loop-level in
    sym (l.invariant holds gives ∙ highest_end holds l.level (omega (arith, c.loop-level-test.false)))
