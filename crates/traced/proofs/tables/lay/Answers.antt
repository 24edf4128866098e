use Rattle.std.proofs.Common.{refl, add-one}
use Rattle.traced.specs.Reply.{rows_onto}
use Rattle.traced.proofs.tables.lay.Goals as goal

pub loop-k-init : goal.loop-k-init
unfolding rows_onto
loop-k-init c = refl

pub loop-k-preserved : goal.loop-k-preserved
unfolding rows_onto
loop-k-preserved c = rw (c.lay_row.ensures, c.loop-k.invariant, add-one)
