use Rattle.std.proofs.Common.{replicate}
use Rattle.model.proofs.Tables.{filled_none, filled_turn}
use Rattle.topology.proofs.fill.row.Goals as goal

pub loop-k-init : goal.loop-k-init
loop-k-init g c b gives = filled_none b 0 (replicate g.row.N 0)

pub loop-k-preserved : goal.loop-k-preserved
loop-k-preserved g c b gives =
    let l = c.loop-k in
    filled_turn b (replicate g.row.N 0) l.k l.row c.put.new.row c.byte.result (l.invariant b gives) (gives _ _ c.byte.ensures) c.put.ensures
