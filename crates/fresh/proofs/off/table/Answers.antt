use Rattle.std.proofs.Common.{replicate}
use Rattle.model.proofs.Tables.{filled_none, filled_turn}
use Rattle.fresh.proofs.off.table.Goals as goal

pub loop-k-init : goal.loop-k-init
loop-k-init g c e gives = filled_none e 0 (replicate g.row.N c.args.nothing)

pub loop-k-preserved : goal.loop-k-preserved
loop-k-preserved g c e gives =
    let l = c.loop-k in
    filled_turn e (replicate g.row.N c.args.nothing) l.k l.table c.put.new.row c.entry.result (l.invariant e gives)
    (gives _ _ c.entry.ensures) c.put.ensures
