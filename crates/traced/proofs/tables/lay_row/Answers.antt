use Rattle.model.proofs.Tables.{filled_none, filled_next}
use Rattle.traced.specs.Reply.{cell_of}
use Rattle.traced.proofs.tables.lay_row.Goals as goal

pub loop-i-init : goal.loop-i-init
loop-i-init c = filled_none (cell_of c.args.a c.args.table c.args.row) c.args.place c.args.out.now

pub loop-i-preserved : goal.loop-i-preserved
loop-i-preserved c =
    rw (
      c.put.ensures,
      c.cell.ensures,
      c.loop-i.invariant,
      filled_next (cell_of c.args.a c.args.table c.args.row) c.args.place c.loop-i.i c.args.out.now,
    )
