use Rattle.std.proofs.Common.{◌≡◌}
use Rattle.model.specs.Table.{filled_of}
use Rattle.traced.specs.Reply.{cell_of}
use Rattle.traced.proofs.tables.lay_row.Given as goal

abbrev pub invariant-loop-i : goal.invariant-loop-i
invariant-loop-i l = l.out ≡ filled_of (cell_of l.a l.table l.row) l.place l.i l.initial.out
