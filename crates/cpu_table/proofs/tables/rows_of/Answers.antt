-- A walk that takes one record more apart.
use Rattle.std.proofs.Common.{◌+◌, refl}
use Rattle.cpu_table.proofs.Rows.{rows_next, rows_none, walked}
use Rattle.cpu_table.proofs.tables.rows_of.Goals as goal

pub loop-c-init : goal.loop-c-init
loop-c-init c = walked c.args.cpus 0 (rows_none c.args.cpus _ refl)

pub loop-c-preserved : goal.loop-c-preserved
loop-c-preserved c =
    let next = rows_next c.args.cpus c.loop-c.c c.loop-c.invariant.1 in
    walked c.args.cpus (c.loop-c.c + 1)
    (rw (c.context_in.ensures, c.address_in.ensures, c.held_byte.ensures, c.affinity_byte.ensures) next)
