-- A walk that sets one place more.
use Rattle.std.proofs.Common.{refl}
use Rattle.model.proofs.Tables.{filled_none, filled_turn}
use Rattle.cpu_table.proofs.CpuView.table_of.Goals as goal

pub loop-c-init : goal.loop-c-init
loop-c-init c = rw c.no_cpu-nothing.ensures (filled_none _ 0 _)

pub loop-c-preserved : goal.loop-c-preserved
loop-c-preserved c = filled_turn _ _ c.loop-c.c c.loop-c.node-items _ c.cpu_in.result c.loop-c.invariant c.cpu_in.ensures.value refl
