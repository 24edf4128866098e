-- The first c places hold their records.
use Rattle.std.proofs.Common.{◌≡◌, replicate}
use Rattle.model.specs.Limits.{cpu_limit}
use Rattle.model.specs.State.{no_cpu}
use Rattle.model.specs.Table.{filled_of}
use Rattle.cpu_table.specs.CpuTable.{cpu_in, view_rows}
use Rattle.cpu_table.proofs.CpuView.table_of.Given as goal

abbrev pub invariant-loop-c : goal.invariant-loop-c
invariant-loop-c l = l.node-items ≡ filled_of (cpu_in (view_rows l.self)) 0 l.c (replicate cpu_limit no_cpu)
