-- The rows of the first c records.
use Rattle.cpu_table.specs.CpuTable.{cpu_table}
use Rattle.cpu_table.proofs.Rows.{Walked}
use Rattle.cpu_table.proofs.tables.rows_of.Given as goal

abbrev pub invariant-loop-c : goal.invariant-loop-c
invariant-loop-c l =
    Walked l.cpus l.c (cpu_table l.firsts l.affinities l.locals l.helds l.addresses l.contexts)
