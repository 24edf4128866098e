-- Each of the first c is On.
use Rattle.std.proofs.Common.{◌≡◌, true}
use Rattle.cpu_table.specs.CpuTable.{all_on_bytes}
use Rattle.cpu_table.proofs.walk.all_on.Given as goal

abbrev pub invariant-loop-c : goal.invariant-loop-c
invariant-loop-c l = true ≡ all_on_bytes l.affinities l.c
