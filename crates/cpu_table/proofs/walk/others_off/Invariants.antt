-- Each of the first c is Off, or the CPU that asks.
use Rattle.std.proofs.Common.{◌≡◌, true}
use Rattle.cpu_table.specs.CpuTable.{others_off_bytes}
use Rattle.cpu_table.proofs.walk.others_off.Given as goal

abbrev pub invariant-loop-c : goal.invariant-loop-c
invariant-loop-c l = true ≡ others_off_bytes l.affinities l.c l.but
