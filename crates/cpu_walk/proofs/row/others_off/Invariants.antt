-- Each of the first c is Off, or the CPU that asks.
use Rattle.std.proofs.Common.{◌≡◌, true}
use Rattle.model.specs.StateQuery.{others_off_in}
use Rattle.cpu_walk.proofs.row.others_off.Given as goal

abbrev pub invariant-loop-c : goal.invariant-loop-c
invariant-loop-c l = true ≡ others_off_in l.cpus l.c l.cpu
