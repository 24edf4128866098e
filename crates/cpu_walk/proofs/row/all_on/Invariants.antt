-- Each of the first c is On.
use Rattle.std.proofs.Common.{◌≡◌, true}
use Rattle.model.specs.StateQuery.{all_on_in}
use Rattle.cpu_walk.proofs.row.all_on.Given as goal

abbrev pub invariant-loop-c : goal.invariant-loop-c
invariant-loop-c l = true ≡ all_on_in l.cpus l.c
