use Rattle.std.proofs.Common.{◌≡◌}
use Rattle.model.specs.Table.{levels_filled_of}
use Rattle.levels.proofs.levels_filled.Given as goal

-- the levels that were walked are filled
abbrev pub invariant-loop-i : goal.invariant-loop-i
invariant-loop-i l = l.t ≡ levels_filled_of l.v l.cpus l.i
