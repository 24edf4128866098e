use Rattle.std.proofs.Common.{◌≡◌}
use Rattle.model.specs.Path.{above_of}
use Rattle.paths.proofs.ancestors.above.Given as goal

-- d is as many levels up as were walked
abbrev pub invariant-loop-i : goal.invariant-loop-i
invariant-loop-i l = l.d ≡ above_of l.parents l.fn.domain.0 l.i
