use Rattle.std.proofs.Common.{◌≡◌}
use Rattle.model.specs.Coordinate.{coordinated, levels_coordinated_of}
use Rattle.model.specs.Path.{above_of}
use Rattle.coordinate.proofs.coordinate_state.Given as goal

-- the levels that were walked are coordinated, and d is the next domain
abbrev pub invariant-loop-below : goal.invariant-loop-below
invariant-loop-below l =
    (l.d ≡ above_of l.tree.parents l.fn.first.0 l.below)
    × (coordinated l.states l.requests l.copies l.v
    ≡ levels_coordinated_of l.tree l.off l.fn.first.0 l.cpu.0 l.fn.upto.0 l.below (coordinated l.initial.states l.initial.requests l.initial.copies l.fn.asked))
