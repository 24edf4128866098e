use Rattle.std.proofs.Common.{◌≡◌}
use Rattle.model.specs.Path.{above_of, levels_running_of}
use Rattle.paths.specs.Rows.{SameRows, lent_domains}
use Rattle.paths.proofs.DomainRows.set_running.Given as goal

-- the levels that were walked run, and d is the next domain
abbrev pub invariant-loop-below : goal.invariant-loop-below
invariant-loop-below l =
    SameRows l.initial.self l.self
    × (l.d ≡ above_of l.parents l.fn.first.0 l.below)
    × (lent_domains l.self ≡ levels_running_of l.parents l.top l.fn.first.0 l.cpu.0 l.below (lent_domains l.initial.self))
