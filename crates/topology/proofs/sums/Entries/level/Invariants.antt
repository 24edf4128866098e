use Rattle.std.proofs.Common.{◌≡◌, ◌-◌}
use Rattle.model.specs.Topology.{level_of}
use Rattle.topology.proofs.sums.Entries.level.Given as goal

-- the level is found from where the walk is
abbrev pub invariant-loop-above : goal.invariant-loop-above
invariant-loop-above l = level_of l.self (l.max - l.above) l.d ≡ level_of l.self l.max l.k
