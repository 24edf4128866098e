use Rattle.std.proofs.Common.{◌≡◌}
use Rattle.model.specs.Topology.{domains_of}
use Rattle.topology.proofs.sums.Entries.domains.Given as goal

-- the count is of the levels passed
abbrev pub invariant-loop-level : goal.invariant-loop-level
invariant-loop-level l = l.count ≡ domains_of l.self l.level
