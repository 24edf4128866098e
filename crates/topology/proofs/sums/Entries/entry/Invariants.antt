use Rattle.std.proofs.Common.{◌≡◌, ◌+◌, drop}
use Rattle.model.specs.Topology.{entry_of}
use Rattle.topology.proofs.sums.Entries.entry.Given as goal

-- the entries passed, and the entry among those that are left, are the entry
abbrev pub invariant-loop-i : goal.invariant-loop-i
invariant-loop-i l = l.i + entry_of (drop l.i l.self-inside.list.now) l.rest ≡ entry_of l.self l.n
