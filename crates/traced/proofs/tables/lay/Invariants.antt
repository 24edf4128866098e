use Rattle.std.proofs.Common.{◌≡◌}
use Rattle.traced.specs.Reply.{rows_onto}
use Rattle.traced.proofs.tables.lay.Given as goal

abbrev pub invariant-loop-k : goal.invariant-loop-k
invariant-loop-k l = l.out ≡ rows_onto l.a l.table l.place l.columns l.k l.initial.out
