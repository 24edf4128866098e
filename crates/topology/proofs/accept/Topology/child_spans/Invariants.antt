use Rattle.std.proofs.Common.{◌≡◌}
use Rattle.model.specs.Table.{domain_row_of}
use Rattle.model.specs.Tree.{child_span_of}
use Rattle.topology.proofs.accept.Topology.child_spans.Given as goal

-- the places passed are set
abbrev pub invariant-loop-k : goal.invariant-loop-k
invariant-loop-k l =
    (l.starts ≡ domain_row_of (λ k. (child_span_of l.fn.self.entries l.fn.self.max k).start) l.k)
    × (l.ends ≡ domain_row_of (λ k. (child_span_of l.fn.self.entries l.fn.self.max k).end) l.k)
