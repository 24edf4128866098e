use Rattle.std.proofs.Common.{ℕ, List, ap, replicate}
use Rattle.model.proofs.Tables.{filled_none, filled_turn}
use Rattle.model.specs.Limits.{domain_limit}
use Rattle.model.specs.Tree.{child_span_of}
use Rattle.model.specs.declared.node.Span.{Span}
use Rattle.topology.proofs.accept.Topology.child_spans.Goals as goal

abbrev start_of : List ℕ → ℕ → ℕ → ℕ
start_of t max k = (child_span_of t max k).start

abbrev end_of : List ℕ → ℕ → ℕ → ℕ
end_of t max k = (child_span_of t max k).end

pub loop-k-init : goal.loop-k-init
loop-k-init c =
    let t = c.args.self.now in
    (filled_none (start_of t.entries t.max) 0 (replicate domain_limit 0), filled_none (end_of t.entries t.max) 0 (replicate domain_limit 0))

pub loop-k-preserved : goal.loop-k-preserved
loop-k-preserved c =
    let t = c.args.self.now in
    let l = c.loop-k in
    let span = c.child_span-span in (
      filled_turn (start_of t.entries t.max) (replicate domain_limit 0) l.k l.starts c.put.new.row span.result.start
          l.invariant.0 (ap (λ (s : Span). s.start) span.ensures) c.put.ensures,
      filled_turn (end_of t.entries t.max) (replicate domain_limit 0) l.k l.ends c.put-in-loop-k.new.row span.result.end
          l.invariant.1 (ap (λ (s : Span). s.end) span.ensures) c.put-in-loop-k.ensures,
    )
