use Rattle.topology.proofs.Build.{tree_is}
use Rattle.topology_laws.proofs.Accepted.{Accepted}
use Rattle.topology.proofs.accept.Topology.tree.Goals as goal

pub returns : goal.returns
returns c =
    let t = c.args.self.now in
    let accepted : Accepted t.entries t.max 0 = rw (← c.self.view_is) c.self.invariant in
    let spans = c.cpu_spans in
    let below = c.child_spans in
    tree_is t.entries t.max accepted c.domain_count.result c.cpu_count.result c.parents-parents.result
    spans.result.0 spans.result.1 below.result.0 below.result.1
    c.domain_count.ensures c.cpu_count.ensures c.parents-parents.ensures spans.ensures below.ensures.starts below.ensures.ends
