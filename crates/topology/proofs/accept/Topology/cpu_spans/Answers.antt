use Rattle.built.proofs.Built.{no_spans}
use Rattle.model.specs.Assign.{span_rows}
use Rattle.topology.proofs.Rows.{all_next, all_none}
use Rattle.topology.proofs.accept.Topology.cpu_spans.Goals as goal

pub loop-cpu-init : goal.loop-cpu-init
loop-cpu-init c =
    let a = c.args in
    all_none a.self.now.entries a.self.now.max a.parents.now no_spans

pub loop-cpu-preserved : goal.loop-cpu-preserved
loop-cpu-preserved c =
    let a = c.args in
    let l = c.loop-cpu in
    let r = c.assign_cpu in
    all_next a.self.now.entries a.self.now.max a.parents.now no_spans l.cpu c.cpu_parent.result (span_rows l.starts l.ends)
    (span_rows r.new.starts r.new.ends) l.invariant c.cpu_parent.ensures (rw (← c.self.view_is) r.ensures)
