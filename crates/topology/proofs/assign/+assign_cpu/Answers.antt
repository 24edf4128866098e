use Rattle.model.specs.Assign.{span_rows}
use Rattle.topology.proofs.Rows.{assigned_end, assigned_next}
use Rattle.topology.proofs.assign.+assign_cpu.Goals as goal

pub returns-then-left-eq0 : goal.returns-then-left-eq0
returns-then-left-eq0 t c =
    let a = c.args in
    assigned_end a.parents.now a.left a.domain.0 a.cpu.0 (span_rows a.starts.now a.ends.now) c.if-left-eq0.true

pub returns : goal.returns
returns t c =
    let a = c.args in
    let e = c.enter in
    let r = c.assign_cpu in
    assigned_next a.parents.now a.left a.domain.0 a.cpu.0 c.at.result (span_rows a.starts.now a.ends.now)
    (span_rows e.new.starts e.new.ends) (span_rows r.new.starts r.new.ends) c.if-left-eq0.false e.ensures c.at.ensures
    r.ensures
