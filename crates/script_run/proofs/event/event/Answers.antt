use Rattle.std.proofs.Common.{ap, ◌∙◌}
use Rattle.cpu_table.specs.CpuTable.{cpu_in, lent_cpus, stored_in}
use Rattle.model.specs.declared.sorts.CpuNumber.{CpuNumber}
use Rattle.paths.specs.Rows.{lent_domains}
use Rattle.script_run.proofs.Taken.{event_taken, event_unsound, shows}
use Rattle.script_run.proofs.event.event.Goals as goal

pub returns-then-sound-clause-value : goal.returns-then-sound-clause-value
returns-then-sound-clause-value c =
    let a = c.args in
    let cpus = lent_cpus a.cpus.now in
    let d = lent_domains a.rows.now in
    let named = c.named_cpu-cpu.ensures in
    let y = c.call-done in
    event_taken a.board a.tree cpus c.cpu_in-node.ensures.lengths d a.mode a.event
    (c.cpu_in-by.ensures.value ∙ ap (λ (q : CpuNumber). cpu_in cpus q.0) c.caller.ensures)
    (c.cpu_in-node.ensures.value ∙ ap (λ (q : CpuNumber). cpu_in cpus q.0) named)
    y.ensures.value
    (c.store_cpu.ensures.rows ∙ ap (λ (q : CpuNumber). stored_in cpus q.0 y.result.node) named)
    c.if-sound.true
    (shows a.board a.tree c.cpu_in-left.ensures.lengths (lent_domains y.new.rows) y.result.mode a.event named c.cpu_in-left.ensures.value
    c.shown_states.ensures)

pub returns-clause-value : goal.returns-clause-value
returns-clause-value c =
    let a = c.args in
    event_unsound a.board a.tree (lent_cpus a.cpus.now) c.cpu_in-node.ensures.lengths (lent_domains a.rows.now) a.mode a.event c.if-sound.false
    (shows a.board a.tree c.cpu_in-node.ensures.lengths (lent_domains a.rows.now) a.mode a.event c.named_cpu-cpu.ensures c.cpu_in-node.ensures.value
    c.shown_states-2.ensures)
