use Rattle.std.proofs.Common.{ap, sym, ◌∙◌}
use Rattle.model.specs.Topology.{start_of}
use Rattle.topology.proofs.Walks.{domains_next, domains_none}
use Rattle.topology.proofs.sums.Entries.domains.Goals as goal

pub loop-level-init : goal.loop-level-init
loop-level-init c = sym (domains_none c.args.self.now)

pub loop-level-preserved : goal.loop-level-preserved
loop-level-preserved c =
    c.start-count.ensures ∙ ap (start_of c.args.self.now) c.loop-level.invariant ∙ sym (domains_next c.args.self.now c.loop-level.level)
