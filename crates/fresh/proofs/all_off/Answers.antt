use Rattle.fresh.proofs.Start.{off_is}
use Rattle.fresh.proofs.all_off.Goals as goal

pub returns : goal.returns
returns c =
    let a = c.args in
    off_is a.p a.primary a.topology.now a.tree a.parents c.stored-row.result c.states_off-states.result
    c.levels_filled-requests.result c.levels_filled-suspends.result c.copies_off-copies.result c.cpus_off-cpus.result
    c.off-off.result c.requires.0 c.requires.1 c.off-off.ensures c.stored-row.ensures
    c.cpus_off-cpus.ensures c.states_off-states.ensures c.levels_filled-requests.ensures
    c.levels_filled-suspends.ensures c.copies_off-copies.ensures
