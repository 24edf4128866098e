use Rattle.std.proofs.Common.{sym, ◌∙◌}
use Rattle.model.specs.Coordinate.{coordinated}
use Rattle.paths.proofs.Path.{above_none, above_turn}
use Rattle.coordinate.proofs.Levels.{levels_none, levels_turn}
use Rattle.coordinate.proofs.coordinate_state.Goals as goal

pub loop-below-init : goal.loop-below-init
loop-below-init c =
    let a = c.args in
    let x = coordinated a.states.now a.requests.now a.copies.now a.asked in
    (sym (above_none a.tree.parents a.first.0), sym (levels_none a.tree a.off a.first.0 a.cpu.0 a.upto.0 x))

pub loop-below-preserved : goal.loop-below-preserved
loop-below-preserved c =
    let a = c.args in
    let l = c.loop-below in
    let e = c.coordinate_level-x.ensures in
    let x = coordinated a.states.now a.requests.now a.copies.now a.asked in
    let y = coordinated l.states l.requests l.copies l.v in (
      c.parent_byte-d.ensures ∙ above_turn a.tree.parents a.first.0 l.below l.d l.invariant.0,
      levels_turn a.tree a.off a.first.0 a.cpu.0 a.upto.0 l.below y l.invariant.0 c.state_at-wanted.ensures c.state_at-under.ensures
          e.value e.requests_after e.states_after c.put_if.ensures c.set_state_at-v.ensures x l.invariant.1,
    )
