use Rattle.std.proofs.Common.{ap, ◌∙◌}
use Rattle.model.specs.declared.board.TreeAnswer.{TreeAnswer}
use Rattle.topology_laws.proofs.Answer.{answer_made}
use Rattle.fresh.proofs.Start.{board_no, board_yes, fresh_no, fresh_yes}
use Rattle.fresh.proofs.fresh.Goals as goal

pub all_off-s-requires : goal.all_off-s-requires
all_off-s-requires c =
    let a = c.args in
    let made = c.power_domain_tree-made in
    let yes = board_yes a.platform a.primary a.topology.now made.result c.is_ok.result made.ensures
    c.is_ok.ensures.value c.if-is_ok.true in
    let e = made.ensures ∙ answer_made a.platform a.primary a.topology.now yes in
    (ap (λ (x : TreeAnswer). x.tree) e, ap (λ (x : TreeAnswer). x.cpu_parents) e)

pub returns-then-is_ok : goal.returns-then-is_ok
returns-then-is_ok c =
    let a = c.args in
    let made = c.power_domain_tree-made in
    let yes = board_yes a.platform a.primary a.topology.now made.result c.is_ok.result made.ensures
    c.is_ok.ensures.value c.if-is_ok.true in
    fresh_yes a.platform a.primary a.topology.now c.all_off-s.result c.bring_up-state.result yes
    c.all_off-s.ensures c.bring_up-state.ensures

pub returns : goal.returns
returns c =
    let a = c.args in
    let made = c.power_domain_tree-made in
    let not_board = board_no a.platform a.primary a.topology.now made.result c.is_ok.result made.ensures
    c.is_ok.ensures.value c.if-is_ok.false in
    fresh_no a.platform a.primary a.topology.now c.no_state-state.result not_board c.no_state-state.ensures
