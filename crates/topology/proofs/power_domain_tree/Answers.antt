use Rattle.std.proofs.Common.{sym}
use mathlib.Core.Bool.{and-eq-true_iff, and-false}
use Rattle.topology.proofs.Build.{answer_is, refusal_is}
use Rattle.topology.proofs.power_domain_tree.Goals as goal

pub returns-then-not-platform_accepted : goal.returns-then-not-platform_accepted
returns-then-not-platform_accepted c =
    let a = c.args in
    refusal_is a.platform a.primary a.topology.now c.no_tree.result (simp (sym c.if-not-platform_accepted.ensures)) c.no_tree.ensures

pub returns-in_default : goal.returns-in_default
returns-in_default c =
    let a = c.args in
    refusal_is a.platform a.primary a.topology.now c.no_tree.result (simp (sym c.in_default.ensures.tested, and-false)) c.no_tree.ensures

pub returns : goal.returns
returns c =
    let a = c.args in
    let good = (and-eq-true_iff _ _).1 (sym c.if-not-platform_accepted.ensures, sym c.in-Some.ensures.tested) in
    let same = c.in-Some.ensures.kept in
    answer_is a.platform a.primary a.topology.now c.tree.result c.cpu_parents.result good
    (rw (← same.0, ← same.1) c.tree.ensures) (rw (← same.0, ← same.1) c.cpu_parents.ensures)
