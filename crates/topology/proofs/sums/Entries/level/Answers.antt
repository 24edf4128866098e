use Rattle.std.proofs.Common.{ℕ, ◌+◌, ◌-◌, ◌≡◌, ap, arith, sym, ◌∙◌}
use Rattle.model.specs.Topology.{level_of}
use Rattle.topology.proofs.Walks.{level_end, level_next, level_top}
use Rattle.topology.proofs.sums.Entries.level.Goals as goal

pub returns-then-e-eq0 : goal.returns-then-e-eq0
returns-then-e-eq0 c =
    let l = c.loop-above in
    let top = sym c.entry-e.ensures.0 ∙ c.if-e-eq0.true in
    sym (level_top c.args.self.now (c.args.max - l.above) l.d (omega arith) top) ∙ l.invariant

pub loop-above-preserved : goal.loop-above-preserved
loop-above-preserved c =
    let l = c.loop-above in
    let e = c.entry-e.ensures.0 in
    let left = c.args.max - l.above in
    let next : c.args.max - (l.above + 1) ≡ left - 1 = omega arith in
    ap (λ (n : ℕ). level_of c.args.self.now n (c.entry-e.result - 1)) next
    ∙ ap (λ (x : ℕ). level_of c.args.self.now (left - 1) (x - 1)) e
    ∙ sym (level_next c.args.self.now left l.d (omega arith) (λ z. c.if-e-eq0.false (e ∙ z))) ∙ l.invariant

pub returns : goal.returns
returns c =
    let l = c.loop-above in
    sym (level_end c.args.self.now (c.args.max - l.above) l.d (omega arith)) ∙ l.invariant
