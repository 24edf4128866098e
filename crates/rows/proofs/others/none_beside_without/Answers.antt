use Rattle.std.proofs.Common.{ℕ, get_or, Bool, List, sym, ◌∙◌, arith}
use Rattle.minimum.proofs.Span.{every_before, every_past, every_turn}
use Rattle.model.specs.Query.{besideb}
use Rattle.rows.proofs.others.none_beside_without.Goals as goal

abbrev fails : List ℕ → List ℕ → ℕ → Bool
fails requests suspends i = besideb (get_or requests i 0) (get_or suspends i 0)

pub loop-i-init : goal.loop-i-init
loop-i-init c =
    let a = c.args in
    sym (every_before a.start a.end a.one (fails a.requests.now a.suspends.now))

pub loop-i-preserved : goal.loop-i-preserved
loop-i-preserved c =
    let a = c.args in
    let turn = every_turn a.start a.end a.one (fails a.requests.now a.suspends.now) c.loop-i.i (omega arith) (omega arith) in
    simp (c.beside-both.ensures, c.at.ensures, c.at-in-loop-i.ensures, turn, c.loop-i.invariant)

pub returns : goal.returns
returns c =
    let a = c.args in
    c.loop-i.invariant ∙ every_past a.start a.end a.one (fails a.requests.now a.suspends.now) c.loop-i.i (omega arith)
