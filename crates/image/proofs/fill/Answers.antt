use Rattle.std.proofs.Common.{ℕ, ◌+◌, ◌≡◌, ap, arith, length, refl, ◌∙◌}
use Rattle.model.proofs.Tables.{filled_none, filled_turn}
use Rattle.model.specs.Table.{filled_of}
use Rattle.script.specs.Bytes.{byte_at}
use Rattle.image.proofs.fill.Goals as goal

pub loop-i-init : goal.loop-i-init
loop-i-init c = filled_none (λ (i : ℕ). byte_at c.args.bytes.now (c.args.place + i)) 0 c.args.row.now

pub loop-i-preserved : goal.loop-i-preserved
loop-i-preserved c =
    filled_turn (λ (i : ℕ). byte_at c.args.bytes.now (c.args.place + i)) c.args.row.now c.loop-i.i c.loop-i.row _ c.at.result
    c.loop-i.invariant c.at.ensures refl

pub returns : goal.returns
returns c =
    let z : c.loop-i.i ≡ length c.args.row.now = omega arith in
    c.loop-i.invariant ∙ ap (λ (n : ℕ). filled_of (λ i. byte_at c.args.bytes.now (c.args.place + i)) 0 n c.args.row.now) z
