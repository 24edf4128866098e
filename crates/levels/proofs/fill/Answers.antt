-- The part that was filled is the places from the start on, as far as the row goes.
use Rattle.std.proofs.Common.{ℕ, ◌+◌, ◌-◌, ◌≡◌, ap, arith, drop, length-drop, replicate, rules, ◌∙◌}
use lib.Seq.{length-take-le}
use Rattle.levels.proofs.Filled.{part_filled}
use Rattle.levels.proofs.fill.Goals as goal

pub returns : goal.returns
returns c =
    let from = c.min-from.result in
    let part = from + c.min-count.result - from in
    let same : part ≡ c.min-count.result = omega arith in
    let row = c.args.row.now in
    let long = length-take-le part (drop from row) (omega (arith, length-drop from row, c.min-count.ensures)) in
    part_filled row c.fill.new.self c.args.start c.args.n c.args.v from part c.min-from.ensures (same ∙ c.min-count.ensures)
    (c.fill.ensures.after (λ y h. search rules) ∙ ap (λ (n : ℕ). replicate n c.args.v) long)
