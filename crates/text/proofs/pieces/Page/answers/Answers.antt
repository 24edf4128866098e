use Rattle.std.proofs.Common.{arith, refl, ◌∙◌}
use Rattle.script.specs.Printed.{answer_lines}
use Rattle.text.proofs.Records.{lines_next}
use Rattle.text.proofs.Puts.{none, then, alike}
use Rattle.text.proofs.pieces.Page.answers.Goals as goal

pub loop-i-init : goal.loop-i-init
unfolding answer_lines
loop-i-init c = (refl, omega arith, none _ _)

pub loop-i-preserved : goal.loop-i-preserved
loop-i-preserved c = (
  c.answer.ensures.same_text ∙ c.loop-i.invariant.0,
  omega arith,
  alike (then c.loop-i.invariant.2 c.answer.ensures.put) (lines_next c.args.max.0 c.loop-i.i c.args.answers.now),
)
