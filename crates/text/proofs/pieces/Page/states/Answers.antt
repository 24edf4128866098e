use Rattle.std.proofs.Common.{arith, refl, ◌∙◌}
use Rattle.script.specs.Printed.{states_text}
use Rattle.text.proofs.Records.{states_next}
use Rattle.text.proofs.Puts.{none, then, alike}
use Rattle.text.proofs.pieces.Page.states.Goals as goal

pub loop-level-init : goal.loop-level-init
unfolding states_text
loop-level-init c = (refl, omega arith, none _ _)

pub loop-level-preserved : goal.loop-level-preserved
loop-level-preserved c = (
  c.state.ensures.same_text ∙ c.loop-level.invariant.0,
  omega arith,
  alike (then c.loop-level.invariant.2 c.state.ensures.put)
      (states_next c.args.answers.now c.loop-level.level c.args.place c.at.ensures),
)
