use Rattle.std.proofs.Common.{◌∙◌}
use Rattle.model.specs.Limits.{domain_limit}
use Rattle.soundness.proofs.Rows.{same_is}
use Rattle.soundness.proofs.trees.same_row.Goals as goal

pub returns : goal.returns
returns c = c.eq.ensures ∙ same_is domain_limit c.args.a.now c.args.b.now c.told-a c.told-b
