use Rattle.text.proofs.Records.{shown_states}
use Rattle.text.proofs.Puts.{alike}
use Rattle.text.proofs.pieces.Page.shown.Goals as goal

pub returns-clause-put : goal.returns-clause-put
returns-clause-put c =
    alike c.states.ensures.put (shown_states c.args.max.0 c.args.answers.now c.args.start c.at.ensures c.if-at.false)
