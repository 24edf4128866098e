use Rattle.text.proofs.Puts.{then}
use Rattle.text.proofs.pieces.Page.named.Goals as goal

pub returns-clause-put : goal.returns-clause-put
returns-clause-put c = then c.word.ensures.put c.decimal.ensures.put
