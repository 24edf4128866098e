use Rattle.script.specs.Printed.{refused_line}
use Rattle.text.proofs.Puts.{then}
use Rattle.text.proofs.pieces.Page.refused.Goals as goal

pub returns-clause-put : goal.returns-clause-put
unfolding refused_line
returns-clause-put c = then (then c.word.ensures.put c.code.ensures.put) c.byte.ensures.put
