use Rattle.script.specs.Printed.{end_line}
use Rattle.text.proofs.Puts.{then}
use Rattle.text.proofs.pieces.Page.end.Goals as goal

pub returns-clause-put : goal.returns-clause-put
unfolding end_line
returns-clause-put c =
    let number = then c.byte.ensures.put c.code.ensures.put in
    then (then c.named.ensures.put number) c.byte-2.ensures.put
