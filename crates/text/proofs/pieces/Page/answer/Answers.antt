use Rattle.text.proofs.Records.{line_of}
use Rattle.text.proofs.Puts.{then, alike}
use Rattle.text.proofs.pieces.Page.answer.Goals as goal

pub returns-clause-put : goal.returns-clause-put
returns-clause-put c =
    alike
    (then
    (then (then c.decimal.ensures.put (then c.byte.ensures.put c.signed.ensures.put)) c.shown.ensures.put)
    c.byte-2.ensures.put)
    (line_of c.args.max.0 c.args.answers.now c.args.start c.read_u32.ensures c.at.ensures)
