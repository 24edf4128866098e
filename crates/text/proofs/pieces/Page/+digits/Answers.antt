use Rattle.std.proofs.Common.{arith}
use Rattle.text.proofs.Digits.{digits_none, digits_one, digits_more}
use Rattle.text.proofs.Puts.{then, alike}
use Rattle.text.proofs.pieces.Page.+digits.Goals as goal

pub returns-then-places-eq0-clause-put : goal.returns-then-places-eq0-clause-put
returns-then-places-eq0-clause-put t c =
    alike c.byte.ensures.put (digits_none c.args.places c.args.n c.last_digit.ensures c.if-places-eq0.true)

pub returns-then-n-lt10-clause-put : goal.returns-then-n-lt10-clause-put
returns-then-n-lt10-clause-put t c =
    alike c.byte-then-n-lt10.ensures.put (digits_one c.args.places c.args.n c.last_digit-then-n-lt10.ensures c.if-n-lt10.true)

pub returns-clause-put : goal.returns-clause-put
returns-clause-put t c =
    alike (then c.digits.ensures.put c.byte-2.ensures.put)
    (digits_more c.args.places c.args.n c.last_digit-2.ensures (omega arith) c.if-n-lt10.false)
