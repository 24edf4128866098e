-- The callee is one that takes a value besides, and looks at it not.
use Rattle.std.proofs.Common.{rules}
use Rattle.lend.proofs.lender.lender.Goals as goal

pub returns : goal.returns
returns g c = λ w h. c.lender_with.ensures (λ a n x. w a n) (λ lent r e post. h lent r e (search rules))
