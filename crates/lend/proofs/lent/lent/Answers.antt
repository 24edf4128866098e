-- What the call left is what the law says of it.
use Rattle.std.proofs.Common.{refl}
use Rattle.lend.proofs.lent.lent.Goals as goal

pub returns : goal.returns
returns g c = λ f h. h _ _ refl c.set.ensures
