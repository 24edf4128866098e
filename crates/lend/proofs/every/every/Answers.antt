-- The test is that of a walk that takes a place and a value besides, and looks at neither.
use Rattle.std.proofs.Common.{rules}
use Rattle.lend.proofs.every.every.Goals as goal

pub returns : goal.returns
returns g c = λ d p w says reads tests.
    c.every_with.ensures d (λ y i x. p y) (λ l n x. w l n)
    (record { none = λ l x. says.none l; pass = λ l x i. says.pass l i; fail = λ l n x i. says.fail l n i })
    reads (λ i k r h. tests i k r (search rules))
