-- Two rows of one length are the same where each place of them is.
use Prim.Native.Nat.{ℕ}
use mathlib.Core.Bool.{true≢false}
use mathlib.Core.List.{List}
use mathlib.Core.Path.{◌≡◌, sym, ap, ◌∙◌}
use native.Mathlib.Omega.{arith}
use borrow.Author.Tests.{eq-eqb, eqb-true}
use lib.Dec.{eqb}
use lib.ListN.{length, get_or}
use lib.Pointwise.{bytes_decides, pointwise}
use lib.Seq.{ext_get_or}
use Rattle.basics.proofs.Tests.{by}
use Rattle.model.proofs.Below.{every_at, every_from}
use Rattle.model.specs.Below.{every}

pub same_is : (n : ℕ) (a b : List ℕ) → length a ≡ n → length b ≡ n → pointwise eqb a b ≡ every n (λ k. eqb (get_or a k 0) (get_or b k 0))
same_is n a b long also =
    let each = λ (k : ℕ). eqb (get_or a k 0) (get_or b k 0) in
    by (pointwise eqb a b)
    (λ t. t ∙ sym (every_from each n (λ k h. eq-eqb _ _ (ap (λ (l : List ℕ). get_or l k 0) ((bytes_decides a b).0 t)))))
    (λ f. f ∙ sym (by (every n each)
    (λ t. absurd (true≢false (sym ((bytes_decides a b).1 (ext_get_or 0 a b (long ∙ sym also)
    (λ k h. eqb-true _ _ (every_at each n k t (omega (arith, h, long)))))) ∙ f)))
    (λ e. e)))
