-- The minimum after a store.
use Prim.Native.Nat.{ℕ, ◌<◌}
use mathlib.Core.Bool.{Bool, true, not, ◌&&◌, and-eq-true_iff}
use mathlib.Core.List.{List}
use mathlib.Core.Path.{◌≡◌, sym, ap, ◌∙◌}
use mathlib.Core.Logic.{inr, ⊎_elim}
use native.Mathlib.Omega.{arith}
use borrow.Author.Tests.{eqb-true, eqb-false, not-true}
use lib.Dec.{eqb}
use lib.ListN.{length, get_or, set}
use lib.Seq.{get_or-set_same, get_or-set_other}
use Rattle.basics.proofs.Tests.{by}
use Rattle.model.specs.Minimum.{lesser_of, minimum_of}
use Rattle.minimum.proofs.Lesser.{lesser_is}
use Rattle.minimum.proofs.Minimum.{Counted, Within, met_within, minimum_is, minimum_only, minimum_same}

-- the states after v was stored at number i
pub record Stored (state after : ℕ → ℕ) (i v : ℕ) : Type 0 where
  pub at : after i ≡ v
  pub other : (j : ℕ) → (j ≡ i → ⊥) → after j ≡ state j

-- a store in a row is one
pub row_stored : (row : List ℕ) (i v : ℕ) → i < length row → Stored (λ j. get_or row j 0) (λ j. get_or (set row i v) j 0) i v
row_stored row i v h = record { at = get_or-set_same row i v 0 h; other = λ j n. get_or-set_other row i j v 0 n }

module _ (n : ℕ) (counts : ℕ → Bool) (state after : ℕ → ℕ) (off i v : ℕ) (s : Stored state after i v) where
  -- outside it changes nothing
  pub minimum_store_outside : (Counted n counts i → ⊥) → minimum_of n counts after off ≡ minimum_of n counts state off
  minimum_store_outside out =
      let same : (j : ℕ) → Counted n counts j → after j ≡ state j
      = λ j c. s.other j (λ e. out (rw e at c)) in
      minimum_same n n counts counts after state off
      (record { counted = λ j c. c; same = same }) (record { counted = λ j c. c; same = λ j c. sym (same j c) })

  -- those that count but for that number
  abbrev others : ℕ → Bool
  others j = counts j && not (eqb j i)

  -- they count still, with the same states
  kept : Within n n others counts state after
  kept =
      let both : (j : ℕ) → Counted n others j → (counts j ≡ true) × (not (eqb j i) ≡ true)
      = λ j c. (and-eq-true_iff (counts j) (not (eqb j i))).0 c.is in
      record {
        counted = λ j c. record { below = c.below; is = (both j c).0 };
        same = λ j c. sym (s.other j (eqb-false j i (not-true _ (both j c).1)));
      }

  -- inside, the minimum is the lesser of what is stored and of the minimum without that number
  pub minimum_store_inside : Counted n counts i →
      minimum_of n counts after off ≡ lesser_of v (minimum_of n (λ j. counts j && not (eqb j i)) state off)
  minimum_store_inside here =
      let m = minimum_of n others state off in
      let r = minimum_is others state off n in
      let l = lesser_is v m in
      sym (minimum_only counts after off n (lesser_of v m) (record {
        bound = λ j c.
            by (eqb j i)
            (λ t. let e = eqb-true j i t in omega (arith, l.first, ap after e, s.at))
            (λ t. let k : Counted n others j = record { below = c.below; is = (and-eq-true_iff (counts j) (not (eqb j i))).1 (c.is, rw t) } in
            omega (arith, l.second, r.bound j k, s.other j (eqb-false j i t)));
        start = omega (arith, l.second, r.start);
        met = ⊎_elim
            (λ e. inr (record { who = i; counted = here; is = e ∙ sym s.at }))
            (λ e. rw e (met_within n n others counts state after off m kept r.met))
            l.met;
      }))
