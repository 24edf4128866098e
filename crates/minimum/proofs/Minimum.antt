-- What the minimum is: at most every state that counts and OFF, and one of them; no other number is.
use Prim.Native.Nat.{ℕ, zero, suc, ◌<◌, ◌≤◌}
use mathlib.Core.Bool.{Bool, true, false, true≢false}
use mathlib.Core.Path.{◌≡◌, refl, sym, ap, ◌∙◌}
use mathlib.Core.Logic.{◌⊎◌, inl, inr, ⊎_elim}
use native.Mathlib.Omega.{arith}
use borrow.Author.Tests.{ltb-true, ltb-false}
use lib.Dec.{ltb}
use Rattle.basics.proofs.Tests.{by}
use Rattle.model.specs.Minimum.{minimum_of}
use Rattle.minimum.proofs.Lesser.{lesser_is}

-- a number below n that counts
pub record Counted (n : ℕ) (counts : ℕ → Bool) (i : ℕ) : Type 0 where
  pub below : i < n
  pub is : counts i ≡ true

-- a number that counts and whose state is m
pub record Met (n : ℕ) (counts : ℕ → Bool) (state : ℕ → ℕ) (m : ℕ) : Type 0 where
  pub who : ℕ
  pub counted : Counted n counts who
  pub is : m ≡ state who

-- m is the shallowest state of the numbers that count, or OFF
pub record Shallowest (n : ℕ) (counts : ℕ → Bool) (state : ℕ → ℕ) (off m : ℕ) : Type 0 where
  pub bound : (i : ℕ) → Counted n counts i → m ≤ state i
  pub start : m ≤ off
  pub met : (m ≡ off) ⊎ Met n counts state m

-- what counts in the first counts in the second, with the same state
pub record Within (n k : ℕ) (counts also : ℕ → Bool) (state other : ℕ → ℕ) : Type 0 where
  pub counted : (i : ℕ) → Counted n counts i → Counted k also i
  pub same : (i : ℕ) → Counted n counts i → state i ≡ other i

pub met_within : (n k : ℕ) (counts also : ℕ → Bool) (state other : ℕ → ℕ) (off m : ℕ) → Within n k counts also state other →
    (m ≡ off) ⊎ Met n counts state m → (m ≡ off) ⊎ Met k also other m
met_within n k counts also state other off m h =
    ⊎_elim inl
    (λ w. inr (record { who = w.who; counted = h.counted w.who w.counted; is = w.is ∙ h.same w.who w.counted }))

module _ (counts : ℕ → Bool) (state : ℕ → ℕ) (off : ℕ) where
  -- below a higher bound as many count, and more
  up : (n k : ℕ) → n ≤ k → Within n k counts counts state state
  up n k h = record { counted = λ i c. record { below = omega (arith, c.below); is = c.is }; same = λ i c. refl }

  -- a number that counts below n + 1 is n, or counts below n
  bound_up : (n v : ℕ) → (counts n ≡ true → v ≤ state n) → ((i : ℕ) → Counted n counts i → v ≤ state i) →
      (i : ℕ) → Counted (suc n) counts i → v ≤ state i
  bound_up n v last before i c =
      by (ltb i n)
      (λ t. before i (record { below = ltb-true i n t; is = c.is }))
      (λ t. let e : i ≡ n = omega (arith, ltb-false i n t, c.below) in rw e (last (sym (ap counts e) ∙ c.is)))

  met_up : (n m : ℕ) → (m ≡ off) ⊎ Met n counts state m → (m ≡ off) ⊎ Met (suc n) counts state m
  met_up n m = met_within n (suc n) counts counts state state off m (up n (suc n) (omega arith))

  -- the minimum is such a number
  pub minimum_is : (n : ℕ) → Shallowest n counts state off (minimum_of n counts state off)
  unfolding minimum_of
  minimum_is zero = record { bound = λ i c. absurd (omega (arith, c.below)); start = omega arith; met = inl refl }
  minimum_is (suc n) =
      let r = minimum_is n in
      let m = minimum_of n counts state off in
      by (counts n)
      (λ t. let l = lesser_is (state n) (minimum_of n counts state off) in
      rw t (record {
        bound = bound_up n _ (λ _. l.first) (λ i c. omega (arith, l.second, r.bound i c));
        start = omega (arith, l.second, r.start);
        met = ⊎_elim
            (λ e. inr (record { who = n; counted = record { below = omega arith; is = t }; is = e }))
            (λ e. rw e (met_up n m r.met))
            l.met;
      }))
      (λ t. rw t (record {
        bound = bound_up n m (λ y. absurd (true≢false (sym y ∙ t))) r.bound;
        start = r.start;
        met = met_up n m r.met;
      }))

  -- and no other number is
  at_most : (n m k : ℕ) → Shallowest n counts state off m → Shallowest n counts state off k → m ≤ k
  at_most n m k a b =
      ⊎_elim (λ e. omega (arith, a.start, e)) (λ w. omega (arith, a.bound w.who w.counted, w.is)) b.met

  pub minimum_only : (n m : ℕ) → Shallowest n counts state off m → m ≡ minimum_of n counts state off
  minimum_only n m a =
      let b = minimum_is n in
      omega (arith, at_most n m (minimum_of n counts state off) a b, at_most n (minimum_of n counts state off) m b a)

  -- OFF where none counts
  pub minimum_none : (n : ℕ) → ((i : ℕ) → Counted n counts i → ⊥) → minimum_of n counts state off ≡ off
  minimum_none n none =
      sym (minimum_only n off (record { bound = λ i c. absurd (none i c); start = omega arith; met = inl refl }))

  -- where a state that counts is no deeper than OFF, the minimum is a state that counts
  pub minimum_met : (n i : ℕ) → Counted n counts i → state i ≤ off → Met n counts state (minimum_of n counts state off)
  minimum_met n i c h =
      let r = minimum_is n in
      ⊎_elim (λ e. record { who = i; counted = c; is = omega (arith, r.bound i c, e) }) (λ w. w) r.met

  -- RUN where a state that counts is RUN
  pub minimum_run : (n i : ℕ) → Counted n counts i → state i ≡ 0 → minimum_of n counts state off ≡ 0
  minimum_run n i c e = omega (arith, (minimum_is n).bound i c, e)

module _ (n k : ℕ) (counts also : ℕ → Bool) (state other : ℕ → ℕ) (off : ℕ) where
  -- the minimum depends on nothing but the states that count
  pub minimum_same : Within n k counts also state other → Within k n also counts other state →
      minimum_of n counts state off ≡ minimum_of k also other off
  minimum_same to from =
      let r = minimum_is counts state off n in
      minimum_only also other off k (minimum_of n counts state off) (record {
        bound = λ i c. omega (arith, r.bound i (from.counted i c), from.same i c);
        start = r.start;
        met = met_within n k counts also state other off (minimum_of n counts state off) to r.met;
      })
