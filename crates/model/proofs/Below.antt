-- Laws on a test over the numbers below a bound.
use Rattle.std.specs.Prelude.{Some}
use Prim.Native.Nat.{ℕ, zero, suc, ◌+◌, ◌<◌, ◌≤◌}
use mathlib.Core.Bool.{Bool, true, false, ◌&&◌, true≢false, and-true, and-eq-true_iff}
use mathlib.Core.Path.{◌≡◌, refl, sym, ap, ◌∙◌}
use native.Mathlib.Numerals.{add-one}
use native.Mathlib.Omega.{arith}
use borrow.Author.Tests.{eqb-true, eqb-false, leb-true, leb-false}
use lib.Dec.{eqb, leb}
use Rattle.basics.proofs.Is.{Is}
use Rattle.basics.proofs.Tests.{by}
use Rattle.model.specs.Below.{every, highest}

module _ (test : ℕ → Bool) where
  -- what holds at every number below n holds at each
  pub every_at : (n i : ℕ) → every n test ≡ true → i < n → test i ≡ true
  unfolding every
  every_at zero i h k = absurd (omega arith)
  every_at (suc n) i h k =
      let both = (and-eq-true_iff (every n test) (test n)).0 h in
      by (eqb i n)
      (λ e. ap test (eqb-true i n e) ∙ both.1)
      (λ e. let d = eqb-false i n e in every_at n i both.0 (omega arith))

  -- what holds at each number below n holds at every one
  pub every_from : (n : ℕ) → ((i : ℕ) → i < n → test i ≡ true) → every n test ≡ true
  unfolding every
  every_from zero holds = refl
  every_from (suc n) holds =
      (and-eq-true_iff (every n test) (test n)).1 (every_from n (λ i k. holds i (omega arith)), holds n (omega arith))

  -- a walk starts with yes, takes one number more, and ends
  pub every_none : true ≡ every 0 test
  unfolding every
  every_none = refl

  pub every_next : (i : ℕ) {ok : Bool} → ok ≡ every i test → ok && test i ≡ every (i + 1) test
  unfolding every
  every_next i h = rw (add-one, h)

  pub every_end : (i n : ℕ) {ok : Bool} → i ≡ n → ok ≡ every i test → ok ≡ every n test
  every_end i n e h = h ∙ ap (λ (k : ℕ). every k test) e

  -- a walk that leaves at the first number that fails
  pub every_pass : (n : ℕ) → every n test ≡ true → test n ≡ true → every (n + 1) test ≡ true
  unfolding every
  every_pass n h k = rw (add-one, h, k)

  pub every_fails : (n i : ℕ) → i < n → test i ≡ false → every n test ≡ false
  every_fails n i h k = by (every n test) (λ t. absurd (true≢false (sym (every_at n i t h) ∙ k))) (λ t. t)

  -- where the test holds from n on, more numbers make no difference
  pub every_more : (n k : ℕ) → n ≤ k → ((i : ℕ) → n ≤ i → i < k → test i ≡ true) → every k test ≡ every n test
  unfolding every
  every_more n zero h holds = let z : n ≡ 0 = omega arith in rw z
  every_more n (suc k) h holds =
      by (leb n k)
      (λ t. let l = leb-true n k t in
      rw (holds k l (omega arith), and-true) (every_more n k l (λ i a b. holds i a (omega arith))))
      (λ t. let z : n ≡ suc k = omega (arith, leb-false n k t) in rw z)

  -- what was found is below n, passes the test, and none above it does; it is found where any number passes
  pub record Highest (n h : ℕ) : Type 0 where
    pub answered : highest n test ≡ Some (record { 0 = h })
    pub inside : h < n
    pub passes : test h ≡ true
    pub above : (l : ℕ) → h < l → l < n → test l ≡ false

  pub highest_is : (n i : ℕ) → i < n → test i ≡ true → (h : ℕ) × Highest n h
  unfolding highest
  highest_is zero i h k = absurd (omega arith)
  highest_is (suc n) i h k =
      by (test n)
      (λ t. (n, record { answered = rw t; inside = omega arith; passes = t; above = λ l a b. absurd (omega arith) }))
      (λ t. let d : i ≡ n → ⊥ = λ e. true≢false (sym k ∙ ap test e ∙ t) in
      let r = highest_is n i (omega arith) k in (
        r.0,
        record {
          answered = rw t r.1.answered;
          inside = omega (arith, r.1.inside);
          passes = r.1.passes;
          above = λ l a b. by (eqb l n) (λ e. ap test (eqb-true l n e) ∙ t) (λ e. let f = eqb-false l n e in r.1.above l a (omega arith));
        },
      ))

-- where each test stands for a fact, the test of them all stands for the fact at each number
pub is_every : (n : ℕ) {test : ℕ → Bool} {P : ℕ → Type 0} → ((i : ℕ) → Is (test i) (P i)) →
    Is (every n test) ((i : ℕ) → i < n → P i)
is_every n {test} r = record {
  to = λ h i k. (r i).to (every_at test n i h k);
  from = λ p. every_from test n (λ i k. (r i).from (p i k));
}
