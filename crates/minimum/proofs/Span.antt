-- Spans, and a span without one number walked from its start to its end: its minimum, and a test of each number.
use Prim.Native.Nat.{ℕ, ◌+◌, ◌<◌, ◌≤◌}
use mathlib.Core.Bool.{Bool, true, cond, not, ◌&&◌, and-eq-true_iff}
use mathlib.Core.Path.{◌≡◌, refl}
use native.Mathlib.Numerals.{add-one}
use native.Mathlib.Omega.{arith}
use borrow.Author.Tests.{ne_eqb}
use lib.Dec.{eqb}
use Rattle.basics.proofs.Tests.{by}
use Rattle.model.proofs.Below.{every_more}
use Rattle.model.proofs.Spans.{span_has, span_within}
use Rattle.model.specs.Below.{every}
use Rattle.model.specs.Minimum.{lesser_of, minimum_of}
use Rattle.model.specs.Span.{from_tob, from_to_withoutb}
use Rattle.minimum.proofs.Minimum.{minimum_none, minimum_same}

module _ (start end : ℕ) where
  -- without its end a span is whole
  pub minimum_whole : (state : ℕ → ℕ) (off : ℕ) →
      minimum_of end (from_to_withoutb start end end) state off ≡ minimum_of end (from_tob start end) state off
  minimum_whole state off =
      minimum_same end end (from_to_withoutb start end end) (from_tob start end) state state off
      (record {
        counted = λ i c. record { below = c.below; is = ((and-eq-true_iff (from_tob start end i) (not (eqb i end))).0 c.is).0 };
        same = λ i c. refl;
      })
      (record {
        counted = λ i c.
            let apart : not (eqb i end) ≡ true = rw (ne_eqb i end (λ e. omega (arith, c.below, e))) in
            record { below = c.below; is = (and-eq-true_iff (from_tob start end i) (not (eqb i end))).1 (c.is, apart) };
        same = λ i c. refl;
      })

module _ (start end one : ℕ) where
  abbrev counts : ℕ → Bool
  counts = from_to_withoutb start end one

  within : (i : ℕ) → from_to_withoutb start end one i ≡ true → (start ≤ i) × (i < end)
  within i h = span_within start end i ((and-eq-true_iff (from_tob start end i) (not (eqb i one))).0 h).0

  module _ (state : ℕ → ℕ) (off : ℕ) where
    -- before the start there is none
    pub minimum_before : minimum_of start (from_to_withoutb start end one) state off ≡ off
    minimum_before = minimum_none counts state off start (λ i c. omega (arith, c.below, (within i c.is).0))

    -- each number of the span is one more, unless it is the one left out
    pub minimum_turn : (i : ℕ) → start ≤ i → i < end →
        minimum_of (i + 1) (from_to_withoutb start end one) state off
        ≡ cond (not (eqb i one))
        (lesser_of (state i) (minimum_of i (from_to_withoutb start end one) state off))
        (minimum_of i (from_to_withoutb start end one) state off)
    unfolding minimum_of
    minimum_turn i low high = rw (add-one, span_has start end i low high)

    -- past the end there is no more
    pub minimum_past : (n : ℕ) → end ≤ n →
        minimum_of n (from_to_withoutb start end one) state off ≡ minimum_of end (from_to_withoutb start end one) state off
    minimum_past n h =
        minimum_same n end counts counts state state off
        (record { counted = λ i c. record { below = (within i c.is).1; is = c.is }; same = λ i c. refl })
        (record { counted = λ i c. record { below = omega (arith, c.below); is = c.is }; same = λ i c. refl })

  module _ (fails : ℕ → Bool) where
    abbrev passes : ℕ → Bool
    passes i = not (from_to_withoutb start end one i && fails i)

    outside : (i : ℕ) → ((start ≤ i) × (i < end) → ⊥) → not (from_to_withoutb start end one i && fails i) ≡ true
    outside i out =
        by (from_to_withoutb start end one i) (λ t. absurd (out (within i t))) (λ t. rw t)

    -- the same of a test that no number of the span but that one fails
    pub every_before : every start (λ i. not (from_to_withoutb start end one i && fails i)) ≡ true
    unfolding every
    every_before = every_more passes 0 start (omega arith) (λ i a b. outside i (λ s. omega (arith, b, s.0)))

    pub every_turn : (i : ℕ) → start ≤ i → i < end →
        every (i + 1) (λ j. not (from_to_withoutb start end one j && fails j))
        ≡ (every i (λ j. not (from_to_withoutb start end one j && fails j)) && not (not (eqb i one) && fails i))
    unfolding every
    every_turn i low high = rw (add-one, span_has start end i low high)

    pub every_past : (n : ℕ) → end ≤ n →
        every n (λ i. not (from_to_withoutb start end one i && fails i)) ≡ every end (λ i. not (from_to_withoutb start end one i && fails i))
    every_past n h = every_more passes end n h (λ i a b. outside i (λ s. omega (arith, a, s.1)))
