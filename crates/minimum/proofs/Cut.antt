-- The minimum of a span that is cut in two.
use Prim.Native.Nat.{ℕ, ◌<◌, ◌≤◌}
use mathlib.Core.Path.{◌≡◌, refl, sym}
use mathlib.Core.Logic.{⊎_elim}
use native.Mathlib.Omega.{arith}
use borrow.Author.Tests.{ltb-true, ltb-false}
use lib.Dec.{ltb}
use Rattle.basics.proofs.Tests.{by}
use Rattle.model.proofs.Spans.{span_has, span_within}
use Rattle.model.specs.Minimum.{lesser_of, minimum_of}
use Rattle.model.specs.Span.{from_tob}
use Rattle.minimum.proofs.Lesser.{lesser_is}
use Rattle.minimum.proofs.Minimum.{Counted, Within, met_within, minimum_is, minimum_only}

counted : (start end i : ℕ) → start ≤ i → i < end → Counted end (from_tob start end) i
counted start end i h k = record { below = k; is = span_has start end i h k }

-- a part of a span counts in the span
part : (state : ℕ → ℕ) (start end first last : ℕ) → start ≤ first → last ≤ end →
    Within last end (from_tob first last) (from_tob start end) state state
part state start end first last h k = record {
  counted = λ i c. let s = span_within first last i c.is in counted start end i (omega (arith, s.0)) (omega (arith, s.1));
  same = λ i c. refl;
}

module _ (state : ℕ → ℕ) (off start middle end : ℕ) where
  pub minimum_cut : start ≤ middle → middle ≤ end →
      minimum_of end (from_tob start end) state off
      ≡ lesser_of (minimum_of middle (from_tob start middle) state off) (minimum_of end (from_tob middle end) state off)
  minimum_cut h k =
      let a = minimum_of middle (from_tob start middle) state off in
      let b = minimum_of end (from_tob middle end) state off in
      let low = minimum_is (from_tob start middle) state off middle in
      let high = minimum_is (from_tob middle end) state off end in
      let l = lesser_is a b in
      sym (minimum_only (from_tob start end) state off end (lesser_of a b) (record {
        bound = λ i c. let s = span_within start end i c.is in
            by (ltb i middle)
            (λ t. omega (arith, l.first, low.bound i (counted start middle i s.0 (ltb-true i middle t))))
            (λ t. omega (arith, l.second, high.bound i (counted middle end i (ltb-false i middle t) s.1)));
        start = omega (arith, l.first, low.start);
        met = ⊎_elim
            (λ e. rw e (met_within _ _ _ _ _ _ off a (part state start end start middle (omega arith) k) low.met))
            (λ e. rw e (met_within _ _ _ _ _ _ off b (part state start end middle end h (omega arith)) high.met))
            l.met;
      }))
