-- The numbers of a span.
use Prim.Native.Nat.{ℕ, ◌<◌, ◌≤◌}
use mathlib.Core.Bool.{true, and-eq-true_iff}
use mathlib.Core.Path.{◌≡◌, ap, ◌∙◌}
use borrow.Author.Tests.{le-leb, lt-ltb, leb-true, ltb-true}
use lib.Dec.{leb, ltb}
use Rattle.model.specs.declared.node.Span.{Span}
use Rattle.model.specs.Span.{from_tob, in_spanb}

module _ (start end : ℕ) where
  -- the numbers from start on and before end are those of the span
  pub span_has : (i : ℕ) → start ≤ i → i < end → from_tob start end i ≡ true
  span_has i h k = (and-eq-true_iff (leb start i) (ltb i end)).1 (le-leb start i h, lt-ltb i end k)

  pub span_within : (i : ℕ) → from_tob start end i ≡ true → (start ≤ i) × (i < end)
  span_within i h =
      let both = (and-eq-true_iff (leb start i) (ltb i end)).0 h in (leb-true start i both.0, ltb-true i end both.1)

-- the same, of a span
pub in_span : (s : Span) (i : ℕ) → s.start ≤ i → i < s.end → in_spanb s i ≡ true
in_span s = span_has s.start s.end

pub span_in_lem : (s : Span) (i : ℕ) → in_spanb s i ≡ true → (s.start ≤ i) × (i < s.end)
span_in_lem s = span_within s.start s.end

-- spans with the same start and end are the same
pub span_is : (s u : Span) → s.start ≡ u.start → s.end ≡ u.end → s ≡ u
span_is s u a b = ap (λ (x : ℕ). record { start = x; end = s.end }) a ∙ ap (λ (y : ℕ). record { start = u.start; end = y }) b
