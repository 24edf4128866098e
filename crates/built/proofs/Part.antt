-- A span that is entered number by number.
use Prim.Native.Nat.{ℕ, suc, ◌<◌, ◌≤◌}
use mathlib.Core.Path.{◌≡◌, ap, ◌∙◌}
use native.Mathlib.Omega.{arith}
use borrow.Author.Tests.{lt-leb}
use Rattle.basics.proofs.Tests.{below_or}
use Rattle.model.specs.Span.{empty_span, grown_of}
use Rattle.model.specs.declared.node.Span.{Span}

-- the part of a span that holds its numbers below n
pub record Part (n : ℕ) (whole part : Span) : Type 0 where
  pub before : n ≤ whole.start → part ≡ empty_span
  pub within : whole.start < n → n ≤ whole.end → part ≡ record { start = whole.start; end = n }
  pub past : whole.end ≤ n → part ≡ whole

-- a part grown by the next number of the span
grown_part : (n : ℕ) (whole part : Span) → Part n whole part → whole.start ≤ n → n < whole.end →
    grown_of part n ≡ record { start = whole.start; end = suc n }
grown_part n whole part p low high =
    below_or whole.start n
    (λ h. ap (λ (x : Span). grown_of x n) (p.within h (omega arith)) ∙ simp (lt-leb n whole.start h))
    (λ h. let z : n ≡ whole.start = omega arith in
    ap (λ (x : Span). grown_of x n) (p.before h) ∙ ap (λ (x : ℕ). record { start = x; end = suc n }) z)

module _ (n : ℕ) (whole part : Span) (p : Part n whole part) (some : whole.start < whole.end) where
  -- a number that is not the span's adds nothing
  pub part_same : (whole.start ≤ n → n < whole.end → ⊥) → Part (suc n) whole part
  part_same out = record {
    before = λ h. p.before (omega arith);
    within = λ h k. absurd (out (omega arith) (omega arith));
    past = λ h. below_or n whole.end
        (λ u. absurd (out (omega (arith, some)) u))
        (λ u. p.past u);
  }

  -- the next number of the span is added
  pub part_grown : whole.start ≤ n → n < whole.end → Part (suc n) whole (grown_of part n)
  part_grown low high = let e = grown_part n whole part p low high in record {
    before = λ h. absurd (omega arith);
    within = λ h k. e;
    past = λ h. let z : suc n ≡ whole.end = omega arith in e ∙ ap (λ (x : ℕ). record { start = whole.start; end = x }) z;
  }
