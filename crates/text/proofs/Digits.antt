-- Digits.
use Prim.Native.Nat.{ℕ, zero, suc, ◌-◌, ◌/◌, ◌<◌, ◌≤◌}
use mathlib.Core.List.{[], ◌∷◌, ◌++◌}
use mathlib.Core.Path.{◌≡◌, refl, sym}
use native.Mathlib.Omega.{arith}
use borrow.Author.Tests.{lt-ltb, le-ltb}
use Rattle.script.specs.Printed.{last_digit, digits_of}

one : (places n : ℕ) → n < 10 → digits_of places n ≡ last_digit n ∷ []
unfolding digits_of
one zero n h = refl
one (suc places) n h = simp (lt-ltb _ _ h)

more : (places n : ℕ) → 0 < places → 10 ≤ n → digits_of places n ≡ digits_of (places - 1) (n / 10) ++ last_digit n ∷ []
unfolding digits_of
more zero n p h = absurd (omega arith)
more (suc places) n p h = let e : suc places - 1 ≡ places = omega arith in simp (le-ltb _ _ h, e)

module _ (places n : ℕ) {digit : ℕ} (last : digit ≡ last_digit n) where
  -- there is no place before the last digit
  pub digits_none : places ≡ 0 → digit ∷ [] ≡ digits_of places n
  unfolding digits_of
  digits_none h = simp (h, last)

  -- a number below 10 has one digit
  pub digits_one : n < 10 → digit ∷ [] ≡ digits_of places n
  digits_one h = simp last (sym (one places n h))

  -- the digits before the last one are those of a tenth
  pub digits_more : 0 < places → 10 ≤ n → digits_of (places - 1) (n / 10) ++ digit ∷ [] ≡ digits_of places n
  digits_more p h = simp last (sym (more places n p h))
