-- Laws on the lesser of two states.
use Prim.Native.Nat.{ℕ, ◌<◌, ◌≤◌}
use mathlib.Core.Path.{◌≡◌}
use mathlib.Core.Logic.{◌⊎◌, inl, inr}
use native.Mathlib.Omega.{arith}
use borrow.Author.Tests.{lt-ltb, le-ltb, ltb-true, ltb-false}
use lib.Dec.{ltb}
use Rattle.basics.proofs.Tests.{by}
use Rattle.model.specs.Minimum.{lesser_of}

pub lesser_first : (x y : ℕ) → x < y → lesser_of x y ≡ x
unfolding lesser_of
lesser_first x y h = simp (lt-ltb x y h)

pub lesser_second : (x y : ℕ) → y ≤ x → lesser_of x y ≡ y
unfolding lesser_of
lesser_second x y h = simp (le-ltb x y h)

-- it is at most each, and one of them
pub record Lesser (x y m : ℕ) : Type 0 where
  pub first : m ≤ x
  pub second : m ≤ y
  pub met : (m ≡ x) ⊎ (m ≡ y)

pub lesser_is : (x y : ℕ) → Lesser x y (lesser_of x y)
lesser_is x y =
    by (ltb x y)
    (λ t. let h = ltb-true x y t in
    let e = lesser_first x y h in
    record { first = omega (arith, e); second = omega (arith, e, h); met = inl e })
    (λ t. let h = ltb-false x y t in
    let e = lesser_second x y h in
    record { first = omega (arith, e, h); second = omega (arith, e); met = inr e })
