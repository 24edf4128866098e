-- The walk for the highest level at which a test holds: a step of it, and its ends.
use Prim.Native.Nat.{ℕ, zero, suc, ◌-◌, ◌<◌, ◌≤◌}
use mathlib.Core.Bool.{Bool, true, false}
use mathlib.Core.Path.{◌≡◌, ap, sym, ◌∙◌}
use native.Mathlib.Omega.{arith}
use Rattle.std.specs.Prelude.{Some, None}
use Rattle.model.specs.Below.{highest}

module _ (holds : ℕ → Bool) where
  -- a level at which it does not hold is passed
  pub highest_next : (n : ℕ) → 0 < n → holds (n - 1) ≡ false → highest n holds ≡ highest (n - 1) holds
  unfolding highest
  highest_next zero k h = absurd (omega arith)
  highest_next (suc n) k h =
      let z : suc n - 1 ≡ n = omega arith in
      let e : holds n ≡ false = ap holds (sym z) ∙ h in
      simp (e, z)

  -- the first at which it holds is the highest
  pub highest_found : (n : ℕ) → 0 < n → holds (n - 1) ≡ true → highest n holds ≡ Some (record { 0 = n - 1 })
  unfolding highest
  highest_found zero k h = absurd (omega arith)
  highest_found (suc n) k h =
      let z : suc n - 1 ≡ n = omega arith in
      let e : holds n ≡ true = ap holds (sym z) ∙ h in
      simp (e, z)

  -- with no level left there is none
  pub highest_end : (n : ℕ) → n ≤ 0 → highest n holds ≡ None
  unfolding highest
  highest_end n h = let z : n ≡ 0 = omega arith in rw z
