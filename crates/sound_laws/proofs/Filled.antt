-- What stands in a table by level and CPU that was filled.
use Prim.Native.Nat.{ℕ, zero, suc, ◌+◌, ◌-◌, ◌*◌, ◌<◌, ◌≤◌}
use mathlib.Core.Path.{◌≡◌, ap, ◌∙◌}
use native.Mathlib.Omega.{arith}
use borrow.Author.Tests.{eqb-true, eqb-false, ltb-true, ltb-false}
use lib.Dec.{eqb, ltb}
use lib.ListN.{get_or, length, length-replicate, get_or-replicate}
use Rattle.basics.proofs.Tests.{by}
use Rattle.model.specs.Limits.{cpu_limit, highest_max, request_slots}
use Rattle.model.specs.Table.{filled_of, place_of, at_level, levels_filled_of}
use Rattle.model.proofs.Tables.{length_filled, filled_at, filled_before, filled_past}

-- its length
pub length_levels : (v n max : ℕ) → length (levels_filled_of v n max) ≡ request_slots
unfolding levels_filled_of
length_levels v n zero = length-replicate {A = ℕ} request_slots 0
length_levels v n (suc max) = length_filled (λ _. v) (max * cpu_limit) n (levels_filled_of v n max) ∙ length_levels v n max

module _ (v n : ℕ) (few : n ≤ cpu_limit) where
  -- the places that are used hold the value
  pub levels_at : (max l c : ℕ) → max ≤ highest_max → 1 ≤ l → l ≤ max → c < n → at_level (levels_filled_of v n max) l c ≡ v
  unfolding levels_filled_of
  levels_at zero l c b o h i = absurd (omega arith)
  levels_at (suc max) l c b o h i =
      by (eqb l (suc max))
      (λ e. let z : place_of l c ≡ max * cpu_limit + c = omega (arith, eqb-true l (suc max) e) in
      ap (λ (p : ℕ). get_or (filled_of (λ _. v) (max * cpu_limit) n (levels_filled_of v n max)) p 0) z
      ∙ filled_at (λ _. v) (max * cpu_limit) n c (levels_filled_of v n max) 0 i (omega (arith, length_levels v n max, few)))
      (λ e. let d = eqb-false l (suc max) e in
      filled_before (λ _. v) (max * cpu_limit) n (place_of l c) (levels_filled_of v n max) 0 (omega (arith, d, few))
      ∙ levels_at max l c (omega arith) o (omega (arith, d)) i)

  -- the others are 0
  pub levels_past : (max l c : ℕ) → max ≤ highest_max → 1 ≤ l → l ≤ highest_max → c < cpu_limit → (l ≤ max → n ≤ c) →
      at_level (levels_filled_of v n max) l c ≡ 0
  unfolding levels_filled_of
  levels_past zero l c b o h i past = get_or-replicate {A = ℕ} request_slots (place_of l c) 0 0 (omega arith)
  levels_past (suc max) l c b o h i past =
      by (ltb l (suc max))
      (λ e. let u = ltb-true l (suc max) e in
      filled_before (λ _. v) (max * cpu_limit) n (place_of l c) (levels_filled_of v n max) 0 (omega (arith, u))
      ∙ levels_past max l c (omega arith) o h i (λ g. past (omega arith)))
      (λ e. let u = ltb-false l (suc max) e in
      filled_past (λ _. v) (max * cpu_limit) n (place_of l c) (levels_filled_of v n max) 0
      (by (eqb l (suc max))
      (λ f. let z = eqb-true l (suc max) f in omega (arith, z, past (omega (arith, z))))
      (λ f. omega (arith, u, eqb-false l (suc max) f, few)))
      ∙ levels_past max l c (omega arith) o h i (λ g. absurd (omega (arith, u, g))))
