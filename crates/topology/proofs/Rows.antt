-- The rows that are built: a step of each loop over them.
use Prim.Native.Nat.{ℕ, zero, suc, ◌+◌, ◌-◌}
use mathlib.Core.List.{List}
use mathlib.Core.Path.{◌≡◌, refl}
use native.Mathlib.Omega.{arith}
use native.Mathlib.Numerals.{add-one}
use lib.ListN.{get_or}
use Rattle.model.specs.Assign.{SpanRows, entered_of, assigned_of, all_assigned_of}
use Rattle.model.specs.Topology.{parent_of, cpu_node_of}

module _ (parents : List ℕ) where
  -- with no level left nothing is entered
  pub assigned_end : (left d cpu : ℕ) (r : SpanRows) → left ≡ 0 → r ≡ assigned_of left parents d cpu r
  unfolding assigned_of
  assigned_end left d cpu r h = rw h

  -- the CPU is entered here, and goes on to the parent with one level less
  pub assigned_next : (left d cpu parent : ℕ) (r entered after : SpanRows) → (left ≡ 0 → ⊥) →
      entered ≡ entered_of d cpu r → parent ≡ get_or parents d 0 → after ≡ assigned_of (left - 1) parents parent cpu entered →
      after ≡ assigned_of left parents d cpu r
  unfolding assigned_of
  assigned_next zero d cpu parent r entered after h e p a = absurd (h refl)
  assigned_next (suc left) d cpu parent r entered after h e p a =
      let z : suc left - 1 ≡ left = omega arith in rw (a, e, p, z)

module _ (t : List ℕ) (max : ℕ) (parents : List ℕ) (r : SpanRows) where
  -- no CPU is entered yet
  pub all_none : r ≡ all_assigned_of t max parents 0 r
  unfolding all_assigned_of
  all_none = refl

  -- the next CPU is entered
  pub all_next : (n parent : ℕ) (before after : SpanRows) → before ≡ all_assigned_of t max parents n r →
      parent ≡ parent_of t (cpu_node_of t max n) → after ≡ assigned_of max parents parent n before →
      after ≡ all_assigned_of t max parents (n + 1) r
  unfolding all_assigned_of
  all_next n parent before after b p a = rw (a, b, p, add-one)
