-- Laws on lists.
use Prim.Native.Nat.{ℕ, zero, suc}
use mathlib.Core.List.{List, [], ◌∷◌}
use mathlib.Core.Path.{◌≡◌, refl}
use native.Mathlib.Omega.{arith}
use lib.ListN.{get_or, set, length-set, get_or-eq_default}

module _ {A : Type 0} where
  -- after a store of what stands for the elements past the end, that is what is read
  pub get_d_set_default : (l : List A) (i : ℕ) (d : A) → get_or (set l i d) i d ≡ d
  get_d_set_default [] i d = get_or-eq_default (set [] i d) d {n = i} (simp length-set (omega arith))
  get_d_set_default (x ∷ xs) zero d = refl
  get_d_set_default (x ∷ xs) (suc i) d = get_d_set_default xs i d
