-- Laws on tests.
use Prim.Native.Nat.{ℕ, ◌<◌, ◌≤◌}
use mathlib.Core.Bool.{Bool, true, false, cond}
use mathlib.Core.Path.{◌≡◌, refl}
use borrow.Author.Tests.{ltb-true, ltb-false}
use lib.Dec.{ltb}

-- what follows from a test that holds, and from one that fails, follows
pub by : {P : Type 0} (b : Bool) → (b ≡ true → P) → (b ≡ false → P) → P
by true p q = p refl
by false p q = q refl

-- what holds of both choices, each where it is made, holds of the choice
pub cond_rule : {A : Type 0} (P : A → Type 0) (b : Bool) {x y : A} → (b ≡ true → P x) → (b ≡ false → P y) →
    P (cond b x y)
cond_rule P true p q = p refl
cond_rule P false p q = q refl

-- one number is below the other, or not
pub below_or : {P : Type 0} (a b : ℕ) → (a < b → P) → (b ≤ a → P) → P
below_or a b p q = by (ltb a b) (λ e. p (ltb-true a b e)) (λ e. q (ltb-false a b e))
