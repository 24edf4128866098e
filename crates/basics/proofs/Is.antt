-- A test and the fact that it stands for: for each way in which a test is built, how the fact is.
use Prim.Native.Nat.{ℕ, ◌<◌, ◌≤◌}
use mathlib.Core.Bool.{Bool, true, false, cond, not, ◌&&◌, true≢false}
use mathlib.Core.Path.{◌≡◌, refl, sym}
use borrow.Author.Tests.{ltb-true, ltb-false, leb-true, leb-false, eqb-true, eqb-false, lt-ltb, le-ltb, le-leb, lt-leb, eq-eqb, ne_eqb}
use lib.Dec.{leb, ltb, eqb}

-- the test holds exactly if the fact does
pub record Is (b : Bool) (P : Type 0) : Type 0 where
  pub to : b ≡ true → P
  pub from : P → b ≡ true

-- the same fact, said otherwise
pub is_as : {b : Bool} {P Q : Type 0} → Is b P → (P → Q) → (Q → P) → Is b Q
is_as r f g = record { to = λ h. f (r.to h); from = λ q. r.from (g q) }

pub is_true : (b : Bool) → Is b (b ≡ true)
is_true b = record { to = λ h. h; from = λ h. h }

pub is_lt : (a b : ℕ) → Is (ltb a b) (a < b)
is_lt a b = record { to = ltb-true a b; from = lt-ltb a b }

pub is_le : (a b : ℕ) → Is (leb a b) (a ≤ b)
is_le a b = record { to = leb-true a b; from = le-leb a b }

pub is_eq : (a b : ℕ) → Is (eqb a b) (a ≡ b)
is_eq a b = record { to = eqb-true a b; from = eq-eqb a b }

pub is_not : (b : Bool) → Is (not b) (b ≡ false)
is_not true = record { to = λ h. sym h; from = λ h. sym h }
is_not false = record { to = λ h. refl; from = λ h. refl }

-- the second test counts only where the first holds
and_is : (a : Bool) {b : Bool} {P Q : Type 0} → Is a P → (P → Is b Q) → Is (a && b) (P × Q)
and_is true x y = record { to = λ h. (x.to refl, (y (x.to refl)).to h); from = λ p. (y p.0).from p.1 }
and_is false x y = record { to = λ h. absurd (true≢false (sym h)); from = λ p. x.from p.0 }

pub is_and : {a b : Bool} {P Q : Type 0} → Is a P → (P → Is b Q) → Is (a && b) (P × Q)
is_and {a} x y = and_is a x y

pub is_both : {a b : Bool} {P Q : Type 0} → Is a P → Is b Q → Is (a && b) (P × Q)
is_both {a} x y = and_is a x (λ _. y)

pub is_cond : (b : Bool) {x y : Bool} {P Q : Type 0} → Is x P → Is y Q → Is (cond b x y) ((b ≡ true → P) × (b ≡ false → Q))
is_cond true x y = record { to = λ h. (λ _. x.to h, λ e. absurd (true≢false e)); from = λ p. x.from (p.0 refl) }
is_cond false x y = record { to = λ h. (λ e. absurd (true≢false (sym e)), λ _. y.to h); from = λ p. y.from (p.1 refl) }

pub is_if_lt : (a b : ℕ) {x y : Bool} {P Q : Type 0} → Is x P → Is y Q → Is (cond (ltb a b) x y) ((a < b → P) × (b ≤ a → Q))
is_if_lt a b x y =
    is_as (is_cond (ltb a b) x y)
    (λ p. (λ h. p.0 (lt-ltb a b h), λ h. p.1 (le-ltb a b h)))
    (λ p. (λ h. p.0 (ltb-true a b h), λ h. p.1 (ltb-false a b h)))

pub is_if_le : (a b : ℕ) {x y : Bool} {P Q : Type 0} → Is x P → Is y Q → Is (cond (leb a b) x y) ((a ≤ b → P) × (b < a → Q))
is_if_le a b x y =
    is_as (is_cond (leb a b) x y)
    (λ p. (λ h. p.0 (le-leb a b h), λ h. p.1 (lt-leb a b h)))
    (λ p. (λ h. p.0 (leb-true a b h), λ h. p.1 (leb-false a b h)))

pub is_if_eq : (a b : ℕ) {x y : Bool} {P Q : Type 0} → Is x P → Is y Q →
    Is (cond (eqb a b) x y) ((a ≡ b → P) × ((a ≡ b → ⊥) → Q))
is_if_eq a b x y =
    is_as (is_cond (eqb a b) x y)
    (λ p. (λ h. p.0 (eq-eqb a b h), λ h. p.1 (ne_eqb a b h)))
    (λ p. (λ h. p.0 (eqb-true a b h), λ h. p.1 (eqb-false a b h)))
