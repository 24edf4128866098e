-- Laws on the numbers given back and on a platform's answer.
use Prim.Native.Nat.{ℕ, zero, suc, ◌-◌, ◌<◌, ◌≤◌}
use mathlib.Core.Bool.{Bool, true, false, cond, ◌||◌, true≢false}
use mathlib.Core.Path.{◌≡◌, refl, sym, ap, ◌∙◌}
use native.Mathlib.Omega.{arith}
use borrow.Author.Tests.{ltb-true, ltb-false, leb-true, leb-false, lt-ltb, le-ltb, lt-leb, ne_eqb}
use lib.Dec.{ltb, leb, eqb}
use lib.IntN.{ℤ, pos, negsuc}
use lib.ListN.{length, get_or, get_or-eq_default}
use Rattle.std.proofs.lemmas.List.{get_or_default}
use Rattle.std.specs.Prelude.{Err}
use Rattle.model.specs.declared.code.Refusal.{Refusal}
use Rattle.model.specs.declared.code.Refusal.TheVariants as code
use Rattle.model.specs.Numbers.{Code, minus, number_of, acceptedb, signed_of, errors, answer_of_number, answer_of, usable_numberb, usableb}

above : (n : ℕ) → 0 < n → answer_of_number (pos n) ≡ Err code.Unusable
above zero h = absurd (omega arith)
above (suc n) h = refl

below : (n : ℕ) → 9 < n → answer_of_number (minus n) ≡ Err code.Unusable
below zero h = absurd (omega arith)
below (suc n) h =
    let past : length errors ≤ n = omega arith in
    ap Err (get_or-eq_default errors code.Unusable past)

usable_above : (n : ℕ) → n < 128 → (eqb n 0 || leb 247 n) ≡ usable_numberb (pos n)
usable_above zero h = refl
usable_above (suc n) h = simp (ne_eqb (suc n) 0 (λ z. omega arith), lt-leb 247 (suc n) (omega arith))

error_of : (n : ℕ) → (get_or errors n code.Unusable ≡ code.Unusable → ⊥) → number_of (Err (get_or errors n code.Unusable)) ≡ negsuc n
error_of zero h = refl
error_of (suc zero) h = refl
error_of (suc (suc zero)) h = refl
error_of (suc (suc (suc zero))) h = refl
error_of (suc (suc (suc (suc zero)))) h = refl
error_of (suc (suc (suc (suc (suc zero))))) h = refl
error_of (suc (suc (suc (suc (suc (suc zero)))))) h = refl
error_of (suc (suc (suc (suc (suc (suc (suc zero))))))) h = refl
error_of (suc (suc (suc (suc (suc (suc (suc (suc zero)))))))) h = refl
error_of (suc (suc (suc (suc (suc (suc (suc (suc (suc n))))))))) h = absurd (h refl)

answer_of_lem : (z : ℤ) → (answer_of_number z ≡ Err code.Unusable → ⊥) → number_of (answer_of_number z) ≡ z
answer_of_lem (pos zero) h = refl
answer_of_lem (pos (suc n)) h = absurd (h refl)
answer_of_lem (negsuc n) h = error_of n (λ e. h (ap Err e))

-- what is not usable is unusable
not_usable : (z : ℤ) → usable_numberb z ≡ false → answer_of_number z ≡ Err code.Unusable
not_usable (pos zero) h = absurd (true≢false h)
not_usable (pos (suc n)) h = refl
not_usable (negsuc n) h = ap Err (get_or-eq_default errors code.Unusable (ltb-false n (length errors) h))

-- an error is not 106: its number is negative
below_zero : ℤ → Bool
below_zero (pos n) = false
below_zero (negsuc n) = true

negative : (n : ℕ) → n < 9 → below_zero (number_of (Err (get_or errors n code.Unusable))) ≡ true
unfolding below_zero
negative zero h = refl
negative (suc zero) h = refl
negative (suc (suc zero)) h = refl
negative (suc (suc (suc zero))) h = refl
negative (suc (suc (suc (suc zero)))) h = refl
negative (suc (suc (suc (suc (suc zero))))) h = refl
negative (suc (suc (suc (suc (suc (suc zero)))))) h = refl
negative (suc (suc (suc (suc (suc (suc (suc zero))))))) h = refl
negative (suc (suc (suc (suc (suc (suc (suc (suc zero)))))))) h = refl
negative (suc (suc (suc (suc (suc (suc (suc (suc (suc n))))))))) h = absurd (omega arith)

is_usable : (z : ℤ) → usable_numberb z ≡ true → answer_of_number z ≡ Err code.Unusable → ⊥
unfolding below_zero
is_usable (pos zero) h e = true≢false (ap acceptedb e)
is_usable (pos (suc n)) h e = true≢false (sym h)
is_usable (negsuc n) h e =
    true≢false (sym (negative n (ltb-true n (length errors) h)) ∙ ap (λ (k : Code). below_zero (number_of k)) e)

module _ (b : ℕ) where
  -- 106 is answered for exactly the bytes that are no answer
  pub unusable_is : usableb b ≡ false → answer_of b ≡ Err code.Unusable
  unusable_is = not_usable (signed_of b)

  pub usable_is : usableb b ≡ true → answer_of b ≡ Err code.Unusable → ⊥
  usable_is = is_usable (signed_of b)

  -- a byte that is neither 0 nor FFh to F7h is no answer
  pub no_answer : 0 < b → b < 247 → answer_of b ≡ Err code.Unusable
  no_answer p q = go (ltb b 128) refl
    where
      go : (t : Bool) → ltb b 128 ≡ t → answer_of_number (cond t (pos b) (minus (256 - b))) ≡ Err code.Unusable
      go true e = above b p
      go false e = below (256 - b) (omega arith)

  -- FFh to F7h are the errors in their order
  pub error_answer : (d : Refusal) → 247 ≤ b → b < 256 → answer_of b ≡ Err (get_or errors (255 - b) d)
  error_answer d p q =
      let high : 128 ≤ b = omega arith in
      let size : 256 - b ≡ suc (255 - b) = omega arith in
      let inside : 255 - b < length errors = omega arith in
      rw (le-ltb b 128 high, size) (ap Err (get_or_default errors (255 - b) code.Unusable d inside))

  -- 0 and FFh to F7h are the answers
  pub usable_byte : b < 256 → (eqb b 0 || leb 247 b) ≡ usableb b
  usable_byte q = go (ltb b 128) refl
    where
      size : 256 - b ≡ suc (255 - b)
      size = omega arith

      high : (t : Bool) → leb 247 b ≡ t → t ≡ ltb (255 - b) (length errors)
      high true e = let h = leb-true 247 b e in sym (lt-ltb (255 - b) 9 (omega arith))
      high false e = let h = leb-false 247 b e in sym (le-ltb (255 - b) 9 (omega arith))

      go : (t : Bool) → ltb b 128 ≡ t → (eqb b 0 || leb 247 b) ≡ usable_numberb (cond t (pos b) (minus (256 - b)))
      go true e = usable_above b (ltb-true b 128 e)
      go false e =
          let h = ltb-false b 128 e in
          rw (ne_eqb b 0 (λ z. omega arith), size) (high (leb 247 b) refl)

  -- an answer that can be used has the byte's signed number: FEh is -2
  pub answer_number : (answer_of b ≡ Err code.Unusable → ⊥) → number_of (answer_of b) ≡ signed_of b
  answer_number usable = answer_of_lem (signed_of b) usable
