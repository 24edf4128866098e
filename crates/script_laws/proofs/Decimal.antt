-- Decimal digits, read back, give the number.
use Prim.Native.Nat.{ℕ, zero, suc, ◌+◌, ◌-◌, ◌*◌, ◌/◌, ◌<◌}
use mathlib.Core.List.{List, [], ◌∷◌, ◌++◌}
use mathlib.Core.Path.{◌≡◌, refl, ◌∙◌}
use native.Mathlib.Omega.{arith}
use borrow.Author.Tests.{ltb-true}
use lib.Dec.{ltb}
use Rattle.basics.proofs.Tests.{cond_rule}
use Rattle.script.specs.Printed.{last_digit, digits_of, decimal_of}

-- the number that digits are, after what stands before them
unfoldable pub value_of : ℕ → List ℕ → ℕ
value_of before [] = before
value_of before (d ∷ ds) = value_of (10 * before + (d - 48)) ds

value_append : (before : ℕ) (ds es : List ℕ) → value_of before (ds ++ es) ≡ value_of (value_of before ds) es
unfolding value_of
value_append before [] es = refl
value_append before (d ∷ ds) es = value_append (10 * before + (d - 48)) ds es

-- ten, so many times and once more
unfoldable pub tens : ℕ → ℕ
tens zero = 10
tens (suc places) = 10 * tens places

digits_value : (places n : ℕ) → n < tens places → value_of 0 (digits_of places n) ≡ n
unfolding digits_of tens value_of
digits_value zero n h = omega (arith, h)
digits_value (suc places) n h =
    cond_rule (λ (before : List ℕ). value_of 0 (before ++ last_digit n ∷ []) ≡ n) (ltb n 10)
    (λ e. let small = ltb-true n 10 e in omega (arith, small))
    (λ e.
    let rest = digits_value places (n / 10) (omega (arith, h)) in
    value_append 0 (digits_of places (n / 10)) (last_digit n ∷ []) ∙ omega (arith, rest))

-- a number of at most ten digits is read back
pub decimal_value : (n : ℕ) → n < 10000000000 → value_of 0 (decimal_of n) ≡ n
unfolding tens
decimal_value n h = digits_value 9 n h
