-- docs/REFERENCE.md, 'The minimum'.
use Rattle.std.specs.Prelude.{ℕ, zero, suc, Bool, cond, ltb}

-- the lesser of two states, which is the shallower
unfoldable pub lesser_of : ℕ → ℕ → ℕ
lesser_of x y = cond (ltb x y) x y

-- the shallowest of the states of those numbers below n that count; OFF where none does
unfoldable pub minimum_of : ℕ → (ℕ → Bool) → (ℕ → ℕ) → ℕ → ℕ
minimum_of zero counts state off = off
minimum_of (suc n) counts state off =
    cond (counts n) (lesser_of (state n) (minimum_of n counts state off)) (minimum_of n counts state off)
