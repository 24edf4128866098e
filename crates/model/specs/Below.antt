-- Tests over the numbers below a bound.
use Rattle.std.specs.Prelude.{ℕ, zero, suc, Bool, true, cond, ◌&&◌, Option, None, Some}
use Rattle.model.specs.declared.sorts.PowerLevel.{PowerLevel}

-- the test holds at every number below n
unfoldable pub every : ℕ → (ℕ → Bool) → Bool
every zero test = true
every (suc n) test = every n test && test n

-- the highest level below n at which the test holds
unfoldable pub highest : ℕ → (ℕ → Bool) → Option PowerLevel
highest zero test = None
highest (suc n) test = cond (test n) (Some (record { 0 = n })) (highest n test)
