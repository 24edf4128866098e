-- A level as the part of the row that starts where the level starts.
use Prim.Native.Nat.{ℕ, ◌+◌, ◌-◌, ◌*◌}
use mathlib.Core.List.{List}
use mathlib.Core.Path.{◌≡◌, ap}
use native.Mathlib.Omega.{arith}
use lib.ListN.{get_or}
use Rattle.model.specs.Limits.{cpu_limit}
use Rattle.model.specs.Table.{place_of, at_level}

module _ (row : List ℕ) (level from : ℕ) (e : from ≡ place_of level 0) where
  -- what stands so many places past the level's start is the CPU's
  pub start_at_lem : (i : ℕ) → get_or row (from + i) 0 ≡ at_level row level i
  start_at_lem i = let z : from + i ≡ (level - 1) * cpu_limit + i = omega (arith, e) in ap (λ (k : ℕ). get_or row k 0) z
