-- Tables: rows of a fixed length, and what stands in them.
use Rattle.std.specs.Prelude.{ℕ, zero, suc, ◌+◌, ◌-◌, ◌*◌, cond, List, ltb, get_or, set, replicate}
use Rattle.model.specs.Limits.{cpu_limit, domain_limit, request_slots}

-- a row after its n places from start on are set, each to its own value
unfoldable pub filled_of : {A : Type 0} → (ℕ → A) → ℕ → ℕ → List A → List A
filled_of value start zero row = row
filled_of value start (suc n) row = set (filled_of value start n row) (start + n) (value n)

-- a table in which n places are used, and the rest hold what stands for nothing
abbrev pub table_of : {A : Type 0} → ℕ → A → (ℕ → A) → ℕ → List A
table_of slots nothing value n = filled_of value 0 n (replicate slots nothing)

-- a row of domains, of which there are n
abbrev pub domain_row_of : (ℕ → ℕ) → ℕ → List ℕ
domain_row_of = table_of domain_limit 0

-- a row of CPUs, of which there are n
abbrev pub cpu_row_of : (ℕ → ℕ) → ℕ → List ℕ
cpu_row_of = table_of cpu_limit 0

-- where a CPU stands in a table by level and CPU, level 1 first
abbrev pub place_of : ℕ → ℕ → ℕ
place_of level cpu = (level - 1) * cpu_limit + cpu

-- what stands there
abbrev pub at_level : List ℕ → ℕ → ℕ → ℕ
at_level row level cpu = get_or row (place_of level cpu) 0

-- the table after a store there; a number that is no CPU's is stored nowhere
abbrev pub set_at_level : List ℕ → ℕ → ℕ → ℕ → List ℕ
set_at_level row level cpu v = cond (ltb cpu cpu_limit) (set row (place_of level cpu) v) row

-- the part of such a table that is of one level
abbrev pub level_row_of : List ℕ → ℕ → List ℕ
level_row_of row level = cpu_row_of (at_level row level) cpu_limit

-- a table by level and CPU that holds v for n CPUs at levels 1 to max
unfoldable pub levels_filled_of : ℕ → ℕ → ℕ → List ℕ
levels_filled_of v n zero = replicate request_slots 0
levels_filled_of v n (suc below) = filled_of (λ _. v) (below * cpu_limit) n (levels_filled_of v n below)
