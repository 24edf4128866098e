-- The limits of a board, each named once.
use Rattle.std.specs.Prelude.{ℕ, suc, ◌*◌}

-- the most CPUs
abbrev pub cpu_limit : ℕ
cpu_limit = 16

-- the most power domains
abbrev pub domain_limit : ℕ
domain_limit = 16

-- the most entries of a topology
abbrev pub entry_limit : ℕ
entry_limit = suc domain_limit

-- the highest MAX of a platform
abbrev pub highest_max : ℕ
highest_max = 3

-- levels of a composite state: 0, the CPU, to the highest MAX
abbrev pub levels : ℕ
levels = suc highest_max

-- the most states of a platform
abbrev pub state_limit : ℕ
state_limit = 16

-- the slots of a table by level and CPU
abbrev pub request_slots : ℕ
request_slots = highest_max * cpu_limit
