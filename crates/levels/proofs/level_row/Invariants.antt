use Rattle.std.proofs.Common.{◌≡◌, ◌+◌, get_or, replicate}
use Rattle.model.specs.Limits.{cpu_limit}
use Rattle.model.specs.Table.{filled_of}
use Rattle.levels.proofs.level_row.Given as goal

-- the places that were walked hold what stands so many places past the level's start
abbrev pub invariant-loop-i : goal.invariant-loop-i
invariant-loop-i l = l.x-items ≡ filled_of (λ k. get_or l.row (l.from + k) 0) 0 l.i (replicate cpu_limit 0)
