use Rattle.std.proofs.Common.{◌≡◌, ◌-◌}
use Rattle.model.specs.Path.{level_at}
use Rattle.paths.proofs.ancestors.level_of.Given as goal

-- the level is the one that d has among the levels left
abbrev pub invariant-loop-i : goal.invariant-loop-i
invariant-loop-i l = level_at l.parents (l.top - l.i) l.d ≡ level_at l.parents l.top l.fn.domain.0
