use Rattle.std.proofs.Common.{◌≡◌, get_or, replicate}
use Rattle.model.specs.Limits.{entry_limit}
use Rattle.model.specs.Table.{filled_of}
use Rattle.fresh.proofs.off.stored.Given as goal

-- the entries passed are stored
abbrev pub invariant-loop-i : goal.invariant-loop-i
invariant-loop-i l = l.row ≡ filled_of (λ j. get_or l.topology j 0) 0 l.i (replicate entry_limit 0)
