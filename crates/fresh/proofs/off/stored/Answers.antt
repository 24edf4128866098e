use Rattle.std.proofs.Common.{ℕ, List, get_or, refl, replicate}
use Rattle.model.proofs.Tables.{filled_none, filled_turn}
use Rattle.model.specs.Limits.{entry_limit}
use Rattle.fresh.proofs.off.stored.Goals as goal

abbrev entry : List ℕ → ℕ → ℕ
entry topology j = get_or topology j 0

pub loop-i-init : goal.loop-i-init
loop-i-init c = filled_none (entry c.args.topology.now) 0 (replicate entry_limit 0)

pub loop-i-preserved : goal.loop-i-preserved
loop-i-preserved c =
    filled_turn (entry c.args.topology.now) (replicate entry_limit 0) c.loop-i.i c.loop-i.row c.put.new.row _
    c.loop-i.invariant refl c.put.ensures
