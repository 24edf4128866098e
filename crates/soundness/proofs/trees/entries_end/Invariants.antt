use Rattle.std.proofs.Common.{◌≡◌, cond, eqb, get_or, ltb, true}
use Rattle.model.specs.Below.{every}
use Rattle.soundness.proofs.trees.entries_end.Given as goal

-- the entries passed are 0 where they lie past the last
abbrev pub invariant-loop-i : goal.invariant-loop-i
invariant-loop-i l = l.ends ≡ every l.i (λ i. cond (ltb l.last i) (eqb (get_or l.row i 0) 0) true)
