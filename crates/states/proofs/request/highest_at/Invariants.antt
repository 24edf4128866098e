use Rattle.std.proofs.Common.{◌≡◌, Bool, ℕ}
use Rattle.model.specs.Below.{highest}
use Rattle.model.specs.Limits.{levels}
use Rattle.model.specs.declared.sorts.PowerLevel.{PowerLevel}
use Rattle.states.proofs.request.highest_at.Given as goal

-- the highest level is among those that are left
abbrev pub invariant-loop-level : goal.invariant-loop-level
invariant-loop-level g l =
    (holds : ℕ → Bool) → ((level : PowerLevel) (x : Bool) → goal.F-post g l.fn.test level x → x ≡ holds level.0)
    → highest levels holds ≡ highest l.level holds
