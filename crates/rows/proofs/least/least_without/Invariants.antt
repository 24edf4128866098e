use Rattle.std.proofs.Common.{◌≡◌, ℕ}
use Rattle.model.specs.Minimum.{minimum_of}
use Rattle.model.specs.Span.{from_to_withoutb}
use Rattle.rows.proofs.least.least_without.Given as goal

-- m is the minimum of what was walked
abbrev pub invariant-loop-i : goal.invariant-loop-i
invariant-loop-i g l =
    (s : ℕ → ℕ) → ((i x : ℕ) → goal.F-post g l.state i x → x ≡ s i)
    → l.m ≡ minimum_of l.i (from_to_withoutb l.start l.end l.one) s l.off
