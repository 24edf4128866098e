use Rattle.std.proofs.Common.{◌≡◌, ◌&&◌, not, get_or}
use Rattle.model.specs.Below.{every}
use Rattle.model.specs.Query.{besideb}
use Rattle.model.specs.Span.{from_to_withoutb}
use Rattle.rows.proofs.others.none_beside_without.Given as goal

-- no number that was walked fails
abbrev pub invariant-loop-i : goal.invariant-loop-i
invariant-loop-i l =
    l.none ≡ every l.i (λ j. not (from_to_withoutb l.start l.end l.one j && besideb (get_or l.requests j 0) (get_or l.suspends j 0)))
