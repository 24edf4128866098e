-- What coordinate makes of domains that are given by value.
use Rattle.std.specs.Prelude.{ℕ}
use Rattle.model.specs.declared.board.Tree.{Tree}
use Rattle.model.specs.declared.state.Domains.{Domains}
use Rattle.model.specs.declared.states.CompositeState.{CompositeState}
use Rattle.model.specs.Coordinate.{Coordinated, coordinated, coordinate_of, written_to}
use Rattle.coordinate.specs.declared.LoweredDomains.{LoweredDomains}

-- the domains with what coordinate wrote, and the states that it resolved
abbrev pub lowered_with : Domains → Coordinated → LoweredDomains
lowered_with d x = record { domains = written_to d x; resolved = x.resolved }

abbrev pub lowered_of : Tree → Domains → ℕ → ℕ → ℕ → ℕ → CompositeState → LoweredDomains
lowered_of t d off first cpu upto asked =
    lowered_with d (coordinate_of t off first cpu upto (coordinated d.states d.requests d.copies asked))
