-- docs/REFERENCE.md, 'Coordinate'.
use Rattle.std.specs.Prelude.{ℕ, zero, suc, ◌-◌, Bool, cond, ◌&&◌, List, leb, ltb, eqb, set}
use Rattle.model.specs.declared.board.Tree.{Tree}
use Rattle.model.specs.declared.state.Domains.{Domains}
use Rattle.model.specs.declared.states.CompositeState.{CompositeState}
use Rattle.model.specs.Composite.{state_at, set_state_at}
use Rattle.model.specs.Path.{on_path_of}
use Rattle.model.specs.Span.{span_minimum_of}
use Rattle.model.specs.States.{run}
use Rattle.model.specs.Table.{at_level, set_at_level}
use Rattle.model.specs.Tree.{cpu_span_at}

-- what coordinate writes: of the domains their states, the requests and the child copies; and the states asked for, which it
-- resolves one after the other
pub record Coordinated : Type 0 where
  pub states : List ℕ
  pub requests : List ℕ
  pub copies : List ℕ
  pub resolved : CompositeState

abbrev pub coordinated : List ℕ → List ℕ → List ℕ → CompositeState → Coordinated
coordinated states requests copies resolved =
    record { states = states; requests = requests; copies = copies; resolved = resolved }

-- the rows of the domains with what coordinate wrote; suspend states are not touched
abbrev pub written_to : Domains → Coordinated → Domains
written_to d x = record { states = x.states; requests = x.requests; suspends = d.suspends; copies = x.copies }

-- on the path of a CPU that starts at the domain `first`; the levels up to `upto` are touched
module _ (t : Tree) (off first cpu upto : ℕ) where
  -- the domain of a level on the path
  abbrev pub domain_of : ℕ → ℕ
  domain_of = on_path_of t.parents first

  -- a level below came out RUN, and then so did the next lower one; level 0, the CPU's own, does not count
  abbrev pub run_belowb : ℕ → Coordinated → Bool
  run_belowb level x = leb 2 level && eqb (state_at x.resolved (level - 1)) run

  -- the request is stored
  abbrev pub request_stored : ℕ → Coordinated → List ℕ
  request_stored level x = set_at_level x.requests level cpu (state_at x.resolved level)

  -- the minimum request under a domain of a level
  abbrev pub minimum_under : ℕ → ℕ → List ℕ → ℕ
  minimum_under level d requests = span_minimum_of (cpu_span_at t d) (at_level requests level) off

  -- until a level comes out RUN the resolved state is the minimum, above that it is RUN
  abbrev pub resolved_at : ℕ → Coordinated → ℕ
  resolved_at level x = cond (run_belowb level x) run (minimum_under level (domain_of level) (request_stored level x))

  -- a level: until one comes out RUN the domain takes the resolved state, above that its own is not written; the resolved state
  -- is copied to the next touched domain's child copy
  unfoldable pub level_coordinated_of : ℕ → Coordinated → Coordinated
  level_coordinated_of level x = record {
    states = cond (run_belowb level x) x.states (set x.states (domain_of level) (resolved_at level x));
    requests = request_stored level x;
    copies = cond (ltb level upto) (set x.copies (domain_of level) (resolved_at level x)) x.copies;
    resolved = set_state_at x.resolved level (resolved_at level x);
  }

  -- the first levels, one after the other
  unfoldable pub levels_coordinated_of : ℕ → Coordinated → Coordinated
  levels_coordinated_of zero x = x
  levels_coordinated_of (suc n) x = level_coordinated_of (suc n) (levels_coordinated_of n x)

  -- all touched levels
  abbrev pub coordinate_of : Coordinated → Coordinated
  coordinate_of = levels_coordinated_of upto
