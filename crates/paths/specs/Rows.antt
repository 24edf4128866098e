-- The rows of the domains, lent.
use Rattle.std.specs.Prelude.{ℕ, List, ◌≡◌}
use Rattle.model.specs.declared.state.Domains.{Domains}
use Rattle.paths.specs.declared.DomainRows.{DomainRows}

-- four lent rows as one record
abbrev pub domain_rows : List ℕ → List ℕ → List ℕ → List ℕ → Domains
domain_rows states requests suspends copies =
    record { states = states; requests = requests; suspends = suspends; copies = copies }

-- what the rows hold that are lent together
abbrev pub lent_domains : DomainRows → Domains
lent_domains r = domain_rows r.states.now r.requests.now r.suspends.now r.copies.now

-- the same rows are lent
abbrev pub SameRows : DomainRows → DomainRows → Type 0
SameRows r s =
    (s.states.ghost_name ≡ r.states.ghost_name)
    × (s.requests.ghost_name ≡ r.requests.ghost_name)
    × (s.suspends.ghost_name ≡ r.suspends.ghost_name)
    × (s.copies.ghost_name ≡ r.copies.ghost_name)
