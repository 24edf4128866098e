-- The promises that gather an outcome in a record, or promise one: of coordinate_state, of set_running, and of the lines of a text.
use Prim.Native.Nat.{ℕ, ◌+◌}
use mathlib.Core.List.{List}
use mathlib.Core.Path.{◌≡◌, refl}
use lib.ListN.{length}
use lib.Seq.{sets}
use Rattle.model.specs.declared.state.Domains.{Domains}
use Rattle.model.specs.declared.states.CompositeState.{CompositeState}
use Rattle.model.specs.Coordinate.{Coordinated, coordinated}
use Rattle.paths.specs.Rows.{domain_rows}
use Rattle.text.specs.Put.{Put}
use Rattle.tight.proofs.Outcome.{one_outcome, one_result_and_lent}

-- coordinate_state: three rows and the resolved states
pub one_coordinated : {I : Type 0} (d : I → Coordinated) (i : I) (a b : List ℕ × (List ℕ × (List ℕ × CompositeState))) →
    coordinated a.0 a.1.0 a.1.1.0 a.1.1.1 ≡ d i → coordinated b.0 b.1.0 b.1.1.0 b.1.1.1 ≡ d i → a ≡ b
one_coordinated = one_outcome (λ a. coordinated a.0 a.1.0 a.1.1.0 a.1.1.1)
    (λ x. (x.states, (x.requests, (x.copies, x.resolved)))) (λ x. refl)

-- set_running: four rows
pub one_domain_rows : {I : Type 0} (d : I → Domains) (i : I) (a b : List ℕ × (List ℕ × (List ℕ × List ℕ))) →
    domain_rows a.0 a.1.0 a.1.1.0 a.1.1.1 ≡ d i → domain_rows b.0 b.1.0 b.1.1.0 b.1.1.1 ≡ d i → a ≡ b
one_domain_rows = one_outcome (λ a. domain_rows a.0 a.1.0 a.1.1.0 a.1.1.1)
    (λ x. (x.states, (x.requests, (x.suspends, x.copies)))) (λ x. refl)

-- a line: the text and its end
pub one_put : (before : List ℕ) (place : ℕ) (bytes : List ℕ) (a b : ℕ × List ℕ) →
    Put before place bytes a.1 a.0 → Put before place bytes b.1 b.0 → a ≡ b
one_put before place bytes a b p q =
    one_result_and_lent (λ (_ : ℕ). place + length bytes) (λ _. sets before place bytes) 0 a b
    (p.next, p.text) (q.next, q.text)
