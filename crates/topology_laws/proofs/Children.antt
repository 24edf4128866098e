-- A domain's child span holds exactly the domains whose parent it is.
use Prim.Native.Nat.{ℕ, suc, ◌-◌, ◌<◌, ◌≤◌}
use mathlib.Core.Bool.{true, false}
use mathlib.Core.List.{List}
use mathlib.Core.Path.{◌≡◌, ap}
use native.Mathlib.Omega.{arith}
use borrow.Author.Tests.{eq-eqb, ne_eqb, eqb-true, eqb-false}
use lib.Dec.{eqb}
use Rattle.basics.proofs.Tests.{by}
use Rattle.model.proofs.Spans.{in_span, span_in_lem}
use Rattle.model.specs.Span.{empty_span, in_spanb}
use Rattle.model.specs.Topology.{total_of, start_of, down_of, domains_of, topb, parent_of, level_of}
use Rattle.model.specs.Tree.{child_span_of}
use Rattle.model.specs.declared.node.Span.{Span}
use Rattle.topology_laws.proofs.Accepted.{Accepted}
use Rattle.topology_laws.proofs.Levels.{start_mono, level_mono}
use Rattle.topology_laws.proofs.Parents.{under_top, no_top, before_parent, parent_before, from_parent, parent_from}
use Rattle.topology_laws.proofs.Paths.{levelled, has_level, level_parent}

-- a level-1 domain has no domain below it
pub children_none : (t : List ℕ) (max k : ℕ) → level_of t max k ≡ 1 → child_span_of t max k ≡ empty_span
children_none t max k e = simp (eq-eqb (level_of t max k) 1 e)

-- another domain's children are domains
pub children_some : (t : List ℕ) (max k : ℕ) → (level_of t max k ≡ 1 → ⊥) →
    child_span_of t max k ≡ record { start = start_of t k; end = start_of t (suc k) }
children_some t max k n = simp (ne_eqb (level_of t max k) 1 n)

module _ {t : List ℕ} {max primary : ℕ} (a : Accepted t max primary) where
  -- each domain of a child span has as parent the domain whose span it is
  pub child_parent : (j k : ℕ) → j < domains_of t max → in_spanb (child_span_of t max k) j ≡ true →
      (topb t j ≡ false) × (parent_of t j ≡ k)
  child_parent j k is h =
      let s = span_in_lem (child_span_of t max k) j h in
      by (eqb (level_of t max k) 1)
      (λ e. absurd (omega (arith, s.1, ap (λ (x : Span). x.end) (children_none t max k (eqb-true _ _ e)))))
      (λ e. let span = children_some t max k (eqb-false _ _ e) in
      let low : start_of t k ≤ j = omega (arith, s.0, ap (λ (x : Span). x.start) span) in
      let high : j < start_of t (suc k) = omega (arith, s.1, ap (λ (x : Span). x.end) span) in
      let top : start_of t 0 ≤ j = omega (arith, start_mono t 0 k (omega arith)) in
      let inside : j < total_of t = omega (arith, a.exists) in
      (no_top t j top inside, omega (arith, from_parent t j top inside k low, before_parent t j top inside (suc k) high)))

  -- and each domain whose parent is k is one of k's child span
  pub parent_child : (j k : ℕ) → j < domains_of t max → topb t j ≡ false → parent_of t j ≡ k →
      in_spanb (child_span_of t max k) j ≡ true
  parent_child j k is under e =
      let top = under_top t j under in
      let inside : j < total_of t = omega (arith, a.exists) in
      let up = level_parent a j is under in
      let below = has_level a j is in
      let span = children_some t max k (λ z. omega (arith, z, up, below.0, ap (level_of t max) e)) in
      in_span (child_span_of t max k) j
      (omega (arith, ap (λ (x : Span). x.start) span, parent_from t j top inside k (omega (arith, e))))
      (omega (arith, ap (λ (x : Span). x.end) span, parent_before t j top inside (suc k) (omega (arith, e))))

  -- a child span ends at most where the domains do
  pub children_inside : (k : ℕ) → k < domains_of t max → (child_span_of t max k).end ≤ domains_of t max
  unfolding down_of
  children_inside k is =
      by (eqb (level_of t max k) 1)
      (λ e. omega (arith, ap (λ (x : Span). x.end) (children_none t max k (eqb-true _ _ e))))
      (λ e. let n = eqb-false (level_of t max k) 1 e in
      let l = levelled a k is in
      let above = max - level_of t max k in
      omega (
        arith,
        ap (λ (x : Span). x.end) (children_some t max k n),
        start_mono t (suc k) (domains_of t (suc above)) (omega (arith, l.place.to)),
        level_mono t (suc (suc above)) max (omega (arith, n, l.low, l.high)),
      ))
