-- A domain's CPU span holds exactly the CPUs under it.
use Prim.Native.Nat.{ℕ, suc, ◌+◌, ◌-◌, ◌<◌, ◌≤◌}
use mathlib.Core.Bool.{true}
use mathlib.Core.List.{List}
use mathlib.Core.Path.{◌≡◌, sym, ap, ◌∙◌}
use native.Mathlib.Omega.{arith}
use Rattle.basics.proofs.Tests.{below_or}
use Rattle.model.specs.Span.{in_spanb}
use Rattle.model.specs.Topology.{total_of, down_of, domains_of, cpus_of, cpu_node_of, over_of, level_of}
use Rattle.model.specs.Tree.{cpu_span_of}
use Rattle.model.proofs.Spans.{in_span, span_in_lem}
use Rattle.topology_laws.proofs.Accepted.{Accepted}
use Rattle.topology_laws.proofs.Levels.{down_mono, down_down, down_inside, down_filled}
use Rattle.topology_laws.proofs.Paths.{levelled, cpu_place}
use Rattle.topology_laws.proofs.Places.{before_ancestor, ancestor_before}

module _ {t : List ℕ} {max primary : ℕ} (a : Accepted t max primary) where
  -- where k is the domain of a level over CPU c, c is one of the nodes so many levels below k, and the other way
  over_down : (l k c : ℕ) → l ≤ max → c < cpus_of t max → over_of t max l c ≡ k →
      (down_of t l k ≤ cpu_node_of t max c) × (cpu_node_of t max c < down_of t l (suc k))
  over_down l k c h i e =
      let n = cpu_node_of t max c in
      let p = cpu_place a c i in (
        below_or n (down_of t l k) (λ u. absurd (omega (arith, before_ancestor t l max n k h p u, e))) (λ u. u),
        ancestor_before t l max n (suc k) h p (omega (arith, e)),
      )

  down_over : (l k c : ℕ) → l ≤ max → c < cpus_of t max → down_of t l k ≤ cpu_node_of t max c →
      cpu_node_of t max c < down_of t l (suc k) → over_of t max l c ≡ k
  down_over l k c h i u v =
      let n = cpu_node_of t max c in
      let p = cpu_place a c i in
      let up = before_ancestor t l max n (suc k) h p v in
      below_or (over_of t max l c) k (λ e. omega (arith, ancestor_before t l max n k h p e)) (λ e. omega arith)

  module _ (k : ℕ) (is : k < domains_of t max) where
    -- each CPU of a domain's span has that domain over it at the domain's level
    pub span_over : (c : ℕ) → c < cpus_of t max → in_spanb (cpu_span_of t max k) c ≡ true → over_of t max (level_of t max k) c ≡ k
    span_over c i h =
        let s = span_in_lem (cpu_span_of t max k) c h in
        down_over (level_of t max k) k c (levelled a k is).high i (omega (arith, s.0)) (omega (arith, s.1))

    -- and each CPU that has it over it there is one of the span
    pub over_span : (c : ℕ) → c < cpus_of t max → over_of t max (level_of t max k) c ≡ k → in_spanb (cpu_span_of t max k) c ≡ true
    over_span c i e =
        let s = over_down (level_of t max k) k c (levelled a k is).high i e in
        in_span (cpu_span_of t max k) c (omega (arith, s.0)) (omega (arith, s.1))

    -- the nodes below it, as many levels as its own, are CPUs
    starts : domains_of t max ≤ down_of t (level_of t max k) k
    starts =
        let l = levelled a k is in
        let z : level_of t max k + (max - level_of t max k) ≡ max = omega (arith, l.high) in
        omega (
          arith,
          down_mono t (level_of t max k) (domains_of t (max - level_of t max k)) k l.place.from,
          down_down t (level_of t max k) (max - level_of t max k) 0,
          ap (domains_of t) z,
        )

    -- a span has a CPU, and ends at most where the CPUs do
    pub span_inside : ((cpu_span_of t max k).start < (cpu_span_of t max k).end) × ((cpu_span_of t max k).end ≤ cpus_of t max)
    span_inside =
        let l = levelled a k is in
        let n = level_of t max k - 1 in
        let z : level_of t max k ≡ suc n = omega (arith, l.low) in
        let some : down_of t (level_of t max k) k < down_of t (level_of t max k) (suc k) = rw z (
        down_filled t max a.long a.entries n k (suc (max - level_of t max k)) (omega (arith, l.low, l.high)) l.place.to) in
        let inside : down_of t (level_of t max k) (suc k) ≤ total_of t = rw z (down_inside t n (suc k)) in
        (omega (arith, starts, some), omega (arith, inside))

  -- the spans of two domains of one level have no CPU in common
  pub spans_apart : (j k : ℕ) → j < domains_of t max → k < domains_of t max → level_of t max j ≡ level_of t max k →
      (c : ℕ) → c < cpus_of t max → in_spanb (cpu_span_of t max j) c ≡ true → in_spanb (cpu_span_of t max k) c ≡ true → j ≡ k
  spans_apart j k hj hk e c i u v =
      sym (span_over j hj c i u) ∙ ap (λ (l : ℕ). over_of t max l c) e ∙ span_over k hk c i v
