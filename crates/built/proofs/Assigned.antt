-- One CPU is entered: the spans of the domains over it grow by it, and no other span changes.
use Prim.Native.Nat.{ℕ, zero, suc, ◌+◌, ◌<◌, ◌≤◌}
use mathlib.Core.Bool.{false}
use mathlib.Core.List.{List}
use mathlib.Core.Path.{◌≡◌, refl, sym, ap, ◌∙◌}
use native.Mathlib.Omega.{arith}
use borrow.Author.Tests.{eqb-true, eqb-false}
use lib.Dec.{eqb}
use lib.ListN.{length, get_or, length-set}
use lib.Seq.{get_or-set_same, get_or-set_other}
use Rattle.basics.proofs.Tests.{by}
use Rattle.model.specs.Assign.{SpanRows, span_in, entered_of, assigned_of}
use Rattle.model.specs.Limits.{domain_limit}
use Rattle.model.specs.Span.{grown_of}
use Rattle.model.specs.Table.{domain_row_of}
use Rattle.model.specs.Topology.{domains_of, topb, parent_of, cpus_of, over_of, level_of}
use Rattle.model.specs.Tree.{parent_byte_of}
use Rattle.model.specs.declared.node.Span.{Span}
use Rattle.topology_laws.proofs.Accepted.{Accepted}
use Rattle.topology_laws.proofs.Paths.{over_next, over_domain, over_level, path_under}
use Rattle.model.proofs.Tables.{table_at}
use Rattle.model.proofs.Spans.{span_is}

-- the row of the parents' bytes
abbrev pub parent_row_of : List ℕ → ℕ → List ℕ
parent_row_of t max = domain_row_of (parent_byte_of t) (domains_of t max)

-- both rows have so many places
pub record Long (slots : ℕ) (r : SpanRows) : Type 0 where
  pub starts : length r.starts ≡ slots
  pub ends : length r.ends ≡ slots

module _ (cpu : ℕ) where
  -- a CPU is entered into one span alone
  entered_other : (k d : ℕ) (r : SpanRows) → (k ≡ d → ⊥) → span_in (entered_of d cpu r) k ≡ span_in r k
  entered_other k d r n =
      span_is (span_in (entered_of d cpu r) k) (span_in r k)
      (get_or-set_other r.starts d k (grown_of (span_in r d) cpu).start 0 n)
      (get_or-set_other r.ends d k (grown_of (span_in r d) cpu).end 0 n)

  entered_here : (slots k : ℕ) (r : SpanRows) → Long slots r → k < slots → span_in (entered_of k cpu r) k ≡ grown_of (span_in r k) cpu
  entered_here slots k r l h =
      span_is (span_in (entered_of k cpu r) k) (grown_of (span_in r k) cpu)
      (get_or-set_same r.starts k (grown_of (span_in r k) cpu).start 0 (omega (arith, l.starts)))
      (get_or-set_same r.ends k (grown_of (span_in r k) cpu).end 0 (omega (arith, l.ends)))

  -- the rows stay as long as they were
  entered_long : (slots d : ℕ) (r : SpanRows) → Long slots r → Long slots (entered_of d cpu r)
  entered_long slots d r l = record {
    starts = length-set r.starts d (grown_of (span_in r d) cpu).start ∙ l.starts;
    ends = length-set r.ends d (grown_of (span_in r d) cpu).end ∙ l.ends;
  }

  pub assigned_long : (slots left : ℕ) (parents : List ℕ) (d : ℕ) (r : SpanRows) → Long slots r →
      Long slots (assigned_of left parents d cpu r)
  unfolding assigned_of
  assigned_long slots zero parents d r l = l
  assigned_long slots (suc left) parents d r l =
      assigned_long slots left parents (get_or parents d 0) (entered_of d cpu r) (entered_long slots d r l)

module _ {t : List ℕ} {max primary : ℕ} (a : Accepted t max primary) where
  -- the stored parent of a domain that is no top domain
  pub parent_stored : (d : ℕ) → d < domains_of t max → topb t d ≡ false → get_or (parent_row_of t max) d 0 ≡ parent_of t d
  parent_stored d h n = table_at domain_limit 0 (parent_byte_of t) (domains_of t max) d 0 h (omega (arith, a.few)) ∙ rw n

  module _ (cpu : ℕ) (is_cpu : cpu < cpus_of t max) where
    -- the way up goes from the domain of a level to that of the next
    next : (left l : ℕ) (r : SpanRows) → 1 ≤ l → l + suc left ≡ suc max →
        assigned_of left (parent_row_of t max) (get_or (parent_row_of t max) (over_of t max l cpu) 0) cpu r
        ≡ assigned_of left (parent_row_of t max) (over_of t max (suc l) cpu) cpu r
    unfolding assigned_of
    next zero l r low e = refl
    next (suc left) l r low e =
        let d = over_of t max l cpu in
        ap (λ (x : ℕ). assigned_of (suc left) (parent_row_of t max) x cpu r)
        (parent_stored d (over_domain a l cpu low (omega arith) is_cpu) (path_under a l cpu low (omega arith) is_cpu)
        ∙ sym (over_next t max l cpu))

    module _ (k : ℕ) where
      -- a domain that is not over the CPU keeps its span
      pub assigned_off : (left l : ℕ) (r : SpanRows) → 1 ≤ l → l + left ≡ suc max →
          ((j : ℕ) → l ≤ j → j ≤ max → over_of t max j cpu ≡ k → ⊥) →
          span_in (assigned_of left (parent_row_of t max) (over_of t max l cpu) cpu r) k ≡ span_in r k
      unfolding assigned_of
      assigned_off zero l r low e off = refl
      assigned_off (suc left) l r low e off =
          let d = over_of t max l cpu in
          ap (λ (x : SpanRows). span_in x k) (next left l (entered_of d cpu r) low e)
          ∙ assigned_off left (suc l) (entered_of d cpu r) (omega arith) (omega arith) (λ j h i. off j (omega arith) i)
          ∙ entered_other cpu k d r (λ z. off l (omega arith) (omega arith) (sym z))

      -- the span of one that is over it grows by it
      pub assigned_on : (slots left l j : ℕ) (r : SpanRows) → 1 ≤ l → l + left ≡ suc max → l ≤ j → j ≤ max →
          over_of t max j cpu ≡ k → Long slots r → k < slots →
          span_in (assigned_of left (parent_row_of t max) (over_of t max l cpu) cpu r) k ≡ grown_of (span_in r k) cpu
      unfolding assigned_of
      assigned_on slots zero l j r low e from to is long w = absurd (omega arith)
      assigned_on slots (suc left) l j r low e from to is long w =
          let d = over_of t max l cpu in
          let s = entered_of d cpu r in
          let level : level_of t max k ≡ j = ap (level_of t max) (sym is) ∙ over_level a j cpu (omega arith) to is_cpu in
          ap (λ (x : SpanRows). span_in x k) (next left l s low e)
          ∙ by (eqb l j)
          (λ q. let z = eqb-true l j q in
          let here : d ≡ k = ap (λ (x : ℕ). over_of t max x cpu) z ∙ is in
          assigned_off left (suc l) s (omega arith) (omega arith)
          (λ i h u v. omega (arith, h, z, level, ap (level_of t max) v, over_level a i cpu (omega arith) u is_cpu))
          ∙ ap (λ (x : ℕ). span_in (entered_of x cpu r) k) here
          ∙ entered_here cpu slots k r long w)
          (λ q. let z = eqb-false l j q in
          let other : k ≡ d → ⊥ =
          λ v. z (omega (arith, level, ap (level_of t max) v, over_level a l cpu low (omega arith) is_cpu)) in
          assigned_on slots left (suc l) j s (omega arith) (omega arith) (omega (arith, z)) to is (entered_long cpu slots d r long) w
          ∙ ap (λ (x : Span). grown_of x cpu) (entered_other cpu k d r other))
