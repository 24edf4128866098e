-- Every CPU is entered: the rows hold the spans that the topology describes.
use Prim.Native.Nat.{ℕ, zero, suc, ◌<◌, ◌≤◌}
use mathlib.Core.Bool.{true≢false}
use mathlib.Core.List.{List}
use mathlib.Core.Path.{◌≡◌, sym, ap, ◌∙◌}
use native.Mathlib.Omega.{arith}
use lib.ListN.{replicate, length-replicate, get_or-replicate}
use lib.Seq.{ext_get_or}
use Rattle.basics.proofs.Tests.{by, below_or}
use Rattle.model.proofs.Spans.{span_is, in_span, span_in_lem}
use Rattle.model.specs.Assign.{SpanRows, span_rows, span_in, all_assigned_of}
use Rattle.model.specs.Limits.{domain_limit}
use Rattle.model.specs.Span.{empty_span, grown_of, in_spanb}
use Rattle.model.specs.Table.{domain_row_of}
use Rattle.model.specs.Topology.{ancestor_of, domains_of, parent_of, cpus_of, cpu_node_of, over_of, level_of}
use Rattle.model.specs.Tree.{parent_byte_of, cpu_span_of, tree_of, cpu_span_at}
use Rattle.model.specs.declared.node.Span.{Span}
use Rattle.topology_laws.proofs.Accepted.{Accepted}
use Rattle.topology_laws.proofs.Paths.{has_level, over_domain, over_level}
use Rattle.topology_laws.proofs.Spans.{span_over, over_span, span_inside}
use Rattle.model.proofs.Tables.{length_table, table_at, table_past}
use Rattle.built.proofs.Assigned.{parent_row_of, Long, assigned_long, assigned_off, assigned_on}
use Rattle.built.proofs.Part.{Part, part_same, part_grown}

-- rows with the same spans are the same
rows_are : (slots : ℕ) (r s : SpanRows) → Long slots r → Long slots s → ((k : ℕ) → k < slots → span_in r k ≡ span_in s k) → r ≡ s
rows_are slots r s l m e =
    let starts = ext_get_or 0 r.starts s.starts (l.starts ∙ sym m.starts)
    (λ k h. ap (λ (x : Span). x.start) (e k (omega (arith, l.starts)))) in
    let ends = ext_get_or 0 r.ends s.ends (l.ends ∙ sym m.ends) (λ k h. ap (λ (x : Span). x.end) (e k (omega (arith, l.ends)))) in
    ap (λ (x : List ℕ). span_rows x r.ends) starts ∙ ap (λ (y : List ℕ). span_rows s.starts y) ends

-- no spans
abbrev pub no_spans : SpanRows
no_spans = span_rows (replicate domain_limit 0) (replicate domain_limit 0)

module _ {t : List ℕ} {max primary : ℕ} (a : Accepted t max primary) where
  -- the rows after the first n CPUs
  abbrev after : ℕ → SpanRows
  after n = all_assigned_of t max (parent_row_of t max) n no_spans

  -- before any CPU every span is empty
  no_span : (k : ℕ) → k < domain_limit → span_in no_spans k ≡ empty_span
  no_span k h =
      let z = get_or-replicate {A = ℕ} domain_limit k 0 0 h in span_is (span_in no_spans k) empty_span z z

  -- the rows stay as long as the tree's
  after_long : (n : ℕ) → Long domain_limit (after n)
  unfolding all_assigned_of
  after_long zero = let z = length-replicate {A = ℕ} domain_limit 0 in record { starts = z; ends = z }
  after_long (suc n) =
      assigned_long n domain_limit max (parent_row_of t max) (parent_of t (cpu_node_of t max n)) (after n) (after_long n)

  -- a domain that is not over the next CPU keeps its span
  after_off : (k n : ℕ) → n < cpus_of t max → ((j : ℕ) → 1 ≤ j → j ≤ max → over_of t max j n ≡ k → ⊥) →
      span_in (after (suc n)) k ≡ span_in (after n) k
  unfolding all_assigned_of ancestor_of
  after_off k n h off = assigned_off a n h k max 1 (after n) (omega arith) (omega arith) off

  -- the span of one that is over it grows
  after_on : (k n j : ℕ) → k < domain_limit → n < cpus_of t max → 1 ≤ j → j ≤ max → over_of t max j n ≡ k →
      span_in (after (suc n)) k ≡ grown_of (span_in (after n) k) n
  unfolding all_assigned_of ancestor_of
  after_on k n j w h low high e =
      assigned_on a n h k domain_limit max 1 j (after n) (omega arith) (omega arith) low high e (after_long n) w

  -- past the domains there are none
  after_past : (k n : ℕ) → domains_of t max ≤ k → k < domain_limit → n ≤ cpus_of t max → span_in (after n) k ≡ empty_span
  unfolding all_assigned_of
  after_past k zero past w h = no_span k w
  after_past k (suc n) past w h =
      after_off k n h (λ j low high e. omega (arith, past, e, over_domain a j n low high h))
      ∙ after_past k n past w (omega arith)

  -- each domain has the part of its span that the CPUs so far make up
  after_part : (k : ℕ) → k < domains_of t max → (n : ℕ) → n ≤ cpus_of t max → Part n (cpu_span_of t max k) (span_in (after n) k)
  unfolding all_assigned_of
  after_part k is zero h =
      let some = span_inside a k is in
      record {
        before = λ b. no_span k (omega (arith, a.few));
        within = λ b c. absurd (omega arith);
        past = λ b. absurd (omega (arith, some.0));
      }
  after_part k is (suc n) h =
      let s = cpu_span_of t max k in
      let p = after_part k is n (omega arith) in
      let some = (span_inside a k is).0 in
      let level = has_level a k is in
      by (in_spanb s n)
      (λ e. let i = span_in_lem s n e in
      let on = after_on k n (level_of t max k) (omega (arith, a.few)) h level.0 level.1 (span_over a k is n h e) in
      rw on (part_grown n s (span_in (after n) k) p some i.0 i.1))
      (λ e. let off = after_off k n h (λ j low high o.
      let z : level_of t max k ≡ j = ap (level_of t max) (sym o) ∙ over_level a j n low high h in
      true≢false (sym (over_span a k is n h (ap (λ (l : ℕ). over_of t max l n) z ∙ o)) ∙ e)) in
      rw off (part_same n s (span_in (after n) k) p some (λ b c. true≢false (sym (in_span s n b c) ∙ e))))

  -- once every CPU is entered, each place of the rows holds what the tree's rows hold there
  after_all : (k : ℕ) → k < domain_limit → span_in (after (cpus_of t max)) k ≡ cpu_span_at (tree_of t max) k
  unfolding tree_of
  after_all k w =
      let d = domains_of t max in
      let first : ℕ → ℕ = λ j. (cpu_span_of t max j).start in
      let last : ℕ → ℕ = λ j. (cpu_span_of t max j).end in
      below_or k d
      (λ is. (after_part k is (cpus_of t max) (omega arith)).past (span_inside a k is).1
      ∙ sym (span_is (cpu_span_at (tree_of t max) k) (cpu_span_of t max k)
      (table_at domain_limit 0 first d k 0 is w) (table_at domain_limit 0 last d k 0 is w)))
      (λ past. after_past k (cpus_of t max) past w (omega arith)
      ∙ sym (span_is (cpu_span_at (tree_of t max) k) empty_span
      (table_past domain_limit 0 first d k 0 past w) (table_past domain_limit 0 last d k 0 past w)))

  -- and those are as long as there may be domains
  tree_long : Long domain_limit (span_rows (tree_of t max).cpu_starts (tree_of t max).cpu_ends)
  unfolding tree_of
  tree_long = record {
    starts = length_table domain_limit 0 (λ k. (cpu_span_of t max k).start) (domains_of t max);
    ends = length_table domain_limit 0 (λ k. (cpu_span_of t max k).end) (domains_of t max);
  }

  -- entering every CPU builds exactly the described spans
  pub spans_built : all_assigned_of t max (domain_row_of (parent_byte_of t) (domains_of t max)) (cpus_of t max)
      (span_rows (replicate domain_limit 0) (replicate domain_limit 0))
      ≡ span_rows (tree_of t max).cpu_starts (tree_of t max).cpu_ends
  spans_built =
      rows_are domain_limit (after (cpus_of t max)) (span_rows (tree_of t max).cpu_starts (tree_of t max).cpu_ends)
      (after_long (cpus_of t max)) tree_long after_all
