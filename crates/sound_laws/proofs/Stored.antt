-- What a tree that fits its topology says: the stored paths and levels are the topology's.
use Prim.Native.Nat.{ℕ, zero, suc, ◌-◌, ◌<◌, ◌≤◌}
use mathlib.Core.Bool.{true, false}
use mathlib.Core.List.{List}
use mathlib.Core.Path.{◌≡◌, refl, sym, ap, ◌∙◌}
use native.Mathlib.Omega.{arith}
use borrow.Author.Tests.{eq-eqb, ne_eqb}
use Rattle.basics.proofs.Tests.{by}
use Rattle.model.proofs.Spans.{span_in_lem, span_is}
use Rattle.model.specs.declared.node.Span.{Span}
use Rattle.model.specs.declared.state.State.{State}
use Rattle.model.specs.Limits.{domain_limit, cpu_limit}
use Rattle.model.specs.Path.{above_of, level_at}
use Rattle.model.specs.Sound.{Fits}
use Rattle.model.specs.Span.{in_spanb}
use Rattle.model.specs.State.{max_at, domain_count_of, cpu_count_of, topology_at, cpu_at}
use Rattle.model.specs.Topology.{domains_of, cpus_of, topb, parent_of, ancestor_of, level_of, cpu_node_of, over_of}
use Rattle.model.specs.Tree.{no_parent, parent_byte_of, cpu_span_of, tree_of, cpu_parents_of, parent_at, cpu_span_at}
use Rattle.topology_laws.proofs.Accepted.{Accepted}
use Rattle.topology_laws.proofs.Paths.{over_next, has_level, over_domain, over_level, path_under, parent_below}
use Rattle.topology_laws.proofs.Spans.{span_over, over_span, span_inside}
use Rattle.model.proofs.Tables.{table_at}
use Rattle.sound_laws.proofs.Reflect.{board_accepted}

module _ (s : State) (fits : Fits s) where
  abbrev t : List ℕ
  t = topology_at s

  abbrev max : ℕ
  max = max_at s

  a : Accepted t max s.board.primary.0
  a = board_accepted s fits.accepted

  module _ (k : ℕ) (is : k < domain_count_of s) where
    domain : k < domains_of t max
    domain = omega (arith, fits.domain_count)

    limit : k < domain_limit
    limit = omega (arith, domain, a.few)

    -- the stored parent of a domain
    pub stored_parent : parent_at s.tree k ≡ parent_byte_of t k
    unfolding tree_of
    stored_parent = (fits.domains k limit).parent ∙ table_at domain_limit 0 (parent_byte_of t) (domains_of t max) k 0 domain limit

    -- the stored span of its CPUs
    pub stored_span : cpu_span_at s.tree k ≡ cpu_span_of t max k
    unfolding tree_of
    stored_span =
        (fits.domains k limit).cpus
        ∙ span_is (cpu_span_at (tree_of t max) k) (cpu_span_of t max k)
        (table_at domain_limit 0 (λ (j : ℕ). (cpu_span_of t max j).start) (domains_of t max) k 0 domain limit)
        (table_at domain_limit 0 (λ (j : ℕ). (cpu_span_of t max j).end) (domains_of t max) k 0 domain limit)

  -- the stored parent of a CPU
  pub stored_cpu_parent : (c : ℕ) → c < cpu_count_of s → (cpu_at s c).parent.0 ≡ over_of t max 1 c
  unfolding cpu_parents_of ancestor_of
  stored_cpu_parent c h =
      fits.cpu_parents c h
      ∙ table_at cpu_limit 0 (λ (i : ℕ). parent_of t (cpu_node_of t max i)) (cpus_of t max) c 0
      (omega (arith, fits.cpu_count)) (omega (arith, fits.cpu_count, a.fit))

  -- below the top the stored parent is the parent
  stored_under : (k : ℕ) → k < domain_count_of s → topb t k ≡ false → parent_at s.tree k ≡ parent_of t k
  stored_under k is e = stored_parent k is ∙ simp e

  -- the stored path of a CPU is made of the domains over it
  pub stored_path : (c n : ℕ) → c < cpu_count_of s → n < max → above_of s.tree.parents (cpu_at s c).parent.0 n ≡ over_of t max (suc n) c
  unfolding above_of
  stored_path c zero h b = stored_cpu_parent c h
  stored_path c (suc n) h b =
      let cpu : c < cpus_of t max = omega (arith, fits.cpu_count) in
      ap (parent_at s.tree) (stored_path c n h (omega arith))
      ∙ stored_under (over_of t max (suc n) c) (omega (arith, over_domain a (suc n) c (omega arith) (omega arith) cpu, fits.domain_count))
      (path_under a (suc n) c (omega arith) b cpu)
      ∙ sym (over_next t max (suc n) c)

  -- the stored level of a domain is its level
  level_by : (m k : ℕ) → k < domain_count_of s → level_at s.tree.parents m k ≡ level_of t m k
  unfolding level_at level_of
  level_by zero k is = refl
  level_by (suc m) k is =
      by (topb t k)
      (λ e. let z : parent_at s.tree k ≡ no_parent = stored_parent k is ∙ simp e in simp (eq-eqb _ _ z, e))
      (λ e.
      let z = stored_under k is e in
      let b = parent_below a k (domain k is) e in
      let n : parent_at s.tree k ≡ no_parent → ⊥ = λ y. omega (arith, y, z, b, limit k is) in
      simp (ne_eqb _ _ n, e) (ap (level_at s.tree.parents m) z ∙ level_by m (parent_of t k) (omega (arith, b))))

  pub stored_level : (k : ℕ) → k < domain_count_of s → level_at s.tree.parents max k ≡ level_of t max k
  stored_level = level_by max

  -- it is at least 1
  pub stored_level_low : (k : ℕ) → k < domain_count_of s → 1 ≤ level_at s.tree.parents max k
  stored_level_low k is = omega (arith, (has_level a k (domain k is)).0, stored_level k is)

  -- and at most MAX
  pub stored_level_high : (k : ℕ) → k < domain_count_of s → level_at s.tree.parents max k ≤ max
  stored_level_high k is = omega (arith, (has_level a k (domain k is)).1, stored_level k is)

  -- a stored span holds CPUs alone
  pub span_cpus : (k i : ℕ) → k < domain_count_of s → in_spanb (cpu_span_at s.tree k) i ≡ true → i < cpu_count_of s
  span_cpus k i is e =
      let b = (span_in_lem (cpu_span_of t max k) i (ap (λ (x : Span). in_spanb x i) (sym (stored_span k is)) ∙ e)).1 in
      omega (arith, b, (span_inside a k (domain k is)).1, fits.cpu_count)

  -- the stored path of a CPU in words: each of its domains is one, has that level, and has the CPU in its span
  pub record OnPath (c n k : ℕ) : Type 0 where
    pub domain : k < domain_count_of s
    pub level : level_at s.tree.parents max k ≡ suc n
    pub spans : in_spanb (cpu_span_at s.tree k) c ≡ true

  over_on_path : (c n k : ℕ) → c < cpus_of t max → n < max → k ≡ over_of t max (suc n) c → OnPath c n k
  over_on_path c n k h b e =
      let over = over_domain a (suc n) c (omega arith) (omega arith) h in
      let level = ap (level_of t max) e ∙ over_level a (suc n) c (omega arith) (omega arith) h in
      let is : k < domain_count_of s = omega (arith, e, over, fits.domain_count) in
      record {
        domain = is;
        level = stored_level k is ∙ level;
        spans = ap (λ (x : Span). in_spanb x c) (stored_span k is)
            ∙ over_span a k (domain k is) c h (ap (λ (l : ℕ). over_of t max l c) level ∙ sym e);
      }

  pub on_path : (c n : ℕ) → c < cpu_count_of s → n < max → OnPath c n (above_of s.tree.parents (cpu_at s c).parent.0 n)
  on_path c n h b =
      over_on_path c n (above_of s.tree.parents (cpu_at s c).parent.0 n) (omega (arith, fits.cpu_count)) b (stored_path c n h b)

  -- and a domain with the CPU in its span is on the CPU's path, at its level
  pub span_path : (c k : ℕ) → c < cpu_count_of s → k < domain_count_of s → in_spanb (cpu_span_at s.tree k) c ≡ true →
      (n : ℕ) × (n < max) × (k ≡ above_of s.tree.parents (cpu_at s c).parent.0 n)
  span_path c k h is e =
      let l = level_of t max k in
      let in-levels = has_level a k (domain k is) in
      let low : 1 ≤ level_of t max k = in-levels.0 in
      let high : level_of t max k ≤ max = in-levels.1 in
      let z : suc (level_of t max k - 1) ≡ level_of t max k = omega arith in
      let over = span_over a k (domain k is) c (omega (arith, fits.cpu_count)) (ap (λ (x : Span). in_spanb x c) (sym (stored_span k is)) ∙ e) in
      (l - 1, omega arith, sym (stored_path c (l - 1) h (omega arith) ∙ ap (λ (n : ℕ). over_of t max n c) z ∙ over))

  -- the domain of a path that is below the top has a parent
  pub path_not_top : (c n : ℕ) → c < cpu_count_of s → suc n < max →
      parent_at s.tree (above_of s.tree.parents (cpu_at s c).parent.0 n) ≡ no_parent → ⊥
  unfolding level_at
  path_not_top c n h b e =
      omega (arith, (on_path c n h (omega arith)).level, top_level max (above_of s.tree.parents (cpu_at s c).parent.0 n) (omega arith) e)
    where
      top_level : (m k : ℕ) → 1 ≤ m → parent_at s.tree k ≡ no_parent → level_at s.tree.parents m k ≡ m
      top_level zero k g z = absurd (omega arith)
      top_level (suc m) k g z = simp (eq-eqb _ _ z)

  -- what is under a domain of a path is under the next one too
  pub span_nested : (c n i : ℕ) → c < cpu_count_of s → suc n < max →
      in_spanb (cpu_span_at s.tree (above_of s.tree.parents (cpu_at s c).parent.0 n)) i ≡ true →
      in_spanb (cpu_span_at s.tree (above_of s.tree.parents (cpu_at s c).parent.0 (suc n))) i ≡ true
  unfolding above_of
  span_nested c n i h b e =
      let parents = s.tree.parents in
      let k = above_of parents (cpu_at s c).parent.0 n in
      let o = on_path c n h (omega arith) in
      let is = span_cpus k i o.domain e in
      let q = span_path i k is o.domain e in
      let z : q.0 ≡ n = omega (arith, sym o.level ∙ ap (level_at parents max) q.2 ∙ (on_path i q.0 is q.1).level) in
      let same : above_of parents (cpu_at s i).parent.0 n ≡ k = ap (above_of parents (cpu_at s i).parent.0) (sym z) ∙ sym q.2 in
      ap (λ (j : ℕ). in_spanb (cpu_span_at s.tree (parent_at s.tree j)) i) (sym same) ∙ (on_path i (suc n) is b).spans
