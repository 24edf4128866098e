-- The domains of an acceptable topology have levels, and over every CPU stands one of each.
use Prim.Native.Nat.{ℕ, zero, suc, ◌-◌, ◌<◌, ◌≤◌}
use mathlib.Core.Bool.{true, false, true≢false}
use mathlib.Core.List.{List}
use mathlib.Core.Path.{◌≡◌, sym, ◌∙◌}
use native.Mathlib.Omega.{arith}
use Rattle.model.specs.Topology.{domains_of, topb, parent_of, cpus_of, cpu_node_of, over_of, level_of}
use Rattle.topology_laws.proofs.Accepted.{Accepted}
use Rattle.topology_laws.proofs.Levels.{all_nodes, level_mono, level_of_lem}
use Rattle.topology_laws.proofs.Parents.{under_top, parent_less}
use Rattle.topology_laws.proofs.Places.{Place, place_top, place_under, place_parent, place_ancestor, place_level, ancestor_next}

-- the domain of the next level over a CPU is the parent
pub over_next : (t : List ℕ) (max l c : ℕ) → over_of t max (suc l) c ≡ parent_of t (over_of t max l c)
over_next t max l c = ancestor_next t l (cpu_node_of t max c)

-- a domain has one of the levels 1 to MAX, and stands where the domains of its level stand
pub record Levelled (t : List ℕ) (max k : ℕ) : Type 0 where
  pub low : 1 ≤ level_of t max k
  pub high : level_of t max k ≤ max
  pub place : Place t (max - level_of t max k) k

module _ {t : List ℕ} {max primary : ℕ} (a : Accepted t max primary) where
  -- every domain does
  pub levelled : (k : ℕ) → k < domains_of t max → Levelled t max k
  levelled k h =
      level_of_lem t max k h
      (λ above b from to.
      let p : Place t above k = record { from = from; to = to } in
      let e = place_level t max above k b p in
      let z : max - level_of t max k ≡ above = omega (arith, e) in
      record { low = omega (arith, e); high = omega (arith, e); place = rw z p })

  -- every domain has a level
  pub has_level : (k : ℕ) → k < domains_of t max → (1 ≤ level_of t max k) × (level_of t max k ≤ max)
  has_level k h = let l = levelled k h in (l.low, l.high)

  -- the domains of a level stand between those of the levels above it and those of the levels below
  pub level_place : (k : ℕ) → k < domains_of t max →
      (domains_of t (max - level_of t max k) ≤ k) × (k < domains_of t (suc (max - level_of t max k)))
  level_place k h = let p = (levelled k h).place in (p.from, p.to)

  -- a node that has a level stands among the domains
  place_domain : (above k : ℕ) → above < max → Place t above k → k < domains_of t max
  place_domain above k h p = omega (arith, p.to, level_mono t (suc above) max (omega arith))

  -- the CPUs have MAX levels above them
  pub cpu_place : (c : ℕ) → c < cpus_of t max → Place t max (cpu_node_of t max c)
  cpu_place c h = record { from = omega arith; to = omega (arith, all_nodes t max a.long) }

  -- the domain of a level over a CPU stands where the domains of that level stand
  pub over_place : (l c : ℕ) → l ≤ max → c < cpus_of t max → Place t (max - l) (over_of t max l c)
  over_place l c h k = place_ancestor t l max (cpu_node_of t max c) h (cpu_place c k)

  -- over every CPU stands a domain of each level
  pub over_domain : (l c : ℕ) → 1 ≤ l → l ≤ max → c < cpus_of t max → over_of t max l c < domains_of t max
  over_domain l c o h k = place_domain (max - l) (over_of t max l c) (omega arith) (over_place l c h k)

  -- and that is its level
  pub over_level : (l c : ℕ) → 1 ≤ l → l ≤ max → c < cpus_of t max → level_of t max (over_of t max l c) ≡ l
  over_level l c o h k =
      omega (arith, place_level t max (max - l) (over_of t max l c) (omega arith) (over_place l c h k))

  -- the last of them is a top domain
  pub path_top : (c : ℕ) → c < cpus_of t max → topb t (over_of t max max c) ≡ true
  path_top c k =
      let z : max - max ≡ 0 = omega arith in
      place_top t (over_of t max max c) (rw z at (over_place max c (omega arith) k))

  -- and no other is
  pub path_under : (l c : ℕ) → 1 ≤ l → l < max → c < cpus_of t max → topb t (over_of t max l c) ≡ false
  path_under l c o h k =
      let z : max - l ≡ suc (max - suc l) = omega arith in
      place_under t (max - suc l) (over_of t max l c) (rw z at (over_place l c (omega arith) k))

  module _ (k : ℕ) (is : k < domains_of t max) (under : topb t k ≡ false) where
    -- a parent comes before its child
    pub parent_below : parent_of t k < k
    parent_below = parent_less t k (under_top t k under) (omega (arith, a.exists)) a.entries

    -- so it is a domain
    pub parent_domain : parent_of t k < domains_of t max
    parent_domain = omega (arith, parent_below)

    next_level : (above : ℕ) → above < max → Place t above k → level_of t max (parent_of t k) ≡ suc (level_of t max k)
    next_level zero h p = absurd (true≢false (sym (place_top t k p) ∙ under))
    next_level (suc above) h p =
        omega (
          arith,
          place_level t max (suc above) k h p,
          place_level t max above (parent_of t k) (omega arith) (place_parent t above k p),
        )

    -- its level is the next
    pub level_parent : level_of t max (parent_of t k) ≡ suc (level_of t max k)
    level_parent = level_of_lem t max k is (λ above b from to. next_level above b (record { from = from; to = to }))
