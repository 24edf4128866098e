-- Where a node stands, its ancestors and its level.
use Prim.Native.Nat.{ℕ, zero, suc, ◌-◌, ◌<◌, ◌≤◌}
use mathlib.Core.Bool.{true, false}
use mathlib.Core.List.{List}
use mathlib.Core.Path.{◌≡◌, refl}
use native.Mathlib.Omega.{arith}
use Rattle.model.specs.Topology.{total_of, start_of, down_of, domains_of, topb, parent_of, ancestor_of, level_of}
use Rattle.topology_laws.proofs.Levels.{start_mono, down_inside}
use Rattle.topology_laws.proofs.Parents.{top_test, no_top, before_parent, parent_before, from_parent}

-- node n has so many levels above it
pub record Place (t : List ℕ) (above n : ℕ) : Type 0 where
  pub from : domains_of t above ≤ n
  pub to : n < domains_of t (suc above)

module _ (t : List ℕ) where
  -- a node with no level above it is a top domain
  pub place_top : (n : ℕ) → Place t 0 n → topb t n ≡ true
  unfolding down_of
  place_top n p = top_test t n p.to

  module _ (above n : ℕ) (p : Place t (suc above) n) where
    in_tree : n < total_of t
    in_tree = omega (arith, p.to, down_inside t (suc above) 0)

    under : start_of t 0 ≤ n
    unfolding down_of
    under = omega (arith, start_mono t 0 (domains_of t above) (omega arith), p.from)

    -- a node with levels above it is none
    pub place_under : topb t n ≡ false
    place_under = no_top t n under in_tree

    -- its parent has one less
    pub place_parent : Place t above (parent_of t n)
    unfolding down_of
    place_parent = record {
      from = from_parent t n under in_tree (domains_of t above) p.from;
      to = before_parent t n under in_tree (domains_of t (suc above)) p.to;
    }

    -- it comes before the children of domain k exactly if its parent comes before k
    before_up : (k : ℕ) → n < start_of t k → parent_of t n < k
    before_up = before_parent t n under in_tree

    up_before : (k : ℕ) → parent_of t n < k → n < start_of t k
    up_before = parent_before t n under in_tree

  -- an ancestor has as many levels less as it is above
  pub place_ancestor : (l above n : ℕ) → l ≤ above → Place t above n → Place t (above - l) (ancestor_of t l n)
  unfolding ancestor_of
  place_ancestor zero above n h p = let z : above - 0 ≡ above = omega arith in rw z p
  place_ancestor (suc l) zero n h p = absurd (omega arith)
  place_ancestor (suc l) (suc above) n h p =
      let z : suc above - suc l ≡ above - l = omega arith in
      rw z (place_ancestor l above (parent_of t n) (omega arith) (place_parent above n p))

  -- a node comes before those so many levels below domain k exactly if its ancestor comes before k
  pub before_ancestor : (l above n k : ℕ) → l ≤ above → Place t above n → n < down_of t l k → ancestor_of t l n < k
  unfolding down_of ancestor_of
  before_ancestor zero above n k h p b = b
  before_ancestor (suc l) zero n k h p b = absurd (omega arith)
  before_ancestor (suc l) (suc above) n k h p b =
      before_ancestor l above (parent_of t n) k (omega arith) (place_parent above n p) (before_up above n p (down_of t l k) b)

  pub ancestor_before : (l above n k : ℕ) → l ≤ above → Place t above n → ancestor_of t l n < k → n < down_of t l k
  unfolding down_of ancestor_of
  ancestor_before zero above n k h p b = b
  ancestor_before (suc l) zero n k h p b = absurd (omega arith)
  ancestor_before (suc l) (suc above) n k h p b =
      up_before above n p (down_of t l k) (ancestor_before l above (parent_of t n) k (omega arith) (place_parent above n p) b)

  -- a domain's level is MAX less the levels above it
  pub place_level : (max above k : ℕ) → above < max → Place t above k → level_of t max k ≡ max - above
  unfolding level_of
  place_level zero above k h p = absurd (omega arith)
  place_level (suc max) zero k h p = rw (place_top k p) (omega arith)
  place_level (suc max) (suc above) k h p =
      rw (place_under above k p) (omega (arith, place_level max above (parent_of t k) (omega arith) (place_parent above k p)))

  -- the ancestor one level further up is the parent
  pub ancestor_next : (l n : ℕ) → ancestor_of t (suc l) n ≡ parent_of t (ancestor_of t l n)
  unfolding ancestor_of
  ancestor_next zero n = refl
  ancestor_next (suc l) n = ancestor_next l (parent_of t n)
