-- The walks over the entries and the levels: a step of each, and its end.
use Prim.Native.Nat.{ℕ, zero, suc, ◌+◌, ◌-◌, ◌<◌, ◌≤◌}
use mathlib.Core.Bool.{Bool, ◌&&◌}
use mathlib.Core.List.{List, [], ◌∷◌}
use mathlib.Core.Path.{◌≡◌, refl, ap, ◌∙◌}
use native.Mathlib.Omega.{arith}
use native.Mathlib.Numerals.{add-one}
use borrow.Author.Tests.{lt-ltb, le-ltb, eq-eqb, ne_eqb}
use lib.Dec.{leb}
use lib.ListN.{length, get_or, drop, drop_of_length-le}
use lib.Seq.{drop-cons}
use Rattle.std.proofs.lemmas.List.Sums.{sum_by-cons}
use Rattle.std.specs.List.{list_all, sum_by}
use Rattle.model.specs.Topology.{total_of, entry_of, entriesb, start_of, down_of, domains_of, parent_of, level_of}

module _ (t : List ℕ) (i : ℕ) where
  module _ (h : i < length t) where
    -- a node that the next entry counts
    pub entry_found : (n : ℕ) → n < get_or t i 0 → entry_of (drop i t) n ≡ 0
    unfolding entry_of
    entry_found n k = rw (drop-cons t i 0 h) (simp (lt-ltb _ _ k))

    -- and one that it does not
    pub entry_next : (n : ℕ) → get_or t i 0 ≤ n → entry_of (drop i t) n ≡ suc (entry_of (drop (i + 1) t) (n - get_or t i 0))
    unfolding entry_of
    entry_next n k = rw (drop-cons t i 0 h, add-one) (simp (le-ltb _ _ k))

  module _ (h : length t ≤ i) where
    -- past the last entry none is left to count a node
    pub entry_end : (n : ℕ) → entry_of (drop i t) n ≡ 0
    unfolding entry_of
    entry_end n = rw (drop_of_length-le t h)

-- the entries are summed as any list is
pub total_is : (t : List ℕ) → sum_by (λ x. x) t ≡ total_of t
unfolding total_of
total_is [] = refl
total_is (x ∷ xs) = sum_by-cons (λ y. y) x xs ∙ ap (λ (n : ℕ). x + n) (total_is xs)

-- and each is tested
pub entries_is : (t : List ℕ) → list_all (λ x. leb 1 x) t ≡ entriesb t
unfolding entriesb
entries_is [] = refl
entries_is (x ∷ xs) = ap (λ (b : Bool). leb 1 x && b) (entries_is xs)

module _ (t : List ℕ) where
  -- no levels have no domains
  pub domains_none : domains_of t 0 ≡ 0
  unfolding down_of
  domains_none = refl

  -- the domains of one level more
  pub domains_next : (levels : ℕ) → domains_of t (levels + 1) ≡ start_of t (domains_of t levels)
  unfolding down_of
  domains_next levels = rw add-one

  -- with no level left the level is 0
  pub level_end : (left d : ℕ) → left ≤ 0 → level_of t left d ≡ 0
  unfolding level_of
  level_end left d h = let z : left ≡ 0 = omega arith in rw z

  -- a top domain's level is what is left
  pub level_top : (left d : ℕ) → 0 < left → entry_of t d ≡ 0 → level_of t left d ≡ left
  unfolding level_of
  level_top zero d h e = absurd (omega arith)
  level_top (suc left) d h e = simp (eq-eqb _ _ e)

  -- another's is found from its parent, with one level less
  pub level_next : (left d : ℕ) → 0 < left → (entry_of t d ≡ 0 → ⊥) → level_of t left d ≡ level_of t (left - 1) (parent_of t d)
  unfolding level_of
  level_next zero d h e = absurd (omega arith)
  level_next (suc left) d h e = let z : suc left - 1 ≡ left = omega arith in simp (ne_eqb _ _ e, z)
