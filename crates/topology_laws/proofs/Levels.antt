-- The levels stand one after the other, and are filled.
use Prim.Native.Nat.{ℕ, zero, suc, ◌+◌, ◌<◌, ◌≤◌}
use mathlib.Core.Bool.{Bool, true, and-eq-true_iff}
use mathlib.Core.List.{List}
use mathlib.Core.Path.{◌≡◌, refl, sym, ap, ◌∙◌}
use native.Mathlib.Omega.{arith}
use borrow.Author.Tests.{lt-ltb}
use lib.Dec.{ltb}
use lib.ListN.{length, take}
use lib.Seq.{take-length}
use Rattle.basics.proofs.Tests.{below_or}
use Rattle.model.specs.Below.{every}
use Rattle.model.specs.Topology.{total_of, entriesb, start_of, down_of, domains_of, filledb}
use Rattle.topology_laws.proofs.Sums.{sum_mono, sum_inside, sum_rise}

module _ (t : List ℕ) where
  -- the children of a later domain start no earlier
  pub start_mono : (a b : ℕ) → a ≤ b → start_of t a ≤ start_of t b
  start_mono a b h = sum_mono t (suc a) (suc b) (omega arith)

  -- nor do the nodes so many levels below it
  pub down_mono : (l a b : ℕ) → a ≤ b → down_of t l a ≤ down_of t l b
  unfolding down_of
  down_mono zero a b h = h
  down_mono (suc l) a b h = start_mono (down_of t l a) (down_of t l b) (down_mono l a b h)

  -- so many levels below the nodes that are so many levels below
  pub down_down : (j m k : ℕ) → down_of t j (down_of t m k) ≡ down_of t (j + m) k
  unfolding down_of
  down_down zero m k = let z : 0 + m ≡ m = omega arith in rw z
  down_down (suc j) m k = let z : suc j + m ≡ suc (j + m) = omega arith in rw z (ap (start_of t) (down_down j m k))

  -- what is levels below stands among the nodes
  pub down_inside : (l k : ℕ) → down_of t (suc l) k ≤ total_of t
  unfolding down_of
  down_inside l k = sum_inside t (suc (down_of t l k))

  level_step : (l : ℕ) → domains_of t l ≤ domains_of t (suc l)
  unfolding down_of
  level_step zero = omega arith
  level_step (suc l) = start_mono (domains_of t l) (domains_of t (suc l)) (level_step l)

  -- more levels have no fewer domains
  pub level_mono : (l m : ℕ) → l ≤ m → domains_of t l ≤ domains_of t m
  level_mono l zero h = let z : l ≡ 0 = omega arith in rw z (omega arith)
  level_mono l (suc m) h =
      below_or l (suc m) (λ q. omega (arith, level_mono l m (omega arith), level_step m))
      (λ q. let z : l ≡ suc m = omega arith in rw z (omega arith))

  -- each domain of the first n levels is of one of them
  pub level_of_lem : {P : Type 0} (n k : ℕ) → k < domains_of t n →
      ((a : ℕ) → a < n → domains_of t a ≤ k → k < domains_of t (suc a) → P) → P
  unfolding down_of
  level_of_lem zero k h f = absurd (omega arith)
  level_of_lem (suc n) k h f =
      below_or k (domains_of t n) (λ u. level_of_lem n k u (λ a b. f a (omega arith))) (λ u. f n (omega arith) u h)

  module _ (max : ℕ) (long : length t ≡ suc (domains_of t max)) where
    -- one level below the domains are all the nodes
    pub all_nodes : domains_of t (suc max) ≡ total_of t
    unfolding down_of
    all_nodes = ap (λ (n : ℕ). total_of (take n t)) (sym long) ∙ ap total_of (take-length t)

    module _ (entries : entriesb t ≡ true) where
      -- each level has a domain
      pub level_filled : (above : ℕ) → above < max → domains_of t above < domains_of t (suc above)
      unfolding down_of total_of
      level_filled zero h = sum_rise t 0 1 entries (omega arith) (omega arith)
      level_filled (suc above) h =
          sum_rise t (suc (domains_of t above)) (suc (domains_of t (suc above))) entries
          (omega (arith, level_filled above (omega arith))) (omega (arith, level_mono (suc above) max (omega arith)))

      -- each domain of the first m levels has nodes on each level below, down to the CPUs
      pub down_filled : (l k m : ℕ) → l + m ≤ max → k < domains_of t m → down_of t (suc l) k < down_of t (suc l) (suc k)
      unfolding down_of
      down_filled zero k m e b =
          sum_rise t (suc k) (suc (suc k)) entries (omega arith) (omega (arith, level_mono m max (omega arith)))
      down_filled (suc l) k m e b =
          sum_rise t (suc (down_of t (suc l) k)) (suc (down_of t (suc l) (suc k))) entries
          (omega (arith, down_filled l k m (omega arith) b))
          (omega (
            arith,
            down_mono (suc l) (suc k) (domains_of t m) (omega arith),
            down_down (suc l) m 0,
            level_mono (suc l + m) max e,
          ))

-- a test that holds at each number below n holds at every one
every_all : (test : ℕ → Bool) (n : ℕ) → ((i : ℕ) → i < n → test i ≡ true) → every n test ≡ true
unfolding every
every_all test zero h = refl
every_all test (suc n) h =
    (and-eq-true_iff (every n test) (test n)).1 (every_all test n (λ i k. h i (omega arith)), h n (omega arith))

-- the levels are filled where each has a domain
pub filled_test : (t : List ℕ) (max : ℕ) → ((above : ℕ) → above < max → domains_of t above < domains_of t (suc above)) →
    filledb t max ≡ true
filled_test t max h =
    every_all (λ above. ltb (domains_of t above) (domains_of t (suc above))) max (λ above k. lt-ltb _ _ (h above k))

-- the levels are filled wherever every entry is at least 1 and the length is right
pub filled_follows : (t : List ℕ) (max : ℕ) → entriesb t ≡ true → length t ≡ suc (domains_of t max) → filledb t max ≡ true
filled_follows t max entries long = filled_test t max (level_filled t max long entries)
