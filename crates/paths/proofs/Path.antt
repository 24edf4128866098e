-- Laws on paths walked level by level.
use Prim.Native.Nat.{ℕ, suc, ◌+◌, ◌-◌, ◌<◌, ◌≤◌}
use mathlib.Core.List.{List}
use mathlib.Core.Path.{◌≡◌, refl}
use native.Mathlib.Numerals.{add-one}
use native.Mathlib.Omega.{arith}
use borrow.Author.Tests.{eq-eqb, ne_eqb}
use lib.ListN.{get_or}
use Rattle.model.specs.declared.state.Domains.{Domains}
use Rattle.model.specs.Path.{above_of, level_at, level_running_of, levels_running_of}
use Rattle.model.specs.Tree.{no_parent}

module _ (parents : List ℕ) where
  -- no level above a domain is the domain
  pub above_none : (d : ℕ) → above_of parents d 0 ≡ d
  unfolding above_of
  above_none d = refl

  -- one level more is the parent
  pub above_turn : (d n e : ℕ) → e ≡ above_of parents d n → get_or parents e 0 ≡ above_of parents d (n + 1)
  unfolding above_of
  above_turn d n e h = rw (h, add-one)

  -- before the first level all of MAX is left
  pub level_whole : (max d : ℕ) → level_at parents (max - 0) d ≡ level_at parents max d
  level_whole max d = let z : max - 0 ≡ max = omega arith in rw z

  module _ (max i d : ℕ) where
    -- at the top the level is what is left of MAX
    pub level_top : i < max → get_or parents d 0 ≡ no_parent → level_at parents (max - i) d ≡ max - i
    unfolding level_at
    level_top h e = let z : max - i ≡ suc (max - (i + 1)) = omega arith in rw z (simp (eq-eqb _ _ e))

    -- below it the parent's is sought among one less
    pub level_under : i < max → (get_or parents d 0 ≡ no_parent → ⊥) →
        level_at parents (max - i) d ≡ level_at parents (max - (i + 1)) (get_or parents d 0)
    unfolding level_at
    level_under h e = let z : max - i ≡ suc (max - (i + 1)) = omega arith in rw z (simp (ne_eqb _ _ e))

    -- and where none is left it is 0
    pub level_none : max ≤ i → level_at parents (max - i) d ≡ 0
    unfolding level_at
    level_none h = let z : max - i ≡ 0 = omega arith in rw z

  module _ (max first cpu : ℕ) (x : Domains) where
    -- no level runs yet
    pub running_none : levels_running_of parents max first cpu 0 x ≡ x
    unfolding levels_running_of
    running_none = refl

    -- one level more
    pub running_turn : (n d : ℕ) (y z : Domains) → d ≡ above_of parents first n → y ≡ levels_running_of parents max first cpu n x →
        z ≡ level_running_of parents max (n + 1) d cpu y → z ≡ levels_running_of parents max first cpu (n + 1) x
    unfolding levels_running_of
    running_turn n d y z h k e = rw (e, k, h, add-one)
