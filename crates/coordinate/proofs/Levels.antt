-- Laws on coordinate, walked level by level.
use Prim.Native.Nat.{ℕ, ◌+◌, ◌-◌}
use mathlib.Core.Bool.{cond, ◌&&◌}
use mathlib.Core.List.{List}
use mathlib.Core.Path.{◌≡◌, refl, ◌∙◌}
use native.Mathlib.Numerals.{add-one}
use native.Mathlib.Omega.{arith}
use lib.Dec.{leb, ltb, eqb}
use lib.ListN.{set}
use Rattle.model.specs.declared.board.Tree.{Tree}
use Rattle.model.specs.declared.states.CompositeState.{CompositeState}
use Rattle.model.specs.Composite.{state_at, set_state_at}
use Rattle.model.specs.Coordinate.{Coordinated, coordinated, minimum_under, level_coordinated_of, levels_coordinated_of}
use Rattle.model.specs.Path.{above_of}
use Rattle.model.specs.States.{run}
use Rattle.model.specs.Table.{set_at_level}

module _ (t : Tree) (off first cpu upto : ℕ) where
  -- no level is coordinated yet
  pub levels_none : (x : Coordinated) → levels_coordinated_of t off first cpu upto 0 x ≡ x
  unfolding levels_coordinated_of
  levels_none x = refl

  -- a turn of the loop: the domain, the state wanted and the one below, then what is resolved and what is written by these
  module _ (n : ℕ) (y : Coordinated) {d w u r : ℕ} {s q k : List ℕ} {v : CompositeState}
      (hd : d ≡ above_of t.parents first n)
      (hw : w ≡ state_at y.resolved (n + 1))
      (hu : u ≡ state_at y.resolved n)
      (hr : r ≡ cond (leb 2 (n + 1) && eqb u run) run
      (minimum_under t off first cpu upto (n + 1) d (set_at_level y.requests (n + 1) cpu w)))
      (hq : q ≡ set_at_level y.requests (n + 1) cpu w)
      (hs : s ≡ cond (leb 2 (n + 1) && eqb u run) y.states (set y.states d r))
      (hk : k ≡ cond (ltb (n + 1) upto) (set y.copies d r) y.copies)
      (hv : v ≡ set_state_at y.resolved (n + 1) r) where
    -- it makes the level
    level_made : coordinated s q k v ≡ level_coordinated_of t off first cpu upto (n + 1) y
    unfolding level_coordinated_of
    level_made = let z : n + 1 - 1 ≡ n = omega arith in rw (hv, hk, hs, hq, hr, hu, hw, hd, z)

    -- one level more
    pub levels_turn : (x : Coordinated) → y ≡ levels_coordinated_of t off first cpu upto n x →
        coordinated s q k v ≡ levels_coordinated_of t off first cpu upto (n + 1) x
    unfolding levels_coordinated_of
    levels_turn x e = level_made ∙ rw (e, add-one)
