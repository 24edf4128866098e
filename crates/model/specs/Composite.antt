-- docs/REFERENCE.md, 'Composite states and suspend requests'.
use Rattle.std.specs.Prelude.{ℕ, suc, Bool, false, cond, not, ◌&&◌, List, [], ◌∷◌, leb, eqb, get_or, Option, None, Some}
use Rattle.model.specs.declared.states.CompositeState.{CompositeState}
use Rattle.model.specs.declared.sorts.PowerLevel.{PowerLevel}
use Rattle.model.specs.declared.states.Kind.{Kind}
use Rattle.model.specs.declared.states.Platform.{Platform}
use Rattle.model.specs.Below.{every, highest}
use Rattle.model.specs.Limits.{highest_max, levels}
use Rattle.model.specs.States.{run, off_of, in_rangeb, kind_of, deeperb, power_downb}

-- the states from level 0 up
abbrev pub states_of : CompositeState → List ℕ
states_of c = c.level0 ∷ c.level1 ∷ c.level2 ∷ c.level3 ∷ []

-- the state of a level; past the last level it is RUN
abbrev pub state_at : CompositeState → ℕ → ℕ
state_at c l = get_or (states_of c) l run

-- the states with another one at a level
abbrev pub set_state_at : CompositeState → ℕ → ℕ → CompositeState
set_state_at c l s = record {
  level0 = cond (eqb l 0) s c.level0;
  level1 = cond (eqb l 1) s c.level1;
  level2 = cond (eqb l 2) s c.level2;
  level3 = cond (eqb l 3) s c.level3;
}

-- RUN at every level
abbrev pub all_run : CompositeState
all_run = record { level0 = run; level1 = run; level2 = run; level3 = run }

-- OFF at a level, 0 above MAX
abbrev pub off_at_level : Platform → ℕ → ℕ
off_at_level p l = cond (leb l p.max.0) (off_of p) 0

-- OFF at every level
abbrev pub all_off : Platform → CompositeState
all_off p = record { level0 = off_at_level p 0; level1 = off_at_level p 1; level2 = off_at_level p 2; level3 = off_at_level p 3 }

-- the state of the CPU level
abbrev pub cpu_level_state_of : CompositeState → ℕ
cpu_level_state_of c = state_at c 0

-- the state of level MAX
abbrev pub highest_level_state_of : Platform → CompositeState → ℕ
highest_level_state_of p c = state_at c p.max.0

-- a level's state is in range: up to MAX a state of the platform, above it 0
abbrev pub level_in_rangeb : Platform → CompositeState → ℕ → Bool
level_in_rangeb p c l = cond (leb l p.max.0) (in_rangeb p (state_at c l)) (eqb (state_at c l) 0)

-- the states are in range at every level
abbrev pub states_in_rangeb : Platform → CompositeState → Bool
states_in_rangeb p c = every levels (level_in_rangeb p c)

-- the kind of a level's state
abbrev pub kind_at : Platform → CompositeState → ℕ → Kind
kind_at p c l = kind_of p (state_at c l)

-- a level up to MAX that is not RUN
abbrev pub non_run_atb : Platform → CompositeState → ℕ → Bool
non_run_atb p c l = leb l p.max.0 && not (eqb (state_at c l) run)

-- the highest level that is not RUN: a suspend's highest affected level
abbrev pub find_highest_non_run_level_of : Platform → CompositeState → Option PowerLevel
find_highest_non_run_level_of p c = highest levels (non_run_atb p c)

-- that level; 0 where there is none
abbrev pub found_of : Option PowerLevel → ℕ
found_of (Some l) = l.0
found_of None = 0

-- that level is this one
abbrev pub found_atb : Option PowerLevel → ℕ → Bool
found_atb (Some l) n = eqb l.0 n
found_atb None n = false

-- a level up to MAX that is power-down
abbrev pub power_down_atb : Platform → CompositeState → ℕ → Bool
power_down_atb p c l = leb l p.max.0 && power_downb (kind_at p c l)

-- the highest level that is power-down
abbrev pub find_highest_power_down_level_of : Platform → CompositeState → Option PowerLevel
find_highest_power_down_level_of p c = highest levels (power_down_atb p c)

-- a level's kind is not deeper than the kind below it
abbrev pub no_deeperb : Platform → CompositeState → ℕ → Bool
no_deeperb p c below = not (deeperb (kind_at p c (suc below)) (kind_at p c below))

-- a suspend request is valid: states in range, level 0 not RUN, no level's kind deeper than the kind below it
unfoldable pub is_valid_suspend_requestb : Platform → CompositeState → Bool
is_valid_suspend_requestb p c =
    states_in_rangeb p c && not (eqb (state_at c 0) run) && every highest_max (no_deeperb p c)
