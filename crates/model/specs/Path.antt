-- docs/REFERENCE.md, 'Paths'.
use Rattle.std.specs.Prelude.{ℕ, zero, suc, ◌-◌, cond, List, leb, ltb, eqb, get_or, set}
use Rattle.model.specs.declared.cpu.CpuPowerNode.{CpuPowerNode}
use Rattle.model.specs.declared.state.Domains.{Domains}
use Rattle.model.specs.declared.states.CompositeState.{CompositeState}
use Rattle.model.specs.Node.{no_suspend_state}
use Rattle.model.specs.States.{run}
use Rattle.model.specs.Table.{set_at_level}
use Rattle.model.specs.Tree.{no_parent}

module _ (parents : List ℕ) where
  -- the domain so many levels above a domain
  unfoldable pub above_of : ℕ → ℕ → ℕ
  above_of d zero = d
  above_of d (suc n) = get_or parents (above_of d n) 0

  -- the domain of a level on the path that starts at a level-1 domain
  abbrev pub on_path_of : ℕ → ℕ → ℕ
  on_path_of first level = above_of first (level - 1)

  -- the level of a domain: MAX at the top, and one below its parent's elsewhere
  unfoldable pub level_at : ℕ → ℕ → ℕ
  level_at zero k = 0
  level_at (suc max) k = cond (eqb (get_or parents k 0) no_parent) (suc max) (level_at max (get_or parents k 0))

  -- the stored state of a level along a CPU's path, 0 above MAX
  abbrev pub stored_state_of : List ℕ → ℕ → ℕ → ℕ → ℕ
  stored_state_of states max first level = cond (leb level max) (get_or states (on_path_of first level) 0) 0

  -- the stored states along a CPU's path, from its own up
  abbrev pub local_states_of : List ℕ → ℕ → CpuPowerNode → CompositeState
  local_states_of states max cpu = record {
    level0 = cpu.local_state;
    level1 = stored_state_of states max cpu.parent.0 1;
    level2 = stored_state_of states max cpu.parent.0 2;
    level3 = stored_state_of states max cpu.parent.0 3;
  }

  -- a domain runs, of a level and for a CPU: its state and the request are RUN, the suspend state is cleared, and below the top
  -- its copy is RUN
  abbrev pub level_running_of : ℕ → ℕ → ℕ → ℕ → Domains → Domains
  level_running_of max level d cpu x = record {
    states = set x.states d run;
    requests = set_at_level x.requests level cpu run;
    suspends = set_at_level x.suspends level cpu no_suspend_state;
    copies = cond (ltb level max) (set x.copies d run) x.copies;
  }

  -- so it is for the first levels of a CPU's path
  unfoldable pub levels_running_of : ℕ → ℕ → ℕ → ℕ → Domains → Domains
  levels_running_of max first cpu zero x = x
  levels_running_of max first cpu (suc n) x =
      level_running_of max (suc n) (above_of first n) cpu (levels_running_of max first cpu n x)

  -- so it is along the whole path
  abbrev pub set_running_of : ℕ → ℕ → ℕ → Domains → Domains
  set_running_of max first cpu = levels_running_of max first cpu max
