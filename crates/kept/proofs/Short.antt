-- Without its lengths a record that passes the test may not pass it after a call: the smallest board, with no slot for its CPU.
use mathlib.Core.Bool.{true, false}
use mathlib.Core.List.{[], ◌∷◌}
use mathlib.Core.Path.{◌≡◌, refl}
use Rattle.model.specs.Answer.{decided}
use Rattle.model.specs.Below.{every, highest}
use Rattle.model.specs.Calls.{call_of, cpu_off_of}
use Rattle.model.specs.Coordinate.{level_coordinated_of, levels_coordinated_of}
use Rattle.model.specs.Fresh.{fresh_of}
use Rattle.model.specs.Minimum.{lesser_of, minimum_of}
use Rattle.model.specs.Path.{above_of, level_at, levels_running_of}
use Rattle.model.specs.SoundTest.{soundb, cpu_slotb, cpu_slot_isb, domain_slotb}
use Rattle.model.specs.State.{state_of}
use Rattle.model.specs.Table.{filled_of, levels_filled_of}
use Rattle.model.specs.Topology.{total_of, entry_of, entriesb, down_of, level_of, topologyb}
use Rattle.model.specs.Tree.{tree_answer_of, tree_of, cpu_parents_of}
use Rattle.model.specs.declared.call.Call.TheVariants as call
use Rattle.model.specs.declared.state.State.{State}

-- one CPU under one domain, fresh
abbrev fresh : State
fresh = (fresh_of (record { max = record { 0 = 1 }; states = 2; down = 1 }) (record { 0 = 0 }) (1 ∷ 1 ∷ [])).state

-- with no slot for a CPU's record; what is read there is the zero record, On and RUN
abbrev short : State
short = state_of fresh.board fresh.tree [] fresh.domains fresh.mode

passes : soundb short ≡ true
unfolding decided every highest fresh_of lesser_of minimum_of above_of level_at levels_running_of filled_of levels_filled_of
    soundb cpu_slotb cpu_slot_isb domain_slotb total_of entry_of entriesb down_of level_of topologyb tree_answer_of tree_of cpu_parents_of
passes = refl

fails : soundb (call_of short (call.Off (record { 0 = 0 }) 0)).state ≡ false
unfolding decided every highest cpu_off_of level_coordinated_of levels_coordinated_of fresh_of lesser_of minimum_of above_of level_at
    levels_running_of filled_of levels_filled_of soundb cpu_slotb cpu_slot_isb domain_slotb total_of entry_of entriesb down_of level_of topologyb
    tree_answer_of tree_of cpu_parents_of
fails = refl
