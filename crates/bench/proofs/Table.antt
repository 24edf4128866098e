-- Every bench case comes out, by computation.
use mathlib.Core.Bool.{true}
use mathlib.Core.Path.{◌≡◌, refl}
use Rattle.model.specs.Answer.{decided}
use Rattle.model.specs.Below.{every, highest}
use Rattle.model.specs.Calls.{cpu_on_of, cpu_off_of, cpu_suspend_start_of, cpu_suspend_finish_of, handle_cpu_boot_of, system_suspend_of}
use Rattle.model.specs.Calls.{set_suspend_mode_of}
use Rattle.model.specs.Composite.{is_valid_suspend_requestb}
use Rattle.model.specs.Coordinate.{level_coordinated_of, levels_coordinated_of}
use Rattle.model.specs.Fresh.{fresh_of}
use Rattle.model.specs.Minimum.{lesser_of, minimum_of}
use Rattle.model.specs.Path.{above_of, level_at, levels_running_of}
use Rattle.model.specs.SoundTest.{soundb, cpu_slotb, cpu_slot_isb, domain_slotb}
use Rattle.model.specs.Table.{filled_of, levels_filled_of}
use Rattle.model.specs.Topology.{total_of, entry_of, entriesb, down_of, level_of, topologyb}
use Rattle.model.specs.Tree.{tree_answer_of, tree_of, cpu_parents_of}
use Rattle.bench.specs.Bench.{cases, all_come_out}

pub bench : all_come_out cases ≡ true
unfolding decided every highest cpu_on_of cpu_off_of cpu_suspend_start_of cpu_suspend_finish_of handle_cpu_boot_of system_suspend_of
    set_suspend_mode_of is_valid_suspend_requestb level_coordinated_of levels_coordinated_of fresh_of lesser_of minimum_of
    above_of level_at levels_running_of filled_of levels_filled_of soundb cpu_slotb cpu_slot_isb domain_slotb total_of entry_of
    entriesb down_of level_of topologyb tree_answer_of tree_of cpu_parents_of
bench = refl
