-- The worked example of the scope: what is printed for its script.
use Prim.Native.Nat.{ℕ}
use mathlib.Core.List.{List, [], ◌∷◌, ◌++◌}
use mathlib.Core.Path.{◌≡◌, refl}
use lib.ListN.{replicate}
use Rattle.model.specs.Answer.{decided}
use Rattle.model.specs.Below.{every, highest}
use Rattle.model.specs.Calls.{cpu_on_of, cpu_off_of, cpu_suspend_start_of, cpu_suspend_finish_of, handle_cpu_boot_of, system_suspend_of}
use Rattle.model.specs.Calls.{set_suspend_mode_of}
use Rattle.model.specs.Composite.{is_valid_suspend_requestb}
use Rattle.model.specs.Coordinate.{level_coordinated_of, levels_coordinated_of}
use Rattle.model.specs.Fresh.{fresh_of}
use Rattle.model.specs.Minimum.{lesser_of, minimum_of}
use Rattle.model.specs.Path.{above_of, level_at, levels_running_of}
use Rattle.model.specs.SoundTest.{soundb, cpu_slotb, cpu_slot_isb, domain_slotb}
use Rattle.model.specs.Table.{filled_of, levels_filled_of}
use Rattle.model.specs.Topology.{total_of, entry_of, entriesb, down_of, level_of, topologyb}
use Rattle.model.specs.Tree.{tree_answer_of, tree_of, cpu_parents_of}
use Rattle.script.specs.Printed.{printed_of, cpus_word, domains_word, levels_word, end_word, dash, space, newline}
use Rattle.script.specs.Bytes.{number_at, bytes_of}
use Rattle.script.specs.Record.{read_of, record_of, read_board_of, on_in, boot_in, suspend_in}
use Rattle.script.specs.Run.{start_of, run_of, event_answer_of}
use Rattle.script.specs.AnswerRecord.{answer_bytes}
use Rattle.script.specs.Printed.{digits_of, states_text, answer_line, answer_lines, board_line, end_line}

-- a board, a suspend of CPU 0, its boot, and an on of CPU 9, which does not exist
abbrev pub example : List ℕ
example =
    13 ∷ 0 ∷ 16 ∷ 0 ∷ 2 ∷ 4 ∷ 2 ∷ 0 ∷ 4 ∷ 1 ∷ 2 ∷ 2 ∷ 2
    ∷ 26 ∷ 0 ∷ 3 ∷ 0 ∷ 0 ∷ 0 ∷ 0 ∷ 16 ∷ 0 ∷ 0 ∷ 0 ∷ 0 ∷ 0 ∷ 0
    ∷ (replicate 8 0 ++ 2 ∷ 2 ∷ 0 ∷ 0
    ∷ 5 ∷ 0 ∷ 5 ∷ 0 ∷ 0
    ∷ 24 ∷ 0 ∷ 1 ∷ 0 ∷ 0 ∷ 9 ∷ (replicate 16 0 ++ 1 ∷ 0 ∷ []))

-- cpus 4 domains 3 levels 2 / 1 0 2 2 0 / 2 0 0 0 0 / 3 -2 - / end 3 0
pub example_printed : printed_of example ≡
    cpus_word ++ 52 ∷ domains_word ++ 51 ∷ levels_word ++ 50 ∷ newline
    ∷ 49 ∷ space ∷ 48 ∷ space ∷ 50 ∷ space ∷ 50 ∷ space ∷ 48 ∷ newline
    ∷ 50 ∷ space ∷ 48 ∷ space ∷ 48 ∷ space ∷ 48 ∷ space ∷ 48 ∷ newline
    ∷ 51 ∷ space ∷ dash ∷ 50 ∷ space ∷ dash ∷ newline
    ∷ end_word ++ 51 ∷ space ∷ 48 ∷ newline ∷ []
unfolding decided every highest cpu_on_of cpu_off_of cpu_suspend_start_of cpu_suspend_finish_of handle_cpu_boot_of system_suspend_of
    set_suspend_mode_of is_valid_suspend_requestb level_coordinated_of levels_coordinated_of fresh_of lesser_of minimum_of
    above_of level_at levels_running_of filled_of levels_filled_of soundb cpu_slotb cpu_slot_isb domain_slotb total_of entry_of
    entriesb down_of level_of topologyb tree_answer_of tree_of cpu_parents_of
    printed_of number_at bytes_of read_of record_of read_board_of on_in boot_in suspend_in start_of run_of event_answer_of answer_bytes digits_of
    states_text answer_line answer_lines board_line end_line
example_printed = refl
