use Rattle.std.proofs.Common.{◌≡◌, ◌-◌, ◌*◌, ◌≤◌, length, drop}
use Rattle.cpu_table.specs.CpuTable.{SameCpus, lent_cpus}
use Rattle.paths.specs.Rows.{SameRows, lent_domains}
use Rattle.script.specs.AnswerRecord.{answer_size}
use Rattle.script.specs.Run.{run_of}
use Rattle.script_laws.proofs.Reached.{Reached}
use Rattle.script_run.specs.Rows.{Carried, state_in}
use Rattle.script_run.proofs.run_rows.Given as goal

abbrev pub invariant-loop-at : goal.invariant-loop-at
invariant-loop-at l =
    (l.events ≤ l.budget) × (l.written ≡ answer_size * l.events)
    × Reached
    (run_of l.budget (length l.initial.out) l.input 0
    (state_in l.board l.tree (lent_cpus l.initial.cpus) (lent_domains l.initial.rows) l.initial.mode))
    l.initial.out l.out l.written
    (run_of (l.budget - l.events) (length l.out - l.written) (drop l.at l.input) l.events
    (state_in l.board l.tree (lent_cpus l.cpus) (lent_domains l.rows) l.mode))
    × Carried l.known (state_in l.board l.tree (lent_cpus l.cpus) (lent_domains l.rows) l.mode)
    × SameRows l.initial.rows l.rows
    × SameCpus l.initial.cpus l.cpus

abbrev pub decreases-loop-at : goal.decreases-loop-at
decreases-loop-at l = l.budget - l.events
