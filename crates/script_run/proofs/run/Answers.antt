use Rattle.std.proofs.Common.{ℕ, List, length, sym, ap, subst, ◌∙◌}
use Rattle.cpu_table.specs.CpuTable.{cpus_in, lent_cpus}
use Rattle.model.specs.declared.cpu.CpuPowerNode.{CpuPowerNode}
use Rattle.model.specs.declared.state.State.{State}
use Rattle.model.specs.State.{state_of}
use Rattle.paths.specs.Rows.{lent_domains}
use Rattle.script.specs.Run.{Run, out_after, run_of}
use Rattle.script_run.specs.Rows.{Carried, run_answer}
use Rattle.script_run.proofs.Carried.{rows_stand}
use Rattle.script_run.proofs.run.Goals as goal

pub run_rows-ran-requires : goal.run_rows-ran-requires
run_rows-ran-requires c =
    let t = c.sound_at_start-known in
    subst (Carried t.result) (sym (rows_stand c.args.start t.ensures.1 c.rows_of-table.ensures))
    (record { outcome = t.ensures.0; lengths = t.ensures.1 })

pub returns : goal.returns
returns c =
    let x = c.run_rows-ran in
    let a = c.args in
    let s = a.start in
    let d = lent_domains x.new.rows in
    let same = rows_stand s c.sound_at_start-known.ensures.1 c.rows_of-table.ensures in
    let firsts = ap (λ (r : List ℕ). record (lent_cpus x.new.cpus) { firsts = r }) (sym x.ensures.same_cpus.0) in
    let table = c.table_of.ensures ∙ ap cpus_in (c.view.ensures ∙ firsts) in
    let whole : State → Run = λ s. run_of a.budget (length a.out.now) a.input.now 0 s in (
      ap (λ (t : List CpuPowerNode). run_answer x.result.events x.result.closing x.result.written
          (state_of s.board s.tree t d x.result.mode)) table
          ∙ x.ensures.value.0 ∙ ap (λ (s : State). (whole s).answer) same,
      x.ensures.value.1 ∙ ap (λ (s : State). out_after a.out.now (whole s)) same,
    )
