use mathlib.Core.Bool.{not}
use Rattle.std.proofs.Common.{ap, ◌∙◌, rules}
use Rattle.script.specs.declared.run.Start.{Start}
use Rattle.script_laws.proofs.Start.{start_within}
use Rattle.printer.proofs.Printed.{printed_long, put_is, refused_by, run_by}
use Rattle.printer.proofs.print_script.Goals as goal

pub returns-then-input-gt-INPUT : goal.returns-then-input-gt-INPUT
returns-then-input-gt-INPUT c =
    let w = put_is _ c.refused_line.ensures (printed_long _ c.if-input-gt-INPUT.true) in
    record { text_after = w.0; value = w.1.0; upper_bound = w.1.1 }

pub returns-then-is_err : goal.returns-then-is_err
returns-then-is_err c =
    let refused = c.is_err.ensures.negation ∙ ap not c.if-is_err.true in
    let w = put_is _ c.refused_line-then-is_err.ensures (refused_by _ c.start-begun.ensures c.if-input-gt-INPUT.false refused) in
    record { text_after = w.0; value = w.1.0; upper_bound = w.1.1 }

pub slice_bounds-print_run-count : goal.slice_bounds-print_run-count
slice_bounds-print_run-count c = rw c.start-begun.ensures (start_within c.args.input.now)

pub slice_bounds-print_run-start : goal.slice_bounds-print_run-start
slice_bounds-print_run-start c =
    let h = start_within c.args.input.now in
    let e = ap (λ (x : Start). x.next) c.start-begun.ensures in
    search rules

pub returns : goal.returns
returns c =
    let accepted = c.is_err.ensures.negation ∙ ap not c.if-is_err.false in
    let w = put_is _ c.print_run.ensures (run_by _ c.start-begun.ensures c.if-input-gt-INPUT.false accepted) in
    record { text_after = w.0; value = w.1.0; upper_bound = w.1.1 }
