use Rattle.std.specs.Prelude.{Err}
use Rattle.std.proofs.Common.{sym, ap, ◌∙◌, rules}
use Rattle.model.specs.declared.code.Refusal.TheVariants as code
use Rattle.model.specs.declared.state.State.{State}
use Rattle.script.specs.Run.{start_at}
use Rattle.script_laws.proofs.Record.{board_within}
use Rattle.script_laws.proofs.Start.{start_malformed, start_fresh}
use Rattle.script_run.proofs.start.Goals as goal

pub returns-in_default : goal.returns-in_default
returns-in_default c =
    ap (λ (s : State). record { code = Err code.Malformed; next = 0; state = s }) c.no_state.ensures
    ∙ sym (start_malformed c.args.input.now (sym c.in_default.ensures))

pub slice_bounds-fresh-count : goal.slice_bounds-fresh-count
slice_bounds-fresh-count c = (board_within _ _ (sym c.in-Some.ensures)).0

pub slice_bounds-fresh-start : goal.slice_bounds-fresh-start
slice_bounds-fresh-start c = let h = board_within _ _ (sym c.in-Some.ensures) in search rules

pub slice_bounds-fresh-end : goal.slice_bounds-fresh-end
slice_bounds-fresh-end c = let h = board_within _ _ (sym c.in-Some.ensures) in search rules

pub returns : goal.returns
returns c = ap (start_at _) c.fresh-made.ensures ∙ sym (start_fresh _ _ (sym c.in-Some.ensures))
