-- What is decided of the record and the domains.
use Rattle.std.proofs.Common.{sym, ◌∙◌}
use Rattle.in_place.proofs.Decided.{done_on, parts, refused_on}
use Rattle.in_place.proofs.Handed.{finish_states}
use Rattle.in_place.proofs.wake.cpu_suspend_finish.Goals as goal

pub returns-then-is_ok-clause-value : goal.returns-then-is_ok-clause-value
returns-then-is_ok-clause-value c =
    done_on _ (c.for_cpu-code.ensures ∙ rw c.finish_code.ensures) c.is_ok.ensures.value
    _ _ _ c.if-is_ok.true
    (parts c.finished.ensures (c.local_states_from_nodes-along.ensures ∙ sym (finish_states _ c.args.p)) c.set_running.ensures.rows)

pub returns-clause-value : goal.returns-clause-value
returns-clause-value c =
    refused_on _ (c.for_cpu-code.ensures ∙ rw c.finish_code.ensures) c.is_ok.ensures.value
    _ _ _ c.if-is_ok.false c.all_run.ensures
