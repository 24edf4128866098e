-- What is decided of the record and the domains.
use Rattle.std.proofs.Common.{◌∙◌}
use Rattle.model.specs.Steps.{turned_off}
use Rattle.in_place.proofs.Decided.{done_on, refused_on, written}
use Rattle.in_place.proofs.down.cpu_off.Goals as goal

pub returns-then-is_ok-clause-value : goal.returns-then-is_ok-clause-value
returns-then-is_ok-clause-value c =
    done_on _ (c.for_caller-code.ensures ∙ rw c.of_answer.ensures) c.is_ok.ensures.value
    _ _ _ c.if-is_ok.true
    (written _ (λ _. turned_off c.args.p c.args.node) c.turned_off.ensures
    (c.coordinate_state-resolved.ensures ∙ rw (c.all_off.ensures, c.off.ensures)))

pub returns-clause-value : goal.returns-clause-value
returns-clause-value c =
    refused_on _ (c.for_caller-code.ensures ∙ rw c.of_answer.ensures) c.is_ok.ensures.value
    _ _ _ c.if-is_ok.false c.all_run.ensures
