-- What is decided of the target's record.
use Rattle.std.proofs.Common.{◌∙◌}
use Rattle.in_place.proofs.Decided.{done_stepped, refused_stepped}
use Rattle.in_place.proofs.on.cpu_on.Goals as goal

pub returns-then-is_ok : goal.returns-then-is_ok
returns-then-is_ok c =
    done_stepped _ (c.for_caller-code.ensures ∙ rw c.on_code-own.ensures) c.is_ok.ensures.value
    _ _ _ c.if-is_ok.true c.pended.ensures c.all_run.ensures

pub returns : goal.returns
returns c =
    refused_stepped _ (c.for_caller-code.ensures ∙ rw c.on_code-own.ensures) c.is_ok.ensures.value
    _ _ _ c.if-is_ok.false c.all_run-2.ensures
