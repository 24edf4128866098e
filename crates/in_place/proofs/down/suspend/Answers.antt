-- What is decided of the record and the domains: with an interrupt pending nothing, and else the suspend is entered.
use Rattle.std.proofs.Common.{refl}
use Rattle.in_place.proofs.Decided.{done_on, entered, refused_on, stays}
use Rattle.in_place.proofs.down.suspend.Goals as goal

pub returns-clause-value : goal.returns-clause-value
returns-clause-value c told =
    refused_on _ refl c.is_ok.ensures.value _ _ _ c.if-is_ok.false c.all_run-2.ensures

pub returns-then-pending-clause-value : goal.returns-then-pending-clause-value
returns-then-pending-clause-value c told =
    done_on _ refl c.is_ok.ensures.value _ _ _ c.if-is_ok.true (stays _ _ _ _ _ _ _ _ c.if-pending.true c.all_run.ensures)

pub returns-then-is_ok-clause-value : goal.returns-then-is_ok-clause-value
returns-then-is_ok-clause-value c told =
    done_on _ refl c.is_ok.ensures.value _ _ _ c.if-is_ok.true (entered _ _ _ _ _ _ _ _ c.if-pending.false c.enter.ensures.value)
