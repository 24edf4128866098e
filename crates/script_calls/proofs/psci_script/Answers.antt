use Rattle.std.proofs.Common.{◌≡◌, length, sym, ◌∙◌, rules, w32}
use mir.Val.{of_z, to_z}
use Rattle.script_calls.proofs.Scripts.{script_none, script_run_lem}
use Rattle.script_calls.proofs.psci_script.Goals as goal

pub returns-then-is_ok : goal.returns-then-is_ok
returns-then-is_ok c =
    let a = c.args in
    let x = c.run-done.ensures in
    let n : to_z w32 (of_z w32 c.number.result) ≡ c.number.result = search rules in
    let w =
    script_run_lem a.budget (length a.out.now) a.board.now a.events.now a.out.now c.start-begun.ensures
    (sym c.is_ok.ensures.value ∙ c.if-is_ok.true) x.0 x.1 (n ∙ c.number.ensures) in
    record { value = w.0; taken_after = w.1; out_after = w.2 }

pub returns : goal.returns
returns c =
    let a = c.args in
    let n : to_z w32 (of_z w32 c.number-2.result) ≡ c.number-2.result = search rules in
    let w =
    script_none a.budget (length a.out.now) a.board.now a.events.now a.out.now c.start-begun.ensures
    (sym c.is_ok.ensures.value ∙ c.if-is_ok.false) (n ∙ c.number-2.ensures) in
    record { value = w.0; taken_after = w.1; out_after = w.2 }
