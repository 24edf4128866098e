use Rattle.std.proofs.Common.{ℕ, ◌≡◌, ◌≤◌, length, take, sym, ap, ◌∙◌}
use Rattle.std.proofs.Math.Seq.{length-take-le}
use Rattle.script.specs.Printed.{event_limit, answer_room}
use Rattle.script.specs.Run.{Run, run_of}
use Rattle.script_laws.proofs.Counted.{run_front, run_fits}
use Rattle.text.proofs.Puts.{alike}
use Rattle.printer.proofs.Printed.{run_is}
use Rattle.printer.proofs.print_run.Goals as goal

pub slice_bounds-answers-end : goal.slice_bounds-answers-end
slice_bounds-answers-end c =
    let q = c.run-ran in
    rw (q.ensures.0, q.ensures.1) (run_fits event_limit _ _ c.answer_room-answers.result)

pub slice_bounds-run_text-end : goal.slice_bounds-run_text-end
slice_bounds-run_text-end c =
    let q = c.run-ran in
    let h : q.result.written ≤ length q.new.out =
    rw (q.ensures.0, q.ensures.1) (run_fits event_limit _ _ c.answer_room-answers.result) in
    sym (length-take-le _ _ h)

pub returns : goal.returns
returns c =
    let q = c.run-ran in
    let made = c.answer_room-answers in
    let a = c.args in
    let room = sym made.ensures in
    let r : Run = run_of event_limit answer_room a.events.now 0 a.state in
    let answer : q.result ≡ r.answer =
    q.ensures.0 ∙ ap (λ (n : ℕ). (run_of event_limit n a.events.now 0 a.state).answer) room in
    let bytes : take q.result.written q.new.out ≡ r.bytes =
    rw (q.ensures.0, q.ensures.1) (run_front event_limit a.events.now a.state made.result)
    ∙ ap (λ (n : ℕ). (run_of event_limit n a.events.now 0 a.state).bytes) room in
    alike c.run_text.ensures (run_is a.state r answer bytes)
