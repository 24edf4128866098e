-- A run's count: no more events than the budget, and thirteen bytes for each.
use Prim.Native.Nat.{ℕ, zero, suc, ◌+◌, ◌-◌, ◌*◌, ◌≤◌}
use mathlib.Core.Bool.{cond}
use mathlib.Core.List.{List}
use mathlib.Core.Path.{◌≡◌, refl, ◌∙◌}
use native.Mathlib.Omega.{arith}
use borrow.Author.Tests.{ltb-false}
use lib.Dec.{ltb}
use lib.ListN.{length, take, drop, length-append}
use lib.Seq.{take_at}
use Rattle.std.specs.Prelude.{Ok, Err}
use Rattle.basics.proofs.Tests.{cond_rule}
use Rattle.model.specs.State.{max_at}
use Rattle.model.specs.declared.call.Call.{Call}
use Rattle.model.specs.Numbers.{Code}
use Rattle.model.specs.declared.code.Refusal.TheVariants as code
use Rattle.model.specs.declared.state.State.{State}
use Rattle.script.specs.declared.record.Read.{Read}
use Rattle.script.specs.declared.record.Read.TheVariants as read
use Rattle.script.specs.AnswerRecord.{answer_size}
use Rattle.script.specs.Record.{emptyb, read_of}
use Rattle.script.specs.Run.{Run, stopped, after, out_after, event_or, record_of_event, event_answer_of, run_of}
use Rattle.script_laws.proofs.AnswerRecord.{answer_length}

-- of what a run gives from here on, with events taken, budget left and room left
pub record Counted (taken budget room : ℕ) (r : Run) : Type 0 where
  pub from : taken ≤ r.answer.events
  pub upto : r.answer.events ≤ taken + budget
  pub long : length r.bytes ≡ answer_size * (r.answer.events - taken)
  pub fits : length r.bytes ≤ room
  pub said : r.answer.written ≡ answer_size * r.answer.events

counted_stop : (taken budget room : ℕ) (k : Code) (s : State) → Counted taken budget room (stopped k taken s)
counted_stop taken budget room k s = record {
  from = omega arith;
  upto = omega arith;
  long = omega arith;
  fits = omega arith;
  said = refl;
}

counted_event : (taken budget room : ℕ) (m : List ℕ) (r : Run) → length m ≡ answer_size → answer_size ≤ room →
    Counted (taken + 1) budget (room - answer_size) r → Counted taken (suc budget) room (after m r)
counted_event taken budget room m r n h c =
    let j = length-append m r.bytes in
    let from = c.from in
    let upto = c.upto in
    let long = c.long in
    let fits = c.fits in
    record {
      from = omega (arith, from);
      upto = omega (arith, upto);
      long = j ∙ omega (arith, n, long, from);
      fits = omega (arith, j, n, fits, h);
      said = c.said;
    }

event_or_lem : (P : Run → Type 0) (x : Read) {stop : Code → Run} {f : Call → ℕ → Run} → ((k : Code) → P (stop k)) →
    ((c : Call) (next : ℕ) → P (f c next)) → P (event_or x stop f)
event_or_lem P read.End p q = p (Ok tt)
event_or_lem P (read.Event c next) p q = q c next
event_or_lem P read.Malformed p q = p (Err code.Malformed)

pub run_counted : (budget room : ℕ) (l : List ℕ) (taken : ℕ) (s : State) →
    Counted taken budget room (run_of budget room l taken s)
unfolding run_of
run_counted zero room l taken s = counted_stop taken 0 room (cond (emptyb l) (Ok tt) (Err code.BudgetSpent)) s
run_counted (suc budget) room l taken s =
    event_or_lem (Counted taken (suc budget) room) (read_of (max_at s) l) (λ k. counted_stop taken (suc budget) room k s)
    (λ c next. cond_rule (Counted taken (suc budget) room) (ltb room answer_size)
    (λ _. counted_stop taken (suc budget) room (Err code.NoRoom) s)
    (λ h. counted_event taken budget room (record_of_event (taken + 1) (event_answer_of s c)) _
    (answer_length (taken + 1) (event_answer_of s c).code (event_answer_of s c).shown) (ltb-false room answer_size h)
    (run_counted budget (room - answer_size) (drop next l) (taken + 1) (event_answer_of s c).state)))

-- the answer says how many bytes were written
pub run_written : (budget room : ℕ) (l : List ℕ) (s : State) →
    length (run_of budget room l 0 s).bytes ≡ (run_of budget room l 0 s).answer.written
run_written budget room l s =
    let c = run_counted budget room l 0 s in
    let long = c.long in
    let said = c.said in
    omega (arith, long, said)

module _ (budget : ℕ) (l : List ℕ) (s : State) (out : List ℕ) where
  -- what was written stands at the front of the output
  pub run_front : take (run_of budget (length out) l 0 s).answer.written (out_after out (run_of budget (length out) l 0 s))
      ≡ (run_of budget (length out) l 0 s).bytes
  run_front =
      let r : Run = run_of budget (length out) l 0 s in
      take_at r.bytes (drop (length r.bytes) out) r.answer.written (run_written budget (length out) l s)

  -- and lies within it
  pub run_fits : (run_of budget (length out) l 0 s).answer.written ≤ length (out_after out (run_of budget (length out) l 0 s))
  run_fits =
      let r : Run = run_of budget (length out) l 0 s in
      let said = run_written budget (length out) l s in
      let long = length-append r.bytes (drop (length r.bytes) out) in
      omega (arith, said, long)
