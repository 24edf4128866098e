-- A run is the history of the calls that it takes.
use Prim.Native.Nat.{ℕ, zero, suc, ◌+◌, ◌-◌}
use mathlib.Core.Bool.{cond}
use mathlib.Core.List.{List, [], ◌∷◌, ◌++◌}
use mathlib.Core.Path.{◌≡◌, refl, sym, ap, ◌∙◌}
use native.Mathlib.Omega.{arith}
use lib.Dec.{ltb}
use lib.ListN.{length, drop}
use Rattle.std.specs.Prelude.{Ok, Err}
use Rattle.basics.proofs.Tests.{by}
use Rattle.history.specs.History.{state_after}
use Rattle.call_laws.proofs.Board.{call_same_board}
use Rattle.model.specs.State.{max_at}
use Rattle.model.specs.declared.board.Board.{Board}
use Rattle.model.specs.declared.call.Call.{Call}
use Rattle.model.specs.Numbers.{Code}
use Rattle.model.specs.declared.code.Refusal.TheVariants as code
use Rattle.model.specs.declared.state.State.{State}
use Rattle.script.specs.AnswerRecord.{answer_size}
use Rattle.script.specs.Record.{emptyb, read_of}
use Rattle.script.specs.Run.{Run, stopped, after, event_or, record_of_event, event_answer_of, run_of}
use Rattle.script.specs.declared.record.Read.{Read}
use Rattle.script.specs.declared.record.Read.TheVariants as read
use Rattle.script_demand.specs.Taken.{taken_if, taken_of, records_of}

-- what a run from here on gives is made by these calls
pub record MadeBy (taken : ℕ) (s : State) (ks : List Call) (r : Run) : Type 0 where
  pub state : r.answer.state ≡ state_after s ks
  pub events : r.answer.events ≡ taken + length ks
  pub bytes : r.bytes ≡ records_of taken s ks

made_by_none : (k : Code) (taken : ℕ) (s : State) → MadeBy taken s [] (stopped k taken s)
unfolding state_after records_of
made_by_none k taken s = record { state = refl; events = omega arith; bytes = refl }

made_by_next : (taken : ℕ) (s : State) (c : Call) (ks : List Call) (r : Run) →
    MadeBy (taken + 1) (event_answer_of s c).state ks r →
    MadeBy taken s (c ∷ ks) (after (record_of_event (taken + 1) (event_answer_of s c)) r)
unfolding state_after records_of event_answer_of
made_by_next taken s c ks r m = record {
  state = m.state;
  events = omega (arith, m.events);
  bytes = ap (λ (x : List ℕ). record_of_event (taken + 1) (event_answer_of s c) ++ x) m.bytes;
}

made_by_read : (taken : ℕ) (s : State) (x : Read) (stop : Code → Run) (f : Call → ℕ → Run) (g : Call → ℕ → List Call) →
    ((k : Code) → MadeBy taken s [] (stop k)) → ((c : Call) (next : ℕ) → MadeBy taken s (g c next) (f c next)) →
    MadeBy taken s (taken_if x g) (event_or x stop f)
made_by_read taken s read.End stop f g p q = p (Ok tt)
made_by_read taken s (read.Event c next) stop f g p q = q c next
made_by_read taken s read.Malformed stop f g p q = p (Err code.Malformed)

-- the same, where what is read is said otherwise
made_by_same : (taken : ℕ) (s : State) (x y : Read) (stop : Code → Run) (f : Call → ℕ → Run) (g : Call → ℕ → List Call) → x ≡ y →
    ((k : Code) → MadeBy taken s [] (stop k)) → ((c : Call) (next : ℕ) → MadeBy taken s (g c next) (f c next)) →
    MadeBy taken s (taken_if x g) (event_or y stop f)
made_by_same taken s x y stop f g e p q = rw e (made_by_read taken s y stop f g p q)

-- the board stays, and so does MAX
same_max : (s : State) (c : Call) → max_at (event_answer_of s c).state ≡ max_at s
unfolding event_answer_of
same_max s c = ap (λ (b : Board). b.platform.max.0) (call_same_board s c).board

made : (budget room : ℕ) (l : List ℕ) (taken : ℕ) (s : State) (max : ℕ) → max_at s ≡ max →
    MadeBy taken s (taken_of budget room max l) (run_of budget room l taken s)
unfolding run_of taken_of
made zero room l taken s max m = made_by_none (cond (emptyb l) (Ok tt) (Err code.BudgetSpent)) taken s
made (suc budget) room l taken s max m =
    made_by_same taken s (read_of max l) (read_of (max_at s) l) _ _ _ (ap (λ (n : ℕ). read_of n l) (sym m)) (λ k. made_by_none k taken s)
    (λ c next. by (ltb room answer_size)
    (λ e. rw e (made_by_none (Err code.NoRoom) taken s))
    (λ e. rw e
    (made_by_next taken s c (taken_of budget (room - answer_size) max (drop next l)) _
    (made budget (room - answer_size) (drop next l) (taken + 1) (event_answer_of s c).state max (same_max s c ∙ m)))))

-- a run is made by the calls that it takes from its bytes
pub run_made : (budget room : ℕ) (l : List ℕ) (taken : ℕ) (s : State) →
    MadeBy taken s (taken_of budget room (max_at s) l) (run_of budget room l taken s)
run_made budget room l taken s = made budget room l taken s (max_at s) refl
