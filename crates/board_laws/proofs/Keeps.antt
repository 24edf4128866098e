-- Whoever uses the exported calls alone, on rows in which a sound state lies, never needs the test of the state.
use Prim.Native.Nat.{ℕ}
use mathlib.Core.List.{List, ◌∷◌}
use mathlib.Core.Path.{◌≡◌, refl, sym, ap, subst, ◌∙◌}
use lib.IntN.{ℤ}
use Rattle.board_calls.specs.Start.{BoardRows}
use Rattle.board_laws.specs.Made.{AnswerLies, LiesIn, Made, Makes, Run, numbers_of}
use Rattle.board_laws.proofs.Calls.{boot_lies, finish_lies, off_lies, on_lies, set_mode_lies, suspend_lies, system_suspend_lies}
use Rattle.call_laws.proofs.Caller.{call_known}
use Rattle.history.specs.History.{history_of, state_after}
use Rattle.kept.proofs.Kept.{call_keeps}
use Rattle.kept.specs.Lengths.{SoundRecord}
use Rattle.model.specs.Calls.{body_of, call_of}
use Rattle.model.specs.Numbers.{number_of}
use Rattle.model.specs.declared.answer.CallAnswer.{CallAnswer}
use Rattle.model.specs.declared.call.Call.{Call}
use Rattle.model.specs.declared.call.Call.TheVariants as call
use Rattle.model.specs.declared.state.State.{State}
use Rattle.model.specs.declared.state.SuspendMode.{SuspendMode}
use Rattle.sound_laws.proofs.Reflect.{is_sound}

module _ {s : State} (r : BoardRows) (l : LiesIn s r) (handed : List ℕ) where
  -- the answer to any call lies in what the exported call made of the rows
  pub answer_lies : (k : Call) (x : Made) → Makes r handed k x → AnswerLies handed k (body_of s k) x
  answer_lies (call.On caller target e good answer) x m =
      let y = on_lies l caller.0 target.0 e good answer in
      subst (AnswerLies handed (call.On caller target e good answer) (body_of s (call.On caller target e good answer))) (sym m)
      (record { number = y.number; state = y.state; states = refl })
  answer_lies (call.Off caller answer) x m =
      let y = off_lies l caller.0 handed answer in
      subst (AnswerLies handed (call.Off caller answer) (body_of s (call.Off caller answer))) (sym m)
      (record { number = y.number; state = y.state; states = y.states })
  answer_lies (call.Suspend caller pending e asked) x m =
      let y = suspend_lies l caller.0 handed pending e asked in
      subst (AnswerLies handed (call.Suspend caller pending e asked) (body_of s (call.Suspend caller pending e asked))) (sym m)
      (record { number = y.number; state = y.state; states = y.states })
  answer_lies (call.Finish cpu) x m =
      let y = finish_lies l cpu.0 handed in
      subst (AnswerLies handed (call.Finish cpu) (body_of s (call.Finish cpu))) (sym m)
      (record { number = y.number; state = y.state; states = y.states })
  answer_lies (call.Boot cpu) x m =
      let y = boot_lies l cpu.0 handed in
      subst (AnswerLies handed (call.Boot cpu) (body_of s (call.Boot cpu))) (sym m)
      (record { number = y.number; state = y.state; states = y.states })
  answer_lies (call.SystemSuspend caller feature pending good e asked) x m =
      let k = call.SystemSuspend caller feature pending good e asked in
      let y = system_suspend_lies l caller.0 handed feature pending good e asked in
      subst (AnswerLies handed k (body_of s k)) (sym m) (record { number = y.number; state = y.state; states = y.states })
  answer_lies (call.SetMode caller feature wanted) x m =
      let y = set_mode_lies l caller.0 feature m.mode in
      subst (λ (w : SuspendMode). AnswerLies handed (call.SetMode caller feature w) (body_of s (call.SetMode caller feature w)) x) m.stands
      (subst (AnswerLies handed (call.SetMode caller feature _) (body_of s (call.SetMode caller feature _))) (sym m.made)
      (record { number = y.number; state = y.state; states = refl }))

-- what a call on the rows of a sound state keeps
pub record BoardKeeps (s : State) (handed : List ℕ) (k : Call) (x : Made) : Type 0 where
  pub answer : AnswerLies handed k (call_of s k) x
  pub whole : SoundRecord (call_of s k).state

-- after a call the rows hold a state that is sound again, and the answer is that of the call with its test, 102
pub board_keeps : {s : State} → SoundRecord s → (r : BoardRows) → LiesIn s r → (handed : List ℕ) (k : Call) (x : Made) →
    Makes r handed k x → BoardKeeps s handed k x
board_keeps {s} whole r l handed k x m = record {
  answer =
      subst (λ (a : CallAnswer). AnswerLies handed k a x) (sym (call_known s k ((is_sound s).from whole.sound)))
      (answer_lies r l handed k x m);
  whole = (call_keeps s whole k).whole;
}

-- what calls, one after the other, come to
pub record Reached (s : State) (ks : List Call) (ns : List ℤ) (after : BoardRows) : Type 0 where
  pub state : LiesIn (state_after s ks) after
  pub whole : SoundRecord (state_after s ks)
  pub numbers : ns ≡ numbers_of (history_of s ks)

-- after any calls the rows hold the state that the calls come to, it is sound, and the numbers given are those of the history
pub run_keeps : {s : State} {r after : BoardRows} {ks : List Call} {ns : List ℤ} → SoundRecord s → LiesIn s r → Run r ks ns after →
    Reached s ks ns after
unfolding state_after history_of numbers_of
run_keeps whole l Run.none = record { state = l; whole = whole; numbers = refl }
run_keeps {s = s} {r = r} whole l (Run.next {k = k} {ks = ks} {ns = ns} handed x m rest) =
    let y = board_keeps whole r l handed k x m in
    let z = run_keeps {s = (call_of s k).state} y.whole y.answer.state rest in
    record {
      state = z.state;
      whole = z.whole;
      numbers =
          ap (λ (n : ℤ). n ∷ ns) y.answer.number ∙ ap (λ (l : List ℤ). number_of (call_of s k).code ∷ l) z.numbers;
    }
