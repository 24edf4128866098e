-- Each of the answer records of a run, by the calls before it.
use Prim.Native.Nat.{ℕ, suc, ◌+◌, ◌*◌}
use mathlib.Core.List.{List, [], ◌∷◌, ◌++◌}
use mathlib.Core.Path.{◌≡◌, refl, sym, ap, ◌∙◌}
use native.Mathlib.Omega.{arith}
use lib.ListN.{length, take, drop}
use lib.Seq.{take_at, drop_at, drop-drop}
use Rattle.history.specs.History.{state_after}
use Rattle.model.specs.Calls.{call_of}
use Rattle.model.specs.declared.call.Call.{Call}
use Rattle.model.specs.declared.state.State.{State}
use Rattle.script.specs.AnswerRecord.{answer_size}
use Rattle.script.specs.Run.{record_of_event, event_answer_of}
use Rattle.script_demand.specs.Taken.{records_of}
use Rattle.script_laws.proofs.AnswerRecord.{answer_length}

-- the state after one more call
pub state_next : (ks : List Call) (k : Call) (s : State) → state_after s (ks ++ (k ∷ [])) ≡ (call_of (state_after s ks) k).state
unfolding state_after
state_next [] k s = refl
state_next (c ∷ ks) k s = state_next ks k (call_of s c).state

-- the record after those of the calls before it is the one of the next call, in the state after them
pub record_at : (before : List Call) (k : Call) (rest : List Call) (taken : ℕ) (s : State) →
    take answer_size (drop (answer_size * length before) (records_of taken s (before ++ (k ∷ rest))))
    ≡ record_of_event (taken + length before + 1) (event_answer_of (state_after s before) k)
unfolding state_after records_of event_answer_of
record_at [] k rest taken s =
    let x = event_answer_of s k in
    let z : taken + 0 + 1 ≡ taken + 1 = omega arith in
    rw z (take_at (record_of_event (taken + 1) x) _ answer_size (answer_length (taken + 1) x.code x.shown))
record_at (c ∷ ks) k rest taken s =
    let x = event_answer_of s c in
    let first = record_of_event (taken + 1) (event_answer_of s c) in
    let others = records_of (taken + 1) (call_of s c).state (ks ++ (k ∷ rest)) in
    let z : answer_size * suc (length ks) ≡ answer_size + answer_size * length ks = omega arith in
    let y : taken + 1 + length ks + 1 ≡ taken + suc (length ks) + 1 = omega arith in
    ap (λ (i : ℕ). take answer_size (drop i (first ++ others))) z
    ∙ ap (take answer_size) (sym (drop-drop (answer_size * length ks) answer_size (first ++ others)))
    ∙ ap (λ (m : List ℕ). take answer_size (drop (answer_size * length ks) m))
    (drop_at first others answer_size (answer_length (taken + 1) x.code x.shown))
    ∙ record_at ks k rest (taken + 1) (call_of s c).state
    ∙ ap (λ (n : ℕ). record_of_event n (event_answer_of (state_after (call_of s c).state ks) k)) y
