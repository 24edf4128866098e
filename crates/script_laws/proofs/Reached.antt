-- How far a run has come: what is written and what is left to do add up to the whole.
use Prim.Native.Nat.{ℕ, ◌+◌, ◌-◌, ◌*◌, ◌<◌, ◌≤◌}
use mathlib.Core.List.{List, [], ◌++◌, append-nil, append_assoc}
use mathlib.Core.Path.{◌≡◌, refl, sym, ap, ◌∙◌}
use native.Mathlib.Omega.{arith}
use borrow.Rule.Slice.PartMut.{put_mid}
use lib.ListN.{length, take, drop, length-append, length-take, length-drop, take-append-drop}
use lib.Seq.{take_at, drop_at, drop-drop, length-take-le}
use Rattle.model.specs.State.{max_at}
use Rattle.model.specs.declared.call.Call.{Call}
use Rattle.model.specs.Numbers.{Code}
use Rattle.model.specs.declared.state.State.{State}
use Rattle.script.specs.declared.record.Read.TheVariants as read
use Rattle.script.specs.declared.run.EventAnswer.{EventAnswer}
use Rattle.script.specs.declared.run.RunAnswer.{RunAnswer}
use Rattle.script.specs.AnswerRecord.{answer_size, onto}
use Rattle.script.specs.Record.{read_of}
use Rattle.script.specs.Run.{Run, stopped, after, out_after, record_of_event, event_answer_of, run_of}
use Rattle.script_laws.proofs.AnswerRecord.{answer_length, onto_room}
use Rattle.script_laws.proofs.Parts.{lent}
use Rattle.script_laws.proofs.Run.{run_go}

-- of a run that writes over l₀: the output is l, w bytes of it are written, and the rest of the run is to come
pub record Reached (whole : Run) (l₀ l : List ℕ) (w : ℕ) (rest : Run) : Type 0 where
  pub within : w ≤ length l
  pub same_long : length l ≡ length l₀
  pub same_after : drop w l ≡ drop w l₀
  pub adds_up : after (take w l) rest ≡ whole

pub reached_start : (budget : ℕ) (l input : List ℕ) (s : State) →
    Reached (run_of budget (length l) input 0 s) l l 0 (run_of (budget - 0) (length l - 0) (drop 0 input) 0 s)
reached_start budget l input s =
    let y : budget - 0 ≡ budget = omega arith in
    let z : length l - 0 ≡ length l = omega arith in
    record { within = omega arith; same_long = refl; same_after = refl; adds_up = rw (y, z) }

-- one record further
reached_next : {whole : Run} {l₀ l : List ℕ} {w : ℕ} {rest : Run} (m : List ℕ) (l' : List ℕ) (rest' : Run) →
    Reached whole l₀ l w rest → length m ≡ answer_size → w + answer_size ≤ length l →
    l' ≡ take w l ++ (m ++ drop answer_size (drop w l)) → rest ≡ after m rest' → Reached whole l₀ l' (w + answer_size) rest'
reached_next {whole} {l₀} {l} {w} {rest} m l' rest' r n f e g =
    let t : length (take w l) ≡ w = length-take-le w l r.within in
    let tm : length (take w l ++ m) ≡ w + answer_size = simp length-append (omega arith) in
    let e' : l' ≡ (take w l ++ m) ++ drop answer_size (drop w l) =
    e ∙ sym (append_assoc (take w l) m (drop answer_size (drop w l))) in
    let d : drop answer_size (drop w l) ≡ drop answer_size (drop w l₀) = ap (drop answer_size) r.same_after in
    let long : length l' ≡ length l = ap length e ∙ simp (length-append, length-drop) (omega arith) in
    record {
      within = omega arith;
      same_long = long ∙ r.same_long;
      same_after =
          ap (drop (w + answer_size)) e' ∙ drop_at (take w l ++ m) (drop answer_size (drop w l)) (w + answer_size) tm ∙ d
          ∙ drop-drop answer_size w l₀;
      adds_up =
          ap (λ (x : List ℕ). after x rest')
          (ap (take (w + answer_size)) e' ∙ take_at (take w l ++ m) (drop answer_size (drop w l)) (w + answer_size) tm)
          ∙ ap (λ (x : List ℕ). record { answer = rest'.answer; bytes = x }) (append_assoc (take w l) m rest'.bytes)
          ∙ ap (after (take w l)) (sym g) ∙ r.adds_up;
    }

-- at a stop
pub reached_end : {whole : Run} {l₀ l : List ℕ} {w : ℕ} {rest : Run} (closing : Code) (k : ℕ) (s : State) →
    Reached whole l₀ l w rest → w ≡ answer_size * k → rest ≡ stopped closing k s →
    (record { events = k; closing = closing; written = w; state = s } ≡ whole.answer) × (l ≡ out_after l₀ whole)
reached_end {whole} {l₀} {l} {w} {rest} closing k s r c g =
    let x : RunAnswer = record { events = k; closing = closing; written = answer_size * k; state = s } in
    let u : after (take w l) (record { answer = x; bytes = [] }) ≡ whole = ap (after (take w l)) (sym g) ∙ r.adds_up in
    let b : take w l ≡ whole.bytes = sym (append-nil (take w l)) ∙ ap (λ (y : Run). y.bytes) u in
    let n : length whole.bytes ≡ w = ap length (sym b) ∙ length-take-le w l r.within in (
      ap (λ (y : ℕ). record { events = k; closing = closing; written = y; state = s }) c ∙ ap (λ (y : Run). y.answer) u,
      sym (take-append-drop w l) ∙ ap (λ (y : List ℕ). y ++ drop w l) b
          ∙ ap (λ (y : List ℕ). whole.bytes ++ y) (r.same_after ∙ ap (λ (i : ℕ). drop i l₀) (sym n)),
    )

-- a turn of the run, in the terms in which the walk of the code has it: the rest of the output was lent and is back as p
pub reached_step : {whole : Run} {l₀ l : List ℕ} {w : ℕ} (budget k : ℕ) (input : List ℕ) (at : ℕ) (s : State) →
    (c : Call) (next : ℕ) (x : EventAnswer) (p : List ℕ) →
    Reached whole l₀ l w (run_of (budget - k) (length l - w) (drop at input) k s) →
    k < budget → read_of (max_at s) (drop at input) ≡ read.Event c next → answer_size ≤ length l - w → x ≡ event_answer_of s c →
    p ≡ onto (take (length l - w) (drop w l)) (record_of_event (k + 1) x) →
    Reached whole l₀ (put_mid w (length l - w) l p) (w + answer_size)
    (run_of (budget - (k + 1)) (length (put_mid w (length l - w) l p) - (w + answer_size)) (drop (at + next) input) (k + 1)
    x.state)
reached_step {whole} {l₀} {l} {w} budget k input at s c next x p r b g m q o =
    let line : List ℕ = record_of_event (k + 1) x in
    let part : List ℕ = take (length l - w) (drop w l) in
    let n : length line ≡ answer_size = answer_length (k + 1) x.code x.shown in
    let f : answer_size ≤ length part = simp (length-take, length-drop) (omega arith) in
    let o' : p ≡ line ++ drop answer_size part = o ∙ onto_room part line f in
    let u : put_mid w (length l - w) l p ≡ take w l ++ (line ++ drop answer_size (drop w l)) = lent w l p line r.within o' in
    let t : length (take w l) ≡ w = length-take-le w l r.within in
    let long : length (put_mid w (length l - w) l p) ≡ length l =
    ap length u ∙ simp (length-append, length-drop) (omega arith) in
    let z : (length l - w) - answer_size ≡ length (put_mid w (length l - w) l p) - (w + answer_size) = omega arith in
    reached_next line (put_mid w (length l - w) l p) _ r n (omega arith) u
    (run_go budget (length l - w) (drop at input) k s b c next g m
    ∙ ap (λ (y : EventAnswer). after (record_of_event (k + 1) y)
    (run_of (budget - (k + 1)) ((length l - w) - answer_size) (drop next (drop at input)) (k + 1) y.state)) (sym q)
    ∙ ap (λ (i : List ℕ). after line (run_of (budget - (k + 1)) ((length l - w) - answer_size) i (k + 1) x.state))
    (drop-drop next at input)
    ∙ ap (λ (j : ℕ). after line (run_of (budget - (k + 1)) j (drop (at + next) input) (k + 1) x.state)) z)
