-- What is printed: each way that it can be, and its length.
use Prim.Native.Nat.{ℕ, ◌-◌, ◌<◌, ◌≤◌}
use mathlib.Core.Bool.{true, false}
use mathlib.Core.List.{List, ◌++◌}
use mathlib.Core.Path.{◌≡◌, sym, ap, ◌∙◌}
use native.Mathlib.Omega.{arith}
use borrow.Author.Tests.{lt-ltb, le-ltb}
use lib.Dec.{ltb}
use lib.ListN.{length, take, drop}
use lib.Seq.{sets}
use Rattle.std.specs.Prelude.{Err}
use Rattle.basics.proofs.Tests.{cond_rule}
use Rattle.model.specs.Numbers.{Code, acceptedb}
use Rattle.model.specs.State.{max_at}
use Rattle.model.specs.declared.code.Refusal.TheVariants as code
use Rattle.model.specs.declared.state.State.{State}
use Rattle.script.specs.declared.run.RunAnswer.{RunAnswer}
use Rattle.script.specs.declared.run.Start.{Start}
use Rattle.script.specs.Printed.{input_limit, event_limit, answer_room, text_most, answer_lines, board_line, end_line}
use Rattle.script.specs.Printed.{refused_line, run_text, script_run_of, printed_of}
use Rattle.script.specs.Run.{Run, start_of, run_of}
use Rattle.script_laws.proofs.Counted.{run_counted}
use Rattle.script_laws.proofs.Parts.{all_left}
use Rattle.script_laws.proofs.Start.{start_max}
use Rattle.text.proofs.Lengths.{run_length, refused_length}
use Rattle.text.specs.Put.{Put}

-- the text of a run, of its answer and its bytes
pub run_is : (s : State) (r : Run) {a : RunAnswer} {b : List ℕ} → a ≡ r.answer → b ≡ r.bytes →
    board_line s ++ answer_lines (max_at s) a.events b ++ end_line a.events a.closing ≡ run_text s r
run_is s r {a} {b} e f =
    ap (λ (x : RunAnswer). board_line s ++ answer_lines (max_at s) x.events b ++ end_line x.events x.closing) e
    ∙ ap (λ (x : List ℕ). board_line s ++ answer_lines (max_at s) r.answer.events x
    ++ end_line r.answer.events r.answer.closing) f

module _ (input : List ℕ) where
  -- more than the program takes
  pub printed_long : input_limit < length input → printed_of input ≡ refused_line (Err code.NoRoom)
  unfolding printed_of
  printed_long h = simp (lt-ltb _ _ h)

  module _ (h : length input ≤ input_limit) where
    -- a bad board
    pub printed_refused : acceptedb (start_of input).code ≡ false → printed_of input ≡ refused_line (start_of input).code
    unfolding printed_of
    printed_refused e = simp (le-ltb _ _ h, e)

    -- a run
    pub printed_run : acceptedb (start_of input).code ≡ true →
        printed_of input ≡ run_text (start_of input).state (script_run_of input)
    unfolding printed_of
    printed_run e = simp (le-ltb _ _ h, e)

-- no text is longer
pub printed_length : (input : List ℕ) → length (printed_of input) ≤ text_most
unfolding printed_of
printed_length input =
    let short : List ℕ → Type 0 = λ l. length l ≤ text_most in
    cond_rule short (ltb input_limit (length input)) (λ _. line (Err code.NoRoom))
    (λ _. cond_rule short (acceptedb (start_of input).code) (λ _. run) (λ _. line (start_of input).code))
  where
    line : (k : Code) → length (refused_line k) ≤ text_most
    line k = let l = refused_length k in omega (arith, l)

    run : length (run_text (start_of input).state (script_run_of input)) ≤ text_most
    run =
        let s : State = (start_of input).state in
        let r : Run = script_run_of input in
        let l = run_length s r.answer.events r.bytes r.answer.closing (start_max input) in
        let u = (run_counted event_limit answer_room (drop (start_of input).next input) 0 s).upto in
        omega (arith, l, u)

-- what is printed is put at the front, in the terms of the contract
pub put_is : (input : List ℕ) {t u xs : List ℕ} {n : ℕ} → Put t 0 xs u n → printed_of input ≡ xs →
    (u ≡ sets t 0 (printed_of input)) × ((n ≡ length (printed_of input)) × (n ≤ text_most))
put_is input {t} {u} {xs} {n} p e =
    let text : u ≡ sets t 0 (printed_of input) = rw e p.text in
    let next = p.next in
    let long : n ≡ length (printed_of input) = rw e (omega (arith, next)) in
    let most = printed_length input in
    (text, (long, omega (arith, long, most)))

-- what a start says, with the start by the walk of the code
module _ (input : List ℕ) {x : Start} (e : x ≡ start_of input) (h : length input ≤ input_limit) where
  pub refused_by : acceptedb x.code ≡ false → printed_of input ≡ refused_line x.code
  refused_by k =
      printed_refused input h (ap (λ (y : Start). acceptedb y.code) (sym e) ∙ k)
      ∙ ap (λ (y : Start). refused_line y.code) (sym e)

  pub run_by : acceptedb x.code ≡ true →
      printed_of input ≡ run_text x.state
      (run_of event_limit answer_room (take (length input - x.next) (drop x.next input)) 0 x.state)
  run_by k =
      printed_run input h (ap (λ (y : Start). acceptedb y.code) (sym e) ∙ k)
      ∙ ap (λ (y : Start). run_text y.state (run_of event_limit answer_room (drop y.next input) 0 y.state)) (sym e)
      ∙ ap (λ (l : List ℕ). run_text x.state (run_of event_limit answer_room l 0 x.state)) (sym (all_left x.next input))
