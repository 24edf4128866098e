-- What the line of an answer record is made of.
use Prim.Native.Nat.{ℕ, zero, suc, ◌+◌, ◌*◌}
use mathlib.Core.List.{List, [], ◌∷◌, ◌++◌, append_assoc, append-nil}
use mathlib.Core.Path.{◌≡◌, refl, sym, ap, ◌∙◌}
use native.Mathlib.Numerals.{add-one}
use native.Mathlib.Omega.{arith}
use borrow.Author.Tests.{ne_eqb}
use lib.ListN.{drop}
use lib.Seq.{get_or-drop, drop-drop}
use Rattle.model.specs.Numbers.{signed_of}
use Rattle.script.specs.AnswerRecord.{answer_size, no_cpu_state}
use Rattle.script.specs.Bytes.{byte_at, number_at}
use Rattle.script.specs.Printed.{space, newline, decimal_of, signed_text_of, states_text, shown_text, answer_line, answer_lines}

states_more : (l : List ℕ) (n place : ℕ) →
    states_text n l place ++ space ∷ decimal_of (byte_at l (place + n)) ≡ states_text (suc n) l place
unfolding states_text
states_more l zero place = let e : place + 0 ≡ place = omega arith in simp (e, append-nil)
states_more l (suc n) place =
    let e : place + suc n ≡ suc place + n = omega arith in
    rw e
    (append_assoc (space ∷ decimal_of (byte_at l place)) (states_text n l (suc place)) (space ∷ decimal_of (byte_at l (suc place + n)))
    ∙ ap (λ (r : List ℕ). space ∷ decimal_of (byte_at l place) ++ r) (states_more l n (suc place)))

lines_more : (max n : ℕ) (l : List ℕ) →
    answer_lines max n l ++ answer_line max (drop (answer_size * n) l) ≡ answer_lines max (suc n) l
unfolding answer_lines
lines_more max zero l = simp append-nil
lines_more max (suc n) l =
    let e : answer_size * suc n ≡ answer_size + answer_size * n = omega arith in
    simp (e, append_assoc, ← drop-drop (answer_size * n) answer_size l)
    (ap (λ (r : List ℕ). answer_line max l ++ r) (lines_more max n (drop answer_size l)))

-- one record more
pub lines_next : (max n : ℕ) (l : List ℕ) →
    answer_lines max n l ++ answer_line max (drop (answer_size * n) l) ≡ answer_lines max (n + 1) l
lines_next max n l = rw add-one (lines_more max n l)

-- one level more
pub states_next : (l : List ℕ) (n place : ℕ) {state : ℕ} → state ≡ byte_at l (place + n) →
    states_text n l place ++ space ∷ decimal_of state ≡ states_text (n + 1) l place
states_next l n place e = rw (e, add-one) (states_more l n place)

-- what stands in a record that starts at a place
number_drop : (l : List ℕ) (width start place : ℕ) → number_at width (drop start l) place ≡ number_at width l (start + place)
unfolding number_at
number_drop l zero start place = refl
number_drop l (suc width) start place =
    let e : start + suc place ≡ suc (start + place) = omega arith in
    simp (get_or-drop, number_drop l width start (suc place), e)

states_drop : (l : List ℕ) (n start place : ℕ) → states_text n (drop start l) place ≡ states_text n l (start + place)
unfolding states_text
states_drop l zero start place = refl
states_drop l (suc n) start place =
    let e : start + suc place ≡ suc (start + place) = omega arith in
    simp (get_or-drop, states_drop l n start (suc place), e)

module _ (max : ℕ) (l : List ℕ) (start : ℕ) where
  -- the states of a CPU
  pub shown_states : {state : ℕ} → state ≡ byte_at l (start + 9) → (state ≡ no_cpu_state → ⊥) →
      states_text (suc max) l (start + 9) ≡ shown_text max (drop start l)
  shown_states e h =
      let n : byte_at (drop start l) 9 ≡ no_cpu_state → ⊥ = λ m. h (e ∙ sym (get_or-drop start l 9 0) ∙ m) in
      simp (ne_eqb _ _ n) (sym (states_drop l (suc max) start 9))

  -- the pieces of a line
  pub line_of : {number coded : ℕ} → number ≡ number_at 4 l (start + 4) → coded ≡ byte_at l (start + 8) →
      decimal_of number ++ space ∷ signed_text_of (signed_of coded) ++ shown_text max (drop start l) ++ newline ∷ []
      ≡ answer_line max (drop start l)
  unfolding answer_line
  line_of h k =
      let e = h ∙ sym (number_drop l 4 start 4) in
      let f = k ∙ sym (get_or-drop start l 8 0) in
      simp (e, f)
