-- How long the text is at the most.
use Prim.Native.Nat.{ℕ, zero, suc, ◌+◌, ◌*◌, ◌/◌, ◌≤◌}
use mathlib.Core.Bool.{Bool, true, false, cond}
use mathlib.Core.List.{List, [], ◌∷◌, ◌++◌}
use native.Mathlib.Omega.{arith}
use lib.Dec.{ltb, eqb}
use lib.IntN.{ℤ, pos, negsuc}
use lib.ListN.{length, drop, length-append}
use Rattle.model.specs.Numbers.{Code, number_of, signed_of}
use Rattle.model.specs.State.{max_at, domain_count_of, cpu_count_of}
use Rattle.model.specs.declared.state.State.{State}
use Rattle.script.specs.AnswerRecord.{answer_size, no_cpu_state}
use Rattle.script.specs.Bytes.{byte_at, number_at}
use Rattle.script.specs.Printed.{space, dash, digits_of, signed_text_of, states_text, answer_line, answer_lines}
use Rattle.script.specs.Printed.{board_line, end_line, refused_line}

-- the longer of two
either : (b : Bool) (xs ys : List ℕ) {n : ℕ} → length xs ≤ n → length ys ≤ n → length (cond b xs ys) ≤ n
either true xs ys p q = p
either false xs ys p q = q

digits_length : (places n : ℕ) → length (digits_of places n) ≤ suc places
unfolding digits_of
digits_length zero n = omega arith
digits_length (suc places) n =
    let before = either (ltb n 10) [] (digits_of places (n / 10)) {n = suc places} (omega arith) (digits_length places (n / 10)) in
    simp length-append (omega arith)

signed_length : (z : ℤ) → length (signed_text_of z) ≤ 11
signed_length (pos n) = omega (arith, digits_length 9 n)
signed_length (negsuc n) = omega (arith, digits_length 9 (suc n))

states_length : (n : ℕ) (l : List ℕ) (place : ℕ) → length (states_text n l place) ≤ 11 * n
unfolding states_text
states_length zero l place = omega arith
states_length (suc n) l place =
    let digits = digits_length 9 (byte_at l place) in
    let rest = states_length n l (suc place) in
    simp length-append (omega arith)

line_length : (max : ℕ) (l : List ℕ) → max ≤ 3 → length (answer_line max l) ≤ 67
unfolding answer_line
line_length max l top =
    let number = digits_length 9 (number_at 4 l 4) in
    let code = signed_length (signed_of (byte_at l 8)) in
    let states = states_length (suc max) l 9 in
    let two = space ∷ dash ∷ [] in
    let shown = either (eqb (byte_at l 9) no_cpu_state) two (states_text (suc max) l 9) {n = 44} (omega arith) (omega arith) in
    simp length-append (omega arith)

lines_length : (max n : ℕ) (l : List ℕ) → max ≤ 3 → length (answer_lines max n l) ≤ 67 * n
unfolding answer_lines
lines_length max zero l top = omega arith
lines_length max (suc n) l top =
    let first = line_length max l top in
    let rest = lines_length max n (drop answer_size l) top in
    simp length-append (omega arith)

board_length : (s : State) → length (board_line s) ≤ 53
unfolding board_line
board_length s =
    let cpus = digits_length 9 (cpu_count_of s) in
    let domains = digits_length 9 (domain_count_of s) in
    let levels = digits_length 9 (max_at s) in
    simp length-append (omega arith)

end_length : (events : ℕ) (k : Code) → length (end_line events k) ≤ 27
unfolding end_line
end_length events k =
    let number = digits_length 9 events in
    let code = signed_length (number_of k) in
    simp length-append (omega arith)

-- a refusal
pub refused_length : (k : Code) → length (refused_line k) ≤ 20
unfolding refused_line
refused_length k = let code = signed_length (number_of k) in simp length-append (omega arith)

-- a run on a board: some 200,000 bytes for 3,000 events
pub run_length : (s : State) (events : ℕ) (l : List ℕ) (k : Code) → max_at s ≤ 3 →
    length (board_line s ++ answer_lines (max_at s) events l ++ end_line events k) ≤ 80 + 67 * events
run_length s events l k top =
    let board = board_length s in
    let lines = lines_length (max_at s) events l top in
    let end = end_length events k in
    simp length-append (omega arith)
