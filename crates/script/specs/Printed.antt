-- docs/REFERENCE.md, 'What scriptrun reads and prints'. Text is a list of ASCII codes.
use Rattle.std.specs.Prelude.{ℕ, zero, suc, ◌+◌, ◌*◌, ◌/◌, ◌%◌, cond, List, [], ◌∷◌, ◌++◌, ltb, eqb, ℤ, pos, negsuc, length, drop, Err}
use Rattle.model.specs.Numbers.{Code, number_of, acceptedb, signed_of}
use Rattle.model.specs.State.{max_at, domain_count_of, cpu_count_of}
use Rattle.model.specs.declared.code.Refusal.TheVariants as code
use Rattle.model.specs.declared.state.State.{State}
use Rattle.script.specs.AnswerRecord.{answer_size, no_cpu_state}
use Rattle.script.specs.Bytes.{byte_at, number_at}
use Rattle.script.specs.Run.{Run, start_of, run_of}

-- the limits of the program: bytes of input, events, and room for their answers
abbrev pub input_limit : ℕ
input_limit = 16000

abbrev pub event_limit : ℕ
event_limit = 3000

abbrev pub answer_room : ℕ
answer_room = answer_size * event_limit

-- no text is longer
abbrev pub text_most : ℕ
text_most = 201080

-- a space, a line's end, a dash
abbrev pub space : ℕ
space = 32

abbrev pub newline : ℕ
newline = 10

abbrev pub dash : ℕ
dash = 45

-- words: 'cpus ', ' domains ', ' levels ', 'end ', 'refused '
abbrev pub cpus_word : List ℕ
cpus_word = 99 ∷ 112 ∷ 117 ∷ 115 ∷ space ∷ []

abbrev pub domains_word : List ℕ
domains_word = space ∷ 100 ∷ 111 ∷ 109 ∷ 97 ∷ 105 ∷ 110 ∷ 115 ∷ space ∷ []

abbrev pub levels_word : List ℕ
levels_word = space ∷ 108 ∷ 101 ∷ 118 ∷ 101 ∷ 108 ∷ 115 ∷ space ∷ []

abbrev pub end_word : List ℕ
end_word = 101 ∷ 110 ∷ 100 ∷ space ∷ []

abbrev pub refused_word : List ℕ
refused_word = 114 ∷ 101 ∷ 102 ∷ 117 ∷ 115 ∷ 101 ∷ 100 ∷ space ∷ []

-- the last decimal digit of a number
abbrev pub last_digit : ℕ → ℕ
last_digit n = 48 + n % 10

-- its decimal digits, with so many places before the last
unfoldable pub digits_of : ℕ → ℕ → List ℕ
digits_of zero n = last_digit n ∷ []
digits_of (suc places) n = cond (ltb n 10) [] (digits_of places (n / 10)) ++ last_digit n ∷ []

-- a number below 10,000,000,000
abbrev pub decimal_of : ℕ → List ℕ
decimal_of = digits_of 9

-- a signed number
abbrev pub signed_text_of : ℤ → List ℕ
signed_text_of (pos n) = decimal_of n
signed_text_of (negsuc n) = dash ∷ decimal_of (suc n)

-- the states of so many levels, from a place on
unfoldable pub states_text : ℕ → List ℕ → ℕ → List ℕ
states_text zero l place = []
states_text (suc n) l place = space ∷ decimal_of (byte_at l place) ++ states_text n l (suc place)

-- the states of levels 0 to MAX, or a dash where no such CPU exists
abbrev pub shown_text : ℕ → List ℕ → List ℕ
shown_text max l = cond (eqb (byte_at l 9) no_cpu_state) (space ∷ dash ∷ []) (states_text (suc max) l 9)

-- a line for an answer record: event number, code, states
unfoldable pub answer_line : ℕ → List ℕ → List ℕ
answer_line max l = decimal_of (number_at 4 l 4) ++ space ∷ signed_text_of (signed_of (byte_at l 8)) ++ shown_text max l ++ newline ∷ []

-- a line for each of so many answer records
unfoldable pub answer_lines : ℕ → ℕ → List ℕ → List ℕ
answer_lines max zero l = []
answer_lines max (suc n) l = answer_line max l ++ answer_lines max n (drop answer_size l)

-- the first line, the last line, and the only line of a refusal
unfoldable pub board_line : State → List ℕ
board_line s =
    cpus_word ++ decimal_of (cpu_count_of s) ++ domains_word ++ decimal_of (domain_count_of s) ++ levels_word ++ decimal_of (max_at s)
    ++ newline ∷ []

unfoldable pub end_line : ℕ → Code → List ℕ
end_line events k = end_word ++ decimal_of events ++ space ∷ signed_text_of (number_of k) ++ newline ∷ []

unfoldable pub refused_line : Code → List ℕ
refused_line k = refused_word ++ signed_text_of (number_of k) ++ newline ∷ []

-- a run on a board
abbrev pub run_text : State → Run → List ℕ
run_text s r =
    board_line s ++ answer_lines (max_at s) r.answer.events r.bytes ++ end_line r.answer.events r.answer.closing

-- the run of a script, with room for the answers to all its events
abbrev pub script_run_of : List ℕ → Run
script_run_of input = run_of event_limit answer_room (drop (start_of input).next input) 0 (start_of input).state

-- what is printed for an input
unfoldable pub printed_of : List ℕ → List ℕ
printed_of input =
    cond (ltb input_limit (length input)) (refused_line (Err code.NoRoom))
    (cond (acceptedb (start_of input).code) (run_text (start_of input).state (script_run_of input))
    (refused_line (start_of input).code))
