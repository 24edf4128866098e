-- Bytes that are put into a text.
use Rattle.std.specs.Prelude.{ℕ, ◌+◌, ◌≤◌, List, ◌≡◌, length}
use Rattle.std.proofs.lemmas.List.Edits.{sets}

-- bytes are put into a text from a place on, and the next place follows them; what is past the text's end is dropped
pub record Put (before : List ℕ) (place : ℕ) (bytes after : List ℕ) (end : ℕ) : Type 0 where
  pub text : after ≡ sets before place bytes
  pub next : end ≡ place + length bytes

-- a place that is so many bytes further on is still a usize
abbrev pub Within : ℕ → ℕ → Type 0
Within place n = place + n ≤ 18446744073709551615

-- the most bytes of the states of 256 levels, and of the line of an answer record
abbrev pub states_most : ℕ
states_most = 2816

abbrev pub line_most : ℕ
line_most = 2839
