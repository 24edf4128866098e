-- docs/REFERENCE.md, 'Spans'.
use Rattle.std.specs.Prelude.{ℕ, suc, Bool, cond, not, ◌&&◌, ◌||◌, leb, ltb, eqb}
use Rattle.model.specs.declared.node.Span.{Span}
use Rattle.model.specs.Minimum.{minimum_of}

-- from start on, and before end
abbrev pub from_tob : ℕ → ℕ → ℕ → Bool
from_tob start end i = leb start i && ltb i end

-- the same, but for one number
abbrev pub from_to_withoutb : ℕ → ℕ → ℕ → ℕ → Bool
from_to_withoutb start end one i = from_tob start end i && not (eqb i one)

-- the numbers of a span
abbrev pub in_spanb : Span → ℕ → Bool
in_spanb s = from_tob s.start s.end

-- the numbers of a span but for one
abbrev pub in_span_withoutb : Span → ℕ → ℕ → Bool
in_span_withoutb s = from_to_withoutb s.start s.end

-- the shallowest state of a span's numbers; OFF where there is none
abbrev pub span_minimum_of : Span → (ℕ → ℕ) → ℕ → ℕ
span_minimum_of s = minimum_of s.end (in_spanb s)

-- the same, but for one number
abbrev pub span_minimum_without_of : Span → ℕ → (ℕ → ℕ) → ℕ → ℕ
span_minimum_without_of s one = minimum_of s.end (in_span_withoutb s one)

-- a span with no number
abbrev pub empty_span : Span
empty_span = record { start = 0; end = 0 }

-- the span has no number
abbrev pub emptyb : Span → Bool
emptyb s = leb s.end s.start

-- the span ends within its table
abbrev pub withinb : ℕ → Span → Bool
withinb table s = leb s.end table

-- the number is in the span, and the span within its table
abbrev pub holdsb : ℕ → Span → ℕ → Bool
holdsb table s i = withinb table s && in_spanb s i

-- a span within its table grows by the next number, and an empty one by any number of the table
abbrev pub growsb : ℕ → Span → ℕ → Bool
growsb table s i = withinb table s && ltb i table && (emptyb s || eqb i s.end)

-- the span grown by that number
abbrev pub grown_of : Span → ℕ → Span
grown_of s i = record { start = cond (emptyb s) i s.start; end = suc i }
