-- What a line ends with, in bytes.
use Rattle.std.specs.Prelude.{ℕ, List, [], ◌∷◌}

abbrev pub yes : List ℕ
yes = 121 ∷ 101 ∷ 115 ∷ []

abbrev pub no : List ℕ
no = 110 ∷ 111 ∷ []
