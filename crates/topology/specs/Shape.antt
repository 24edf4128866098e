-- A topology as clauses see it.
use Rattle.std.specs.Prelude.{ℕ, List}

-- the entries, and the platform's MAX
pub record Shape : Type 0 where
  pub entries : List ℕ
  pub max : ℕ
