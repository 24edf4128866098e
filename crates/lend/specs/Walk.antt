-- What a walk's answer has to say.
use Rattle.std.specs.Prelude.{ℕ, ◌+◌, ◌<◌, ◌≡◌, Bool, true, false, List, get_or}

-- g says whether the first n of a row pass: none need, one more passes after those before it, and one that fails ends it
pub record SaysEvery {S : Type 0} (d : S) (p : S → Bool) (g : List S → ℕ → Bool) : Type 0 where
  pub none : (l : List S) → g l 0 ≡ true
  pub pass : (l : List S) (i : ℕ) → g l i ≡ true → p (get_or l i d) ≡ true → g l (i + 1) ≡ true
  pub fail : (l : List S) (n i : ℕ) → i < n → p (get_or l i d) ≡ false → g l n ≡ false

-- the same of a test that takes the place and a value besides
pub record SaysEveryWith {S Q : Type 0} (d : S) (p : S → ℕ → Q → Bool) (g : List S → ℕ → Q → Bool) : Type 0 where
  pub none : (l : List S) (x : Q) → g l 0 x ≡ true
  pub pass : (l : List S) (x : Q) (i : ℕ) → g l i x ≡ true → p (get_or l i d) i x ≡ true → g l (i + 1) x ≡ true
  pub fail : (l : List S) (n : ℕ) (x : Q) (i : ℕ) → i < n → p (get_or l i d) i x ≡ false → g l n x ≡ false
