-- No two answers share a number.
use Prim.Native.Nat.{zero, suc, ◌-◌}
use mathlib.Core.List.{List, [], ◌∷◌}
use mathlib.Core.Path.{◌≡◌, refl, sym, ap, ◌∙◌}
use lib.IntN.{ℤ, pos, negsuc}
use lib.ListN.{get_or}
use Rattle.std.specs.Prelude.{Ok, Err}
use Rattle.model.specs.declared.code.Refusal.{Refusal}
use Rattle.model.specs.declared.code.Refusal.TheVariants as code
use Rattle.model.specs.Numbers.{Code, number_of, errors}

-- the port's own answers, from 101
own : List Refusal
own =
    code.BadBoard
    ∷ code.NotSound
    ∷ code.NoCaller
    ∷ code.NotRunning
    ∷ code.NotDue
    ∷ code.Unusable
    ∷ code.OsInitiated
    ∷ code.Malformed
    ∷ code.Outside
    ∷ code.NoRoom
    ∷ code.SuspendBesideRequest
    ∷ code.BudgetSpent
    ∷ []

-- the answer that has a number
named : ℤ → Code
named (pos zero) = Ok tt
named (pos (suc n)) = Err (get_or own (n - 100) code.BudgetSpent)
named (negsuc n) = Err (get_or errors n code.BudgetSpent)

named_number : (k : Code) → named (number_of k) ≡ k
unfolding named own
named_number (Ok _) = refl
named_number (Err code.NotSupported) = refl
named_number (Err code.InvalidParameters) = refl
named_number (Err code.Denied) = refl
named_number (Err code.AlreadyOn) = refl
named_number (Err code.OnPending) = refl
named_number (Err code.InternalFailure) = refl
named_number (Err code.NotPresent) = refl
named_number (Err code.Disabled) = refl
named_number (Err code.InvalidAddress) = refl
named_number (Err code.BadBoard) = refl
named_number (Err code.NotSound) = refl
named_number (Err code.NoCaller) = refl
named_number (Err code.NotRunning) = refl
named_number (Err code.NotDue) = refl
named_number (Err code.Unusable) = refl
named_number (Err code.OsInitiated) = refl
named_number (Err code.Malformed) = refl
named_number (Err code.Outside) = refl
named_number (Err code.NoRoom) = refl
named_number (Err code.SuspendBesideRequest) = refl
named_number (Err code.BudgetSpent) = refl

-- answers of one number are one answer
pub number_tells : (a b : Code) → number_of a ≡ number_of b → a ≡ b
number_tells a b e = sym (named_number a) ∙ ap named e ∙ named_number b
