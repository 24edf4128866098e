-- docs/REFERENCE.md, 'Numbers given back'. 0 to -9 are DEN0022's, 'Return error codes'.
use Rattle.std.specs.Prelude.{ℕ, zero, suc, ◌-◌, Bool, true, false, cond, List, [], ◌∷◌, ltb, ℤ, pos, negsuc, neg_ℤ, get_or, length, map, ⊤, Result, Ok, Err, is_ok}
use Rattle.model.specs.declared.code.Refusal.{Refusal}
use Rattle.model.specs.declared.code.Refusal.TheVariants as code

-- what a call gives back: it is accepted, or why not
abbrev pub Code : Type 0
Code = Result ⊤ Refusal

-- minus n
abbrev pub minus : ℕ → ℤ
minus n = neg_ℤ (pos n)

-- the number of each answer
abbrev pub number_of : Code → ℤ
number_of (Ok _) = pos 0
number_of (Err code.NotSupported) = minus 1
number_of (Err code.InvalidParameters) = minus 2
number_of (Err code.Denied) = minus 3
number_of (Err code.AlreadyOn) = minus 4
number_of (Err code.OnPending) = minus 5
number_of (Err code.InternalFailure) = minus 6
number_of (Err code.NotPresent) = minus 7
number_of (Err code.Disabled) = minus 8
number_of (Err code.InvalidAddress) = minus 9
number_of (Err code.BadBoard) = pos 101
number_of (Err code.NotSound) = pos 102
number_of (Err code.NoCaller) = pos 103
number_of (Err code.NotRunning) = pos 104
number_of (Err code.NotDue) = pos 105
number_of (Err code.Unusable) = pos 106
number_of (Err code.OsInitiated) = pos 107
number_of (Err code.Malformed) = pos 108
number_of (Err code.Outside) = pos 109
number_of (Err code.NoRoom) = pos 110
number_of (Err code.SuspendBesideRequest) = pos 111
number_of (Err code.BudgetSpent) = pos 112

-- the answer is that the call is accepted
abbrev pub acceptedb : Code → Bool
acceptedb k = is_ok k

-- a byte as a signed number: FEh is -2
abbrev pub signed_of : ℕ → ℤ
signed_of b = cond (ltb b 128) (pos b) (minus (256 - b))

-- DEN0022's errors, from -1 to -9
abbrev pub errors : List Refusal
errors =
    code.NotSupported
    ∷ code.InvalidParameters
    ∷ code.Denied
    ∷ code.AlreadyOn
    ∷ code.OnPending
    ∷ code.InternalFailure
    ∷ code.NotPresent
    ∷ code.Disabled
    ∷ code.InvalidAddress
    ∷ []

-- the answer that a signed number is: 0, an error of -1 to -9, or nothing that can be used
abbrev pub answer_of_number : ℤ → Code
answer_of_number (pos zero) = Ok tt
answer_of_number (pos (suc n)) = Err code.Unusable
answer_of_number (negsuc n) = Err (get_or errors n code.Unusable)

-- a signed number is an answer: 0, or an error of -1 to -9
abbrev pub usable_numberb : ℤ → Bool
usable_numberb (pos zero) = true
usable_numberb (pos (suc n)) = false
usable_numberb (negsuc n) = ltb n (length errors)

-- a byte is a platform's answer
abbrev pub usableb : ℕ → Bool
usableb b = usable_numberb (signed_of b)

-- the platform's answer that a byte is
abbrev pub answer_of : ℕ → Code
answer_of b = answer_of_number (signed_of b)
