-- An answer record, and where it is written.
use Prim.Native.Nat.{ℕ, ◌<◌, ◌≤◌}
use mathlib.Core.List.{List, ◌++◌}
use mathlib.Core.Path.{◌≡◌, refl}
use native.Mathlib.Omega.{arith}
use borrow.Author.Tests.{lt-ltb, le-ltb}
use lib.ListN.{length, drop}
use Rattle.std.specs.Prelude.{Ok, Err}
use Rattle.model.specs.Numbers.{Code, number_of, signed_of}
use Rattle.model.specs.declared.code.Refusal.TheVariants as code
use Rattle.model.specs.declared.states.CompositeState.{CompositeState}
use Rattle.script.specs.AnswerRecord.{answer_size, answer_bytes, onto}
use Rattle.script.specs.Bytes.{byte_at, number_at, bytes_of, signed_byte_of}

-- a record has the length that its first bytes say
pub answer_length : (n : ℕ) (k : Code) (states : CompositeState) → length (answer_bytes n k states) ≡ answer_size
unfolding answer_bytes bytes_of
answer_length n k states = refl

-- where there is no room, nothing is written
pub onto_full : (l m : List ℕ) → length l < answer_size → onto l m ≡ l
unfolding onto
onto_full l m h = simp (lt-ltb _ _ h)

-- where there is room, the record is followed by what stood there
pub onto_room : (l m : List ℕ) → answer_size ≤ length l → onto l m ≡ m ++ drop answer_size l
unfolding onto
onto_room l m h = simp (le-ltb _ _ h)

-- the byte of a code, read with its sign, is the code's number: a negative one stays negative
pub code_signed : (k : Code) → signed_of (signed_byte_of (number_of k)) ≡ number_of k
code_signed (Ok _) = refl
code_signed (Err code.NotSupported) = refl
code_signed (Err code.InvalidParameters) = refl
code_signed (Err code.Denied) = refl
code_signed (Err code.AlreadyOn) = refl
code_signed (Err code.OnPending) = refl
code_signed (Err code.InternalFailure) = refl
code_signed (Err code.NotPresent) = refl
code_signed (Err code.Disabled) = refl
code_signed (Err code.InvalidAddress) = refl
code_signed (Err code.BadBoard) = refl
code_signed (Err code.NotSound) = refl
code_signed (Err code.NoCaller) = refl
code_signed (Err code.NotRunning) = refl
code_signed (Err code.NotDue) = refl
code_signed (Err code.Unusable) = refl
code_signed (Err code.OsInitiated) = refl
code_signed (Err code.Malformed) = refl
code_signed (Err code.Outside) = refl
code_signed (Err code.NoRoom) = refl
code_signed (Err code.SuspendBesideRequest) = refl
code_signed (Err code.BudgetSpent) = refl

module _ (n : ℕ) (k : Code) (states : CompositeState) where
  -- the event's number is read back
  pub number_reads : n < 4294967296 → number_at 4 (answer_bytes n k states) 4 ≡ n
  unfolding answer_bytes bytes_of number_at
  number_reads h = omega arith

  -- the code is read back, with its sign
  pub code_reads : signed_of (byte_at (answer_bytes n k states) 8) ≡ number_of k
  unfolding answer_bytes bytes_of
  code_reads = code_signed k
