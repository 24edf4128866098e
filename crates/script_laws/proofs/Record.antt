-- What holds of whatever is read: an event's record lies within the input, and so does the board's.
use Prim.Native.Nat.{ℕ, ◌+◌, ◌-◌, ◌<◌, ◌≤◌}
use mathlib.Core.Bool.{Bool, true, ◌&&◌, and-eq-true_iff}
use mathlib.Core.List.{List, [], ◌∷◌}
use mathlib.Core.Path.{◌≡◌, refl, sym, ap, subst, ◌∙◌}
use native.Mathlib.Omega.{arith}
use borrow.Author.Tests.{eq-eqb, eqb-true, leb-true, ltb-false}
use denote.Enum.Declared.{tag_of}
use lib.Dec.{eqb, leb}
use lib.ListN.{length, take, drop}
use types.Run.{OneOf, miss}
use Rattle.basics.proofs.Tests.{cond_rule}
use Rattle.model.specs.Numbers.{usableb}
use Rattle.model.specs.declared.call.Call.{Call}
use Rattle.model.specs.declared.sorts.CpuNumber.{CpuNumber}
use Rattle.model.specs.declared.states.Platform.{Platform}
use Rattle.script.specs.contracts.record.Read as read-type
use Rattle.script.specs.declared.record.Read.{Read}
use Rattle.script.specs.declared.record.Read.TheVariants as read
use Rattle.std.specs.Prelude.{Option, None, Some}
use Rattle.script.specs.declared.record.BoardRecord.{BoardRecord}
use Rattle.script.specs.Bytes.{byte_at}
use Rattle.script.specs.Record.{board_recordb, boot_in, cutb, emptyb, event_if, finish_in, flagb, isb, kind_in, off_in, on_in}
use Rattle.script.specs.Record.{read_board_of, read_of, record_of, set_mode_in, size_in, states_in, suspend_in, system_suspend_in}
use Rattle.script.specs.Record.{topology_place, zero_aboveb}
use Rattle.script_laws.proofs.Parts.{all_left}

-- a record of this kind has this length
sized : (l : List ℕ) (kind size : ℕ) → isb l kind size ≡ true → size_in l ≡ size
sized l kind size h = eqb-true _ _ ((and-eq-true_iff (eqb (kind_in l) kind) (eqb (size_in l) size)).0 h).1

module _ (l : List ℕ) where
  -- an event's record has five bytes at least and is not cut; at the end nothing is left
  abbrev Within : Read → Type 0
  Within read.End = length l ≡ 0
  Within (read.Event c next) = (5 ≤ next) × (next ≤ length l)
  Within read.Malformed = Unit

  module _ (fits : size_in l ≤ length l) where
    -- so a record of a kind lies within, if the kind's length is five at least
    known : (kind size : ℕ) → isb l kind size ≡ true → 5 ≤ size → (5 ≤ size_in l) × (size_in l ≤ length l)
    known kind size h some = let long = sized l kind size h in (omega arith, fits)

    event : (good : Bool) (c : Call) → (5 ≤ size_in l) × (size_in l ≤ length l) → Within (event_if good c l)
    event good c h = cond_rule Within good (λ _. h) (λ _. tt)

    record_within : (max : ℕ) → Within (record_of max l)
    unfolding record_of on_in off_in suspend_in finish_in boot_in system_suspend_in set_mode_in
    record_within max =
        cond_rule Within (isb l 1 24) (λ h. event (flagb l 22 && usableb (byte_at l 23)) _ (known 1 24 h (omega arith)))
        (λ _. cond_rule Within (isb l 2 6) (λ h. event (usableb (byte_at l 5)) _ (known 2 6 h (omega arith)))
        (λ _. cond_rule Within (isb l 3 26)
        (λ h. event (flagb l 5 && zero_aboveb max (states_in l 22)) _ (known 3 26 h (omega arith)))
        (λ _. cond_rule Within (isb l 4 5) (λ h. known 4 5 h (omega arith))
        (λ _. cond_rule Within (isb l 5 5) (λ h. known 5 5 h (omega arith))
        (λ _. cond_rule Within (isb l 6 28)
        (λ h. event (flagb l 5 && flagb l 6 && flagb l 7 && zero_aboveb max (states_in l 24)) _ (known 6 28 h (omega arith)))
        (λ _. cond_rule Within (isb l 7 7) (λ h. event (flagb l 5 && flagb l 6) _ (known 7 7 h (omega arith)))
        (λ _. tt)))))))

  within : (max : ℕ) → Within (read_of max l)
  unfolding read_of
  within max =
      cond_rule Within (emptyb l) (λ h. eqb-true (length l) 0 h)
      (λ _. cond_rule Within (cutb l) (λ _. tt) (λ h. record_within (ltb-false _ _ h) max))

-- where nothing is left, the end is read
pub read_end : (max : ℕ) (l : List ℕ) → length l ≡ 0 → read_of max l ≡ read.End
unfolding read_of
read_end max l h = simp (eq-eqb _ _ h)

-- an event's record has five bytes at least, and the next one starts within the input or at its end
pub read_within : (max : ℕ) (l : List ℕ) (c : Call) (next : ℕ) → read_of max l ≡ read.Event c next →
    (5 ≤ next) × (next ≤ length l)
read_within max l c next e = subst (Within l) e (within l max)

-- where something is left and no event is read, it is 108
pub read_some : (max : ℕ) (l : List ℕ) → 0 < length l → (x : Read) → x ≡ read_of max l →
    OneOf (0 ∷ 2 ∷ []) (tag_of read-type.the_type x) → x ≡ read.Malformed
read_some max l some read.End e h =
    let nothing : length l ≡ 0 = subst (Within l) (sym e) (within l max) in
    absurd (omega arith)
read_some max l some (read.Event c next) e h = absurd (miss (0 ∷ 2 ∷ []) 1 tt h)
read_some max l some read.Malformed e h = refl

-- stray bytes are a cut record
pub read_short : (max : ℕ) (l : List ℕ) → 0 < length l → length l < 5 → read_of max l ≡ read.Malformed
read_short max l some short = by (read_of max l) refl
  where
    by : (x : Read) → read_of max l ≡ x → read_of max l ≡ read.Malformed
    by read.End e = let nothing : length l ≡ 0 = subst (Within l) e (within l max) in absurd (omega arith)
    by (read.Event c next) e = let h = read_within max l c next e in absurd (omega (arith, h.0, h.1))
    by read.Malformed e = e

-- what is read in the part from a place on is what is read in all that is left
pub read_left : (max at : ℕ) (l : List ℕ) {x : Read} → x ≡ read_of max (take (length l - at) (drop at l)) →
    read_of max (drop at l) ≡ x
read_left max at l e = sym (e ∙ ap (read_of max) (all_left at l))

module _ (l : List ℕ) where
  -- a board's record holds what stands before the topology, and is not cut
  abbrev BoardWithin : Option BoardRecord → Type 0
  BoardWithin (Some b) = (topology_place ≤ b.next) × (b.next ≤ length l)
  BoardWithin None = Unit

  read_board_within : BoardWithin (read_board_of l)
  unfolding read_board_of
  read_board_within =
      cond_rule BoardWithin (board_recordb l)
      (λ h.
      let parts = (and-eq-true_iff (isb l 16 (topology_place + byte_at l 8)) (leb (size_in l) (length l))).0 h in
      let long = sized l 16 (topology_place + byte_at l 8) parts.0 in
      let fits = leb-true _ _ parts.1 in
      (omega arith, fits))
      (λ _. tt)

-- the record after the board starts at the topology's place or after it, within the input or at its end
pub board_within : (l : List ℕ) (b : BoardRecord) → read_board_of l ≡ Some b → (topology_place ≤ b.next) × (b.next ≤ length l)
board_within l b e = subst (BoardWithin l) e (read_board_within l)
