-- A table by level and CPU that is filled level by level, and a part of a row that is filled.
use Prim.Native.Nat.{ℕ, ◌+◌, ◌-◌, ◌*◌, ◌<◌, min}
use mathlib.Core.List.{List, ◌++◌}
use mathlib.Core.Path.{◌≡◌, refl, sym, ap, ◌∙◌}
use native.Mathlib.Numerals.{add-one}
use native.Mathlib.Omega.{arith}
use borrow.Rule.Slice.PartMut.{put_mid, same_len_mid}
use lib.ListN.{length, get_or, take, drop, replicate, length-drop, length-replicate, get_or-append, get_or-replicate}
use lib.Seq.{ext_get_or, length-take-le, get_or-append-add, get_or-take, get_or-drop}
use Rattle.basics.proofs.Tests.{below_or}
use Rattle.model.proofs.Tables.{filled_at, filled_before, filled_past, length_filled}
use Rattle.model.specs.Limits.{cpu_limit, request_slots}
use Rattle.model.specs.Table.{filled_of, levels_filled_of}

module _ (v cpus : ℕ) where
  -- no level is filled yet
  pub levels_none : levels_filled_of v cpus 0 ≡ replicate request_slots 0
  unfolding levels_filled_of
  levels_none = refl

  -- one level more
  pub levels_next : (n : ℕ) → levels_filled_of v cpus (n + 1) ≡ filled_of (λ _. v) (n * cpu_limit) cpus (levels_filled_of v cpus n)
  unfolding levels_filled_of
  levels_next n = rw add-one

-- A part of a row that is filled: the row's places from a start on are, as far as the row goes.
module _ (row ys : List ℕ) (start n v from part : ℕ) (is_from : from ≡ min start (length row)) (is_part : part ≡ min n (length row - from))
    (is_filled : ys ≡ replicate part v) where
  front : length (take from row) ≡ from
  front = length-take-le from row (omega (arith, is_from))

  many : length ys ≡ part
  many = ap length is_filled ∙ length-replicate part v

  long : length (put_mid from part row ys) ≡ length row
  long = same_len_mid from part row ys
      (many ∙ sym (length-take-le part (drop from row) (omega (arith, length-drop from row, is_from, is_part))))

  -- a place that is before the part, in it, and past it
  before_at : (i : ℕ) → i < from → get_or (put_mid from part row ys) i 0 ≡ get_or row i 0
  before_at i h = get_or-append (take from row) _ 0 i (omega (arith, h, front)) ∙ get_or-take from row i 0 h

  in_at : (i : ℕ) → i < part → get_or (put_mid from part row ys) (from + i) 0 ≡ v
  in_at i h =
      ap (λ (k : ℕ). get_or (put_mid from part row ys) (k + i) 0) (sym front)
      ∙ get_or-append-add (take from row) (ys ++ drop part (drop from row)) i 0
      ∙ get_or-append ys _ 0 i (omega (arith, h, many))
      ∙ ap (λ (l : List ℕ). get_or l i 0) is_filled ∙ get_or-replicate part i v 0 h

  past_at : (i : ℕ) → get_or (put_mid from part row ys) (from + (part + i)) 0 ≡ get_or row (from + (part + i)) 0
  past_at i =
      ap (λ (k : ℕ). get_or (put_mid from part row ys) (k + (part + i)) 0) (sym front)
      ∙ get_or-append-add (take from row) (ys ++ drop part (drop from row)) (part + i) 0
      ∙ ap (λ (k : ℕ). get_or (ys ++ drop part (drop from row)) (k + i) 0) (sym many)
      ∙ get_or-append-add ys (drop part (drop from row)) i 0
      ∙ get_or-drop part (drop from row) i 0 ∙ get_or-drop from row (part + i) 0

  pub part_filled : put_mid from part row ys ≡ filled_of (λ _. v) start n row
  part_filled =
      let same = λ (i j : ℕ) (e : i ≡ j) (l : List ℕ). ap (λ (k : ℕ). get_or l k 0) e in
      ext_get_or 0 (put_mid from part row ys) (filled_of (λ _. v) start n row) (long ∙ sym (length_filled (λ _. v) start n row))
      (λ i h. below_or i start
      (λ b. before_at i (omega (arith, h, long, b, is_from)) ∙ sym (filled_before (λ _. v) start n i row 0 b))
      (λ s. let f : from ≡ start = omega (arith, s, h, long, is_from) in
      below_or i (start + n)
      (λ b. same i (from + (i - start)) (omega (arith, s, f)) (put_mid from part row ys)
      ∙ in_at (i - start) (omega (arith, s, b, f, h, long, is_part))
      ∙ sym (filled_at (λ _. v) start n (i - start) row 0 (omega (arith, s, b)) (omega (arith, s, h, long)))
      ∙ same (start + (i - start)) i (omega (arith, s)) (filled_of (λ _. v) start n row))
      (λ p. let z : i ≡ from + (part + (i - from - part)) = omega (arith, s, p, f, is_part) in
      same i (from + (part + (i - from - part))) z (put_mid from part row ys)
      ∙ past_at (i - from - part) ∙ same (from + (part + (i - from - part))) i (sym z) row
      ∙ sym (filled_past (λ _. v) start n i row 0 p))))
