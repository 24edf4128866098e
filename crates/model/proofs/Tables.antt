-- Rows whose places from one on are set, and tables: a walk that sets them, and what stands in them.
use Prim.Native.Nat.{ℕ, zero, suc, ◌+◌, ◌<◌, ◌≤◌}
use mathlib.Core.List.{List}
use mathlib.Core.Path.{◌≡◌, refl, sym, ap, ◌∙◌}
use native.Mathlib.Numerals.{add-one}
use native.Mathlib.Omega.{arith}
use borrow.Author.Tests.{eqb-true, eqb-false}
use lib.Dec.{eqb}
use lib.ListN.{length, get_or, set, replicate, length-set, length-replicate, get_or-replicate}
use lib.Seq.{get_or-set_same, get_or-set_other}
use Rattle.basics.proofs.Tests.{by}
use Rattle.model.specs.Table.{filled_of, table_of}

module _ {A : Type 0} (value : ℕ → A) (start : ℕ) where
  -- a walk starts with the row as it is, and sets one place more
  pub filled_none : (row : List A) → row ≡ filled_of value start 0 row
  unfolding filled_of
  filled_none row = refl

  pub filled_next : (n : ℕ) (row : List A) → filled_of value start (n + 1) row ≡ set (filled_of value start n row) (start + n) (value n)
  unfolding filled_of
  filled_next n row = rw add-one

  -- the row stays as long as it was
  pub length_filled : (n : ℕ) (row : List A) → length (filled_of value start n row) ≡ length row
  unfolding filled_of
  length_filled zero row = refl
  length_filled (suc n) row = length-set (filled_of value start n row) (start + n) (value n) ∙ length_filled n row

  -- each place that was set holds its value
  pub filled_at : (n i : ℕ) (row : List A) (d : A) → i < n → start + i < length row →
      get_or (filled_of value start n row) (start + i) d ≡ value i
  unfolding filled_of
  filled_at zero i row d h k = absurd (omega arith)
  filled_at (suc n) i row d h k =
      by (eqb i n)
      (λ t. let e = eqb-true i n t in
      rw e (get_or-set_same (filled_of value start n row) (start + n) (value n) d (omega (arith, length_filled n row, e))))
      (λ t. let e = eqb-false i n t in
      get_or-set_other (filled_of value start n row) (start + n) (start + i) (value n) d (λ z. e (omega (arith, z)))
      ∙ filled_at n i row d (omega (arith, e)) k)

  -- a place before them is as it was
  pub filled_before : (n j : ℕ) (row : List A) (d : A) → j < start → get_or (filled_of value start n row) j d ≡ get_or row j d
  unfolding filled_of
  filled_before zero j row d h = refl
  filled_before (suc n) j row d h =
      get_or-set_other (filled_of value start n row) (start + n) j (value n) d (λ z. omega (arith, z)) ∙ filled_before n j row d h

  -- a place past them is as it was
  pub filled_past : (n j : ℕ) (row : List A) (d : A) → start + n ≤ j → get_or (filled_of value start n row) j d ≡ get_or row j d
  unfolding filled_of
  filled_past zero j row d h = refl
  filled_past (suc n) j row d h =
      get_or-set_other (filled_of value start n row) (start + n) j (value n) d (λ z. omega (arith, z))
      ∙ filled_past n j row d (omega arith)

-- so it is in a walk from the row's start
pub filled_turn : {A : Type 0} (value : ℕ → A) (nothing : List A) (n : ℕ) (row after : List A) (v : A) → row ≡ filled_of value 0 n nothing →
    v ≡ value n → after ≡ set row n v → after ≡ filled_of value 0 (n + 1) nothing
filled_turn value nothing n row after v was is put =
    let z : 0 + n ≡ n = omega arith in rw (put, was, is, filled_next value 0 n nothing, z)

module _ {A : Type 0} (slots : ℕ) (nothing : A) (value : ℕ → A) (n : ℕ) where
  -- a table has as many places as it has slots
  pub length_table : length (table_of slots nothing value n) ≡ slots
  length_table = length_filled value 0 n (replicate slots nothing) ∙ length-replicate slots nothing

  -- each place in use holds its value
  pub table_at : (i : ℕ) (d : A) → i < n → i < slots → get_or (table_of slots nothing value n) i d ≡ value i
  table_at i d h k =
      let z : 0 + i ≡ i = omega arith in
      ap (λ (j : ℕ). get_or (table_of slots nothing value n) j d) (sym z)
      ∙ filled_at value 0 n i (replicate slots nothing) d h (omega (arith, length-replicate slots nothing))

  -- the others hold nothing
  pub table_past : (i : ℕ) (d : A) → n ≤ i → i < slots → get_or (table_of slots nothing value n) i d ≡ nothing
  table_past i d h k =
      filled_past value 0 n i (replicate slots nothing) d (omega arith) ∙ get_or-replicate slots i nothing d k
