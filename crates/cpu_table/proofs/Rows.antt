-- A table of records that is taken apart into rows.
use Rattle.std.specs.Prelude.{Option, None, Some}
use Prim.Native.Nat.{ℕ, ◌+◌, ◌<◌}
use mathlib.Core.List.{List}
use mathlib.Core.Path.{◌≡◌, refl, sym, ap, subst, ◌∙◌}
use native.Mathlib.Omega.{arith}
use lib.ListN.{length, get_or, set, replicate}
use lib.Seq.{ext_get_or}
use Rattle.image.specs.Image.{entry_in}
use Rattle.model.proofs.Tables.{filled_turn, length_table, table_at}
use Rattle.model.specs.Limits.{cpu_limit}
use Rattle.model.specs.State.{no_cpu}
use Rattle.model.specs.Table.{filled_of}
use Rattle.model.specs.declared.cpu.CpuPowerNode.{CpuPowerNode}
use Rattle.model.specs.declared.cpu.EntryPoint.{EntryPoint}
use Rattle.cpu_table.proofs.Records.{affinity_back, cpu_below}
use Rattle.cpu_table.specs.declared.CpuRows.{CpuRows}
use Rattle.cpu_table.specs.CpuTable.{Lengths, address_in, affinity_byte, context_in, cpu_in, cpus_in, cpu_table, held_byte, rows_of, rows_to, row_to}

-- three numbers stand for the entry that they are of
entry_back : (e : Option EntryPoint) → entry_in (held_byte e) (address_in e) (context_in e) ≡ e
entry_back None = refl
entry_back (Some e) = refl

-- the rows after every number of a record is stored
abbrev pub put_in : CpuRows → ℕ → CpuPowerNode → CpuRows
put_in x c r = cpu_table
    (set x.firsts c r.parent.0)
    (set x.affinities c (affinity_byte r.affinity_info))
    (set x.locals c r.local_state)
    (set x.helds c (held_byte r.entry_point))
    (set x.addresses c (address_in r.entry_point))
    (set x.contexts c (context_in r.entry_point))

module _ (cpus : List CpuPowerNode) where
  -- a row has a place for each CPU
  row_length : (n : ℕ) (number : CpuPowerNode → ℕ) → length (row_to cpus n number) ≡ cpu_limit
  row_length n number = length_table cpu_limit 0 (λ (c : ℕ). number (get_or cpus c no_cpu)) n

  pub rows_lengths : (n : ℕ) → Lengths (rows_to cpus n)
  rows_lengths n = record {
    firsts = row_length n (λ r. r.parent.0);
    affinities = row_length n (λ r. affinity_byte r.affinity_info);
    locals = row_length n (λ r. r.local_state);
    helds = row_length n (λ r. held_byte r.entry_point);
    addresses = row_length n (λ r. address_in r.entry_point);
    contexts = row_length n (λ r. context_in r.entry_point);
  }

  -- the rows that a walk has come to have their lengths
  abbrev pub Walked : ℕ → CpuRows → Type 0
  Walked n x = Lengths x × (x ≡ rows_to cpus n)

  pub walked : (n : ℕ) {x : CpuRows} → x ≡ rows_to cpus n → Walked n x
  walked n e = (subst Lengths (sym e) (rows_lengths n), e)

  -- a walk starts with rows of zeros
  pub rows_none : (zeros : List ℕ) → zeros ≡ replicate cpu_limit 0 → cpu_table zeros zeros zeros zeros zeros zeros ≡ rows_to cpus 0
  unfolding filled_of
  rows_none zeros e = ap (λ (z : List ℕ). cpu_table z z z z z z) e

  row_next : (n : ℕ) (number : CpuPowerNode → ℕ) → set (row_to cpus n number) n (number (get_or cpus n no_cpu)) ≡ row_to cpus (n + 1) number
  row_next n number =
      filled_turn (λ (c : ℕ). number (get_or cpus c no_cpu)) (replicate cpu_limit 0) n (row_to cpus n number) _ (number (get_or cpus n no_cpu))
      refl refl refl

  -- and sets one place more
  pub rows_next : (n : ℕ) {x : CpuRows} → x ≡ rows_to cpus n → put_in x n (get_or cpus n no_cpu) ≡ rows_to cpus (n + 1)
  rows_next n e = ap (λ (y : CpuRows). put_in y n (get_or cpus n no_cpu)) e ∙ rw (
    row_next n (λ r. r.parent.0),
    row_next n (λ r. affinity_byte r.affinity_info),
    row_next n (λ r. r.local_state),
    row_next n (λ r. held_byte r.entry_point),
    row_next n (λ r. address_in r.entry_point),
    row_next n (λ r. context_in r.entry_point),
  )

  -- a number of a record stands in its row
  row_at : (number : CpuPowerNode → ℕ) (c : ℕ) → c < cpu_limit → get_or (row_to cpus cpu_limit number) c 0 ≡ number (get_or cpus c no_cpu)
  row_at number c h = table_at cpu_limit 0 (λ (i : ℕ). number (get_or cpus i no_cpu)) cpu_limit c 0 h h

  -- of the rows each record is read
  pub rows_in : (c : ℕ) → c < cpu_limit → cpu_in (rows_of cpus) c ≡ get_or cpus c no_cpu
  rows_in c h = rw (
    row_at (λ r. r.parent.0) c h,
    row_at (λ r. affinity_byte r.affinity_info) c h,
    row_at (λ r. r.local_state) c h,
    row_at (λ r. held_byte r.entry_point) c h,
    row_at (λ r. address_in r.entry_point) c h,
    row_at (λ r. context_in r.entry_point) c h,
    affinity_back (get_or cpus c no_cpu).affinity_info,
    entry_back (get_or cpus c no_cpu).entry_point,
  )

  -- so they stand for the table
  pub table_of_rows : length cpus ≡ cpu_limit → cpus_in (rows_of cpus) ≡ cpus
  table_of_rows l =
      let long = length_table cpu_limit no_cpu (cpu_in (rows_of cpus)) cpu_limit in
      ext_get_or no_cpu (cpus_in (rows_of cpus)) cpus (long ∙ sym l)
      (λ i h. let k : i < cpu_limit = omega (arith, h, long) in cpu_below (rows_of cpus) i k ∙ rows_in i k)
