-- The tests on the row of affinities are those on the records.
use Prim.Native.Nat.{ℕ, zero, suc}
use mathlib.Core.Bool.{Bool, true, false, cond, ◌||◌}
use mathlib.Core.Path.{◌≡◌, refl, sym, ap, ◌∙◌, fun_ext}
use native.Mathlib.Omega.{arith}
use borrow.Author.Tests.{ne_eqb}
use lib.Dec.{eqb}
use lib.ListN.{get_or, length}
use Rattle.image.specs.Image.{affinity_in}
use Rattle.model.specs.Below.{every}
use Rattle.model.specs.Cpu.{offb, onb}
use Rattle.model.specs.Limits.{cpu_limit}
use Rattle.model.specs.StateQuery.{all_on_in, others_off_in}
use Rattle.model.specs.declared.cpu.AffinityInfo.TheVariants as affinity
use Rattle.cpu_table.proofs.Records.{affinity_in_lem}
use Rattle.cpu_table.specs.declared.CpuRows.{CpuRows}
use Rattle.cpu_table.specs.CpuTable.{all_on_bytes, cpus_in, others_off_bytes}

-- a byte's affinity is Off where it is 1
off_rest : (one : Bool) → one ≡ offb (cond one affinity.Off affinity.OnPending)
off_rest true = refl
off_rest false = refl

off_byte : (b : ℕ) → eqb b 1 ≡ offb (affinity_in b)
off_byte zero = refl
off_byte (suc b) = rw (ne_eqb (suc b) 0 (λ e. omega (arith, e))) (off_rest (eqb (suc b) 1))

-- it is On where it is 0
on_rest : (none one : Bool) → none ≡ onb (cond none affinity.On (cond one affinity.Off affinity.OnPending))
on_rest true one = refl
on_rest false true = refl
on_rest false false = refl

on_byte : (b : ℕ) → eqb b 0 ≡ onb (affinity_in b)
on_byte b = on_rest (eqb b 0) (eqb b 1)

module _ (x : CpuRows) (l : length x.affinities ≡ cpu_limit) (n : ℕ) where
  -- the last-CPU test
  pub others_off_in_lem : (cpu : ℕ) → others_off_bytes x.affinities n cpu ≡ others_off_in (cpus_in x) n cpu
  others_off_in_lem cpu =
      ap (every n) (fun_ext (λ (c : ℕ). ap (λ (b : Bool). eqb c cpu || b)
      (off_byte (get_or x.affinities c 0) ∙ ap offb (sym (affinity_in_lem x l c)))))

  -- the all-on test
  pub all_on_in_lem : all_on_bytes x.affinities n ≡ all_on_in (cpus_in x) n
  all_on_in_lem = ap (every n) (fun_ext (λ (c : ℕ). on_byte (get_or x.affinities c 0) ∙ ap onb (sym (affinity_in_lem x l c))))
