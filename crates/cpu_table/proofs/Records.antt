-- The records that the rows stand for: what is read, and what a store makes of them.
use Rattle.std.specs.Prelude.{Option, None, Some}
use Prim.Native.Nat.{ℕ, ◌<◌, ◌≤◌}
use mathlib.Core.List.{List}
use mathlib.Core.Logic.{◌≢◌}
use mathlib.Core.Path.{◌≡◌, refl, sym, ap, ◌∙◌}
use native.Mathlib.Omega.{arith}
use borrow.Author.Tests.{eqb-true, eqb-false}
use lib.Dec.{eqb}
use lib.ListN.{length, get_or, set, length-set, get_or-eq_default}
use lib.Seq.{ext_get_or, get_or-set_same, get_or-set_other}
use Rattle.basics.proofs.Tests.{below_or, by}
use Rattle.image.specs.Image.{affinity_in, entry_in}
use Rattle.model.proofs.Tables.{length_table, table_at}
use Rattle.model.specs.Limits.{cpu_limit}
use Rattle.model.specs.State.{no_cpu}
use Rattle.model.specs.declared.cpu.AffinityInfo.{AffinityInfo}
use Rattle.model.specs.declared.cpu.AffinityInfo.TheVariants as affinity
use Rattle.model.specs.declared.cpu.CpuPowerNode.{CpuPowerNode}
use Rattle.model.specs.declared.cpu.EntryPoint.{EntryPoint}
use Rattle.cpu_table.specs.declared.CpuRows.{CpuRows}
use Rattle.cpu_table.specs.CpuTable.{Lengths, address_in, affinity_byte, context_in, cpu_in, cpus_in, held_byte, kept_in, stored_in}

-- past a row's end is 0
past : (row : List ℕ) (c : ℕ) → length row ≡ cpu_limit → cpu_limit ≤ c → get_or row c 0 ≡ 0
past row c l h = get_or-eq_default row 0 (omega (arith, l))

-- among the records stands each that is read
pub cpu_below : (x : CpuRows) (c : ℕ) → c < cpu_limit → get_or (cpus_in x) c no_cpu ≡ cpu_in x c
cpu_below x c h = table_at cpu_limit no_cpu (cpu_in x) cpu_limit c no_cpu h h

-- past their end stands that of no CPU
none_past : (x : CpuRows) (c : ℕ) → cpu_limit ≤ c → get_or (cpus_in x) c no_cpu ≡ no_cpu
none_past x c h = get_or-eq_default (cpus_in x) no_cpu (omega (arith, length_table cpu_limit no_cpu (cpu_in x) cpu_limit))

-- so it is for any number
pub cpu_in_lem : {x : CpuRows} → Lengths x → (c : ℕ) → get_or (cpus_in x) c no_cpu ≡ cpu_in x c
cpu_in_lem {x} l c =
    below_or c cpu_limit
    (cpu_below x c)
    (λ h. none_past x c h
    ∙ sym (rw (
      past x.firsts c l.firsts h,
      past x.affinities c l.affinities h,
      past x.locals c l.locals h,
      past x.helds c l.helds h,
    )))

-- of the affinities alone, by the length of their row
pub affinity_in_lem : (x : CpuRows) → length x.affinities ≡ cpu_limit → (c : ℕ) →
    (get_or (cpus_in x) c no_cpu).affinity_info ≡ affinity_in (get_or x.affinities c 0)
affinity_in_lem x l c =
    below_or c cpu_limit
    (λ h. ap (λ (r : CpuPowerNode). r.affinity_info) (cpu_below x c h))
    (λ h. ap (λ (r : CpuPowerNode). r.affinity_info) (none_past x c h) ∙ ap affinity_in (sym (past x.affinities c l h)))

-- a byte stands for the affinity that it is of
pub affinity_back : (a : AffinityInfo) → affinity_in (affinity_byte a) ≡ a
affinity_back affinity.On = refl
affinity_back affinity.Off = refl
affinity_back affinity.OnPending = refl

module _ (c : ℕ) where
  -- what a store of an entry leaves at another place
  kept_other : (e : Option EntryPoint) (row : List ℕ) (v i : ℕ) → i ≢ c → get_or (kept_in e row c v) i 0 ≡ get_or row i 0
  kept_other None row v i h = refl
  kept_other (Some _) row v i h = get_or-set_other row c i v 0 h

  kept_length : (e : Option EntryPoint) (row : List ℕ) (v : ℕ) → length (kept_in e row c v) ≡ length row
  kept_length None row v = refl
  kept_length (Some _) row v = length-set row c v

  -- the entry that was stored is the one that is read
  kept_back : (e : Option EntryPoint) (addresses contexts : List ℕ) → c < length addresses → c < length contexts →
      entry_in (held_byte e) (get_or (kept_in e addresses c (address_in e)) c 0) (get_or (kept_in e contexts c (context_in e)) c 0) ≡ e
  kept_back None addresses contexts h k = refl
  kept_back (Some e) addresses contexts h k =
      rw (get_or-set_same addresses c e.address 0 h, get_or-set_same contexts c e.context 0 k)

module _ {x : CpuRows} (l : Lengths x) (c : ℕ) (node : CpuPowerNode) where
  -- a store keeps the lengths
  pub stored_lengths : Lengths (stored_in x c node)
  stored_lengths = record {
    firsts = l.firsts;
    affinities = simp length-set l.affinities;
    locals = simp length-set l.locals;
    helds = simp length-set l.helds;
    addresses = kept_length c node.entry_point x.addresses (address_in node.entry_point) ∙ l.addresses;
    contexts = kept_length c node.entry_point x.contexts (context_in node.entry_point) ∙ l.contexts;
  }

  -- the record that was stored is read
  pub stored_same : node.parent ≡ (cpu_in x c).parent → c < cpu_limit → cpu_in (stored_in x c node) c ≡ node
  stored_same e h =
      let kept = kept_back c node.entry_point x.addresses x.contexts (omega (arith, l.addresses)) (omega (arith, l.contexts)) in
      rw (
        ← e,
        get_or-set_same x.affinities c (affinity_byte node.affinity_info) 0 (omega (arith, l.affinities)),
        affinity_back node.affinity_info,
        get_or-set_same x.locals c node.local_state 0 (omega (arith, l.locals)),
        get_or-set_same x.helds c (held_byte node.entry_point) 0 (omega (arith, l.helds)),
        kept,
      )

  -- every other is as it was
  pub stored_other : (i : ℕ) → i ≢ c → cpu_in (stored_in x c node) i ≡ cpu_in x i
  stored_other i h = rw (
    get_or-set_other x.affinities c i (affinity_byte node.affinity_info) 0 h,
    get_or-set_other x.locals c i node.local_state 0 h,
    get_or-set_other x.helds c i (held_byte node.entry_point) 0 h,
    kept_other c node.entry_point x.addresses (address_in node.entry_point) i h,
    kept_other c node.entry_point x.contexts (context_in node.entry_point) i h,
  )

  -- so of the records one is set, and past the end none
  pub stored_in_lem : node.parent ≡ (cpu_in x c).parent → cpus_in (stored_in x c node) ≡ set (cpus_in x) c node
  stored_in_lem e =
      let long = length_table cpu_limit no_cpu (cpu_in x) cpu_limit in
      let long' = length_table cpu_limit no_cpu (cpu_in (stored_in x c node)) cpu_limit in
      ext_get_or no_cpu (cpus_in (stored_in x c node)) (set (cpus_in x) c node) (long' ∙ sym (length-set (cpus_in x) c node ∙ long))
      (λ i h. cpu_below (stored_in x c node) i (omega (arith, h, long'))
      ∙ by (eqb i c)
      (λ t. let z = eqb-true i c t in
      ap (cpu_in (stored_in x c node)) z ∙ stored_same e (omega (arith, z, h, long'))
      ∙ sym (get_or-set_same (cpus_in x) c node no_cpu (omega (arith, z, h, long, long')))
      ∙ ap (λ (j : ℕ). get_or (set (cpus_in x) c node) j no_cpu) (sym z))
      (λ t. let z = eqb-false i c t in
      stored_other i z ∙ sym (cpu_below x i (omega (arith, h, long'))) ∙ sym (get_or-set_other (cpus_in x) c i node no_cpu z)))
