-- The records of CPUs in rows of numbers, a place a CPU.
use Rattle.std.specs.Prelude.{ℕ, Bool, ◌||◌, List, ◌≡◌, eqb, get_or, length, set, Option, None, Some}
use Rattle.image.specs.Image.{affinity_in, entry_in}
use Rattle.model.specs.Below.{every}
use Rattle.model.specs.Limits.{cpu_limit}
use Rattle.model.specs.State.{no_cpu}
use Rattle.model.specs.Table.{cpu_row_of, table_of}
use Rattle.model.specs.declared.cpu.AffinityInfo.{AffinityInfo}
use Rattle.model.specs.declared.cpu.AffinityInfo.TheVariants as affinity
use Rattle.model.specs.declared.cpu.CpuPowerNode.{CpuPowerNode}
use Rattle.model.specs.declared.cpu.EntryPoint.{EntryPoint}
use Rattle.cpu_table.specs.declared.CpuRows.{CpuRows}
use Rattle.cpu_table.specs.declared.CpuTable.{CpuTable}
use Rattle.cpu_table.specs.declared.CpuView.{CpuView}

-- six lent rows as one record
abbrev pub cpu_table : (firsts affinities locals helds addresses contexts : List ℕ) → CpuRows
cpu_table firsts affinities locals helds addresses contexts = record {
  firsts = firsts;
  affinities = affinities;
  locals = locals;
  helds = helds;
  addresses = addresses;
  contexts = contexts;
}

-- what rows that are lent hold, to be read
abbrev pub view_rows : CpuView → CpuRows
view_rows x = cpu_table x.firsts.now x.affinities.now x.locals.now x.helds.now x.addresses.now x.contexts.now

-- or for change
abbrev pub lent_cpus : CpuTable → CpuRows
lent_cpus x = cpu_table x.firsts.now x.affinities.now x.locals.now x.helds.now x.addresses.now x.contexts.now

-- the same rows are lent
abbrev pub SameCpus : CpuTable → CpuTable → Type 0
SameCpus x y =
    (y.firsts.now ≡ x.firsts.now)
    × (y.affinities.ghost_name ≡ x.affinities.ghost_name)
    × (y.locals.ghost_name ≡ x.locals.ghost_name)
    × (y.helds.ghost_name ≡ x.helds.ghost_name)
    × (y.addresses.ghost_name ≡ x.addresses.ghost_name)
    × (y.contexts.ghost_name ≡ x.contexts.ghost_name)

-- each row has a place for each CPU
pub record Lengths (x : CpuRows) : Type 0 where
  pub firsts : length x.firsts ≡ cpu_limit
  pub affinities : length x.affinities ≡ cpu_limit
  pub locals : length x.locals ≡ cpu_limit
  pub helds : length x.helds ≡ cpu_limit
  pub addresses : length x.addresses ≡ cpu_limit
  pub contexts : length x.contexts ≡ cpu_limit

-- the record of a CPU; past the rows' end it is that of no CPU
abbrev pub cpu_in : CpuRows → ℕ → CpuPowerNode
cpu_in x c = record {
  parent = record { 0 = get_or x.firsts c 0 };
  affinity_info = affinity_in (get_or x.affinities c 0);
  local_state = get_or x.locals c 0;
  entry_point = entry_in (get_or x.helds c 0) (get_or x.addresses c 0) (get_or x.contexts c 0);
}

-- all of them
abbrev pub cpus_in : CpuRows → List CpuPowerNode
cpus_in x = table_of cpu_limit no_cpu (cpu_in x) cpu_limit

-- the byte of an affinity
abbrev pub affinity_byte : AffinityInfo → ℕ
affinity_byte affinity.On = 0
affinity_byte affinity.Off = 1
affinity_byte affinity.OnPending = 2

-- the byte that says whether an entry is held
abbrev pub held_byte : Option EntryPoint → ℕ
held_byte None = 0
held_byte (Some _) = 1

-- its address and its context, 0 where none is held
abbrev pub address_in : Option EntryPoint → ℕ
address_in None = 0
address_in (Some e) = e.address

abbrev pub context_in : Option EntryPoint → ℕ
context_in None = 0
context_in (Some e) = e.context

-- a row after what it has of an entry is stored: where none is held, it is as it was
abbrev pub kept_in : Option EntryPoint → List ℕ → ℕ → ℕ → List ℕ
kept_in None row c v = row
kept_in (Some _) row c v = set row c v

-- the rows after a CPU's record is stored; its parent is not, and past their end nothing is
abbrev pub stored_in : CpuRows → ℕ → CpuPowerNode → CpuRows
stored_in x c node = cpu_table
    x.firsts
    (set x.affinities c (affinity_byte node.affinity_info))
    (set x.locals c node.local_state)
    (set x.helds c (held_byte node.entry_point))
    (kept_in node.entry_point x.addresses c (address_in node.entry_point))
    (kept_in node.entry_point x.contexts c (context_in node.entry_point))

-- a row of a number of each of the first n records
abbrev pub row_to : List CpuPowerNode → ℕ → (CpuPowerNode → ℕ) → List ℕ
row_to cpus n number = cpu_row_of (λ c. number (get_or cpus c no_cpu)) n

-- the rows of the first n records
abbrev pub rows_to : List CpuPowerNode → ℕ → CpuRows
rows_to cpus n = cpu_table
    (row_to cpus n (λ r. r.parent.0))
    (row_to cpus n (λ r. affinity_byte r.affinity_info))
    (row_to cpus n (λ r. r.local_state))
    (row_to cpus n (λ r. held_byte r.entry_point))
    (row_to cpus n (λ r. address_in r.entry_point))
    (row_to cpus n (λ r. context_in r.entry_point))

-- of all of them
abbrev pub rows_of : List CpuPowerNode → CpuRows
rows_of cpus = rows_to cpus cpu_limit

-- in a row of affinities every one of the first n but this one is Off
abbrev pub others_off_bytes : List ℕ → ℕ → ℕ → Bool
others_off_bytes affinities n cpu = every n (λ c. eqb c cpu || eqb (get_or affinities c 0) 1)

-- every one of the first n is On
abbrev pub all_on_bytes : List ℕ → ℕ → Bool
all_on_bytes affinities n = every n (λ c. eqb (get_or affinities c 0) 0)
