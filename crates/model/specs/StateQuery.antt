-- docs/REFERENCE.md, 'Queries of a state'.
use Rattle.std.specs.Prelude.{ℕ, ◌-◌, Bool, true, false, cond, ◌||◌, List, leb, ltb, eqb, get_or, Result, Ok, Err, Option, None, Some}
use Rattle.model.specs.declared.code.Refusal.{Refusal}
use Rattle.model.specs.declared.code.Refusal.TheVariants as code
use Rattle.model.specs.declared.cpu.CpuPowerNode.{CpuPowerNode}
use Rattle.model.specs.declared.node.NonCpuPowerNode.{NonCpuPowerNode}
use Rattle.model.specs.declared.sorts.DomainNumber.{DomainNumber}
use Rattle.model.specs.declared.sorts.CpuNumber.{CpuNumber}
use Rattle.model.specs.declared.sorts.PowerLevel.{PowerLevel}
use Rattle.model.specs.declared.state.State.{State}
use Rattle.model.specs.Below.{every}
use Rattle.model.specs.Cpu.{offb, onb}
use Rattle.model.specs.Node.{node_of}
use Rattle.model.specs.Query.{is_last_cpu_to_idle_of}
use Rattle.model.specs.SoundTest.{soundb}
use Rattle.model.specs.State.{max_at, off_at, cpu_count_of, cpu_at, domain_state_at, domain_over, no_cpu}
use Rattle.model.specs.Table.{level_row_of}
use Rattle.model.specs.Tree.{no_parent, parent_at, cpu_span_at, child_span_at}

-- the parent that a byte stands for
abbrev pub parent_of_byte : ℕ → Option DomainNumber
parent_of_byte b = cond (eqb b no_parent) None (Some (record { 0 = b }))

-- in a row of CPU records every one of the first n but this one is Off
abbrev pub others_off_in : List CpuPowerNode → ℕ → ℕ → Bool
others_off_in cpus n cpu = every n (λ c. eqb c cpu || offb (get_or cpus c no_cpu).affinity_info)

-- every one of the first n is On
abbrev pub all_on_in : List CpuPowerNode → ℕ → Bool
all_on_in cpus n = every n (λ c. onb (get_or cpus c no_cpu).affinity_info)

module _ (s : State) where
  -- the node record of domain k of a level
  abbrev pub node_at : ℕ → ℕ → NonCpuPowerNode
  node_at level k =
      node_of (parent_of_byte (parent_at s.tree k)) (domain_state_at s k) (cpu_span_at s.tree k) (child_span_at s.tree k)
      (level_row_of s.domains.requests level) (level_row_of s.domains.suspends level) s.domains.copies

  -- the domain below the one of a level on a CPU's path; below level 1 there is none
  abbrev pub child_over : ℕ → ℕ → Option DomainNumber
  child_over level c = cond (leb 2 level) (Some (record { 0 = domain_over s (level - 1) c })) None

  -- the CPU is the last to idle at a level: always at level 0, and above it if its domain's record says so
  abbrev pub last_to_idle_at : ℕ → CpuNumber → Result Bool Refusal
  last_to_idle_at level cpu =
      cond (eqb level 0) (Ok true)
      (is_last_cpu_to_idle_of (node_at level (domain_over s level cpu.0)) cpu (child_over level cpu.0) (off_at s))

  -- 102 for a state that is not sound, 103 for a number that is no CPU's
  abbrev pub asked_by : CpuNumber → Result Bool Refusal → Result Bool Refusal
  asked_by cpu a = cond (soundb s) (cond (ltb cpu.0 (cpu_count_of s)) a (Err code.NoCaller)) (Err code.NotSound)

  -- 109 for a level above MAX
  unfoldable pub is_last_cpu_to_idle_at_power_level_of : CpuNumber → PowerLevel → Result Bool Refusal
  is_last_cpu_to_idle_at_power_level_of cpu level =
      asked_by cpu (cond (leb level.0 (max_at s)) (last_to_idle_at level.0 cpu) (Err code.Outside))

  -- every CPU but this one is Off
  abbrev pub others_offb : ℕ → Bool
  others_offb = others_off_in s.cpus (cpu_count_of s)

  -- 104 for a CPU that is not On
  unfoldable pub is_last_cpu_of : CpuNumber → Result Bool Refusal
  is_last_cpu_of cpu =
      asked_by cpu
      (cond (onb (cpu_at s cpu.0).affinity_info) (Ok (others_offb cpu.0)) (Err code.NotRunning))

  -- every CPU is On
  abbrev pub all_onb : Bool
  all_onb = all_on_in s.cpus (cpu_count_of s)

  unfoldable pub are_all_cpus_on_of : Result Bool Refusal
  are_all_cpus_on_of = cond (soundb s) (Ok all_onb) (Err code.NotSound)
