-- docs/REFERENCE.md, 'Node records'.
use Rattle.std.specs.Prelude.{ℕ, Bool, cond, List, get_or, set, replicate, Ok, Err, Option}
use Rattle.model.specs.declared.code.Refusal.TheVariants as code
use Rattle.model.specs.declared.node.NonCpuPowerNode.{NonCpuPowerNode}
use Rattle.model.specs.declared.node.Span.{Span}
use Rattle.model.specs.declared.sorts.CpuNumber.{CpuNumber}
use Rattle.model.specs.declared.sorts.DomainNumber.{DomainNumber}
use Rattle.model.specs.Limits.{cpu_limit, domain_limit}
use Rattle.model.specs.Numbers.{Code}
use Rattle.model.specs.Span.{span_minimum_of, empty_span, withinb, holdsb, growsb, grown_of}

-- the byte where a CPU has no suspend state
abbrev pub no_suspend_state : ℕ
no_suspend_state = 255

-- the CPU is under the domain
abbrev pub has_cpub : NonCpuPowerNode → CpuNumber → Bool
has_cpub n cpu = holdsb cpu_limit n.cpu_range cpu.0

-- the domain is directly below this one
abbrev pub has_childb : NonCpuPowerNode → DomainNumber → Bool
has_childb n child = holdsb domain_limit n.non_cpu_range child.0

-- the request of a CPU
abbrev pub request_at : NonCpuPowerNode → ℕ → ℕ
request_at n i = get_or n.requested_states i 0

-- the suspend state of a CPU
abbrev pub suspend_at : NonCpuPowerNode → ℕ → ℕ
suspend_at n i = get_or n.suspend_states i 0

-- the copy of a child's state
abbrev pub copy_at : NonCpuPowerNode → ℕ → ℕ
copy_at n i = get_or n.non_cpu_states i 0

-- a domain of this parent, state, CPU span, child span, requests, suspend states and child copies
abbrev pub node_of : Option DomainNumber → ℕ → Span → Span → List ℕ → List ℕ → List ℕ → NonCpuPowerNode
node_of parent state cpus children requests suspends copies = record {
  parent = parent;
  local_state = state;
  cpu_range = cpus;
  non_cpu_range = children;
  requested_states = requests;
  suspend_states = suspends;
  non_cpu_states = copies;
}

-- a new domain is OFF, and nothing is under it
abbrev pub new_of : Option DomainNumber → ℕ → NonCpuPowerNode
new_of parent off =
    node_of parent off empty_span empty_span (replicate cpu_limit 0) (replicate cpu_limit 0) (replicate domain_limit 0)

-- what a change of a node record answers, and the record that it leaves: where it is refused, as it was
pub record NodeAnswer : Type 0 where
  pub code : Code
  pub node : NonCpuPowerNode

-- accepted, with this record
abbrev pub accepted_of : NonCpuPowerNode → NodeAnswer
accepted_of n = record { code = Ok tt; node = n }

-- 109, with this record
abbrev pub outside_of : NonCpuPowerNode → NodeAnswer
outside_of n = record { code = Err code.Outside; node = n }

module _ (n : NonCpuPowerNode) where
  -- its spans and tables
  abbrev cpus : Span
  cpus = n.cpu_range

  abbrev children : Span
  children = n.non_cpu_range

  abbrev requests : List ℕ
  requests = n.requested_states

  abbrev suspends : List ℕ
  suspends = n.suspend_states

  abbrev copies : List ℕ
  copies = n.non_cpu_states

  -- the domain with these spans and tables, its parent and state as they were
  abbrev refilled : Span → Span → List ℕ → List ℕ → List ℕ → NonCpuPowerNode
  refilled = node_of n.parent n.local_state

  -- accepted with the changed record where nothing is outside; else 109, and the record as it was
  abbrev pub changed_of : Bool → NonCpuPowerNode → NodeAnswer
  changed_of inside changed = cond inside (accepted_of changed) (outside_of n)

  -- the domain's state
  abbrev pub local_state_of : ℕ
  local_state_of = n.local_state

  -- the domain with another state
  abbrev pub set_local_state_of : ℕ → NonCpuPowerNode
  set_local_state_of s = node_of n.parent s cpus children requests suspends copies

  -- the CPU's request is stored
  abbrev pub set_requested_power_state_of : CpuNumber → ℕ → NodeAnswer
  set_requested_power_state_of cpu s =
      changed_of (has_cpub n cpu) (refilled cpus children (set requests cpu.0 s) suspends copies)

  -- the CPU's suspend state is stored
  abbrev pub set_suspend_state_of : CpuNumber → ℕ → NodeAnswer
  set_suspend_state_of cpu s =
      changed_of (has_cpub n cpu) (refilled cpus children requests (set suspends cpu.0 s) copies)

  -- the CPU then has no suspend state
  abbrev pub clear_suspend_state_of : CpuNumber → NodeAnswer
  clear_suspend_state_of cpu = set_suspend_state_of cpu no_suspend_state

  -- the copy of a child's state is stored
  abbrev pub set_non_cpu_state_of : DomainNumber → ℕ → NodeAnswer
  set_non_cpu_state_of child s =
      changed_of (has_childb n child) (refilled cpus children requests suspends (set copies child.0 s))

  -- the domain takes the shallowest request of the CPUs under it
  abbrev pub set_minimal_allowed_state_of : ℕ → NodeAnswer
  set_minimal_allowed_state_of off =
      changed_of (withinb cpu_limit cpus) (set_local_state_of (span_minimum_of cpus (request_at n) off))

  -- the CPU is entered into the span, with request OFF and no suspend state
  abbrev pub assign_cpu_of : CpuNumber → ℕ → NodeAnswer
  assign_cpu_of cpu off =
      changed_of (growsb cpu_limit cpus cpu.0)
      (refilled (grown_of cpus cpu.0) children (set requests cpu.0 off) (set suspends cpu.0 no_suspend_state) copies)

  -- the child is entered into the child span, with its copy OFF
  abbrev pub assign_non_cpu_of : DomainNumber → ℕ → NodeAnswer
  assign_non_cpu_of child off =
      changed_of (growsb domain_limit children child.0)
      (refilled cpus (grown_of children child.0) requests suspends (set copies child.0 off))
