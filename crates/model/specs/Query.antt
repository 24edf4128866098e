-- docs/REFERENCE.md, 'Queries of a node record'.
use Rattle.std.specs.Prelude.{ℕ, Bool, cond, not, ◌&&◌, eqb, Result, Ok, Err, Option, None, Some}
use Rattle.model.specs.declared.code.Refusal.{Refusal}
use Rattle.model.specs.declared.code.Refusal.TheVariants as code
use Rattle.model.specs.declared.sorts.DomainNumber.{DomainNumber}
use Rattle.model.specs.declared.node.NonCpuPowerNode.{NonCpuPowerNode}
use Rattle.model.specs.declared.sorts.CpuNumber.{CpuNumber}
use Rattle.model.specs.Below.{every}
use Rattle.model.specs.Node.{no_suspend_state, has_cpub, has_childb, request_at, suspend_at, copy_at}
use Rattle.model.specs.Span.{in_span_withoutb, span_minimum_without_of}
use Rattle.model.specs.States.{run}

-- what a CPU allows its domain: its request, but its suspend state if it has one beside the request RUN
abbrev pub allowed_of : ℕ → ℕ → ℕ
allowed_of request suspend = cond (eqb request run) (cond (eqb suspend no_suspend_state) run suspend) request

-- a suspend state beside a request that is not RUN
abbrev pub besideb : ℕ → ℕ → Bool
besideb request suspend = not (eqb request run) && not (eqb suspend no_suspend_state)

module _ (n : NonCpuPowerNode) (cpu : CpuNumber) where
  -- a CPU under the domain other than the one left out
  abbrev pub other_cpub : ℕ → Bool
  other_cpub = in_span_withoutb n.cpu_range cpu.0

  -- no such CPU has a suspend state beside a request that is not RUN
  abbrev pub none_besideb : Bool
  none_besideb = every n.cpu_range.end (λ i. not (other_cpub i && besideb (request_at n i) (suspend_at n i)))

  -- the shallowest that those CPUs allow
  abbrev pub others_allow_of : ℕ → ℕ
  others_allow_of = span_minimum_without_of n.cpu_range cpu.0 (λ i. allowed_of (request_at n i) (suspend_at n i))

-- the CPU, and the child if one is given, are in the domain's spans
abbrev pub asked_insideb : NonCpuPowerNode → CpuNumber → Option DomainNumber → Bool
asked_insideb n cpu None = has_cpub n cpu
asked_insideb n cpu (Some d) = has_cpub n cpu && has_childb n d

-- where a child is given, the shallowest of a state and of the copies of the other children
abbrev pub with_children_of : NonCpuPowerNode → Option DomainNumber → ℕ → ℕ
with_children_of n None s = s
with_children_of n (Some d) s = span_minimum_without_of n.non_cpu_range d.0 (copy_at n) s

-- 109 for what is outside, 111 for a suspend state beside a request that is not RUN, else the state
abbrev pub state_answer_of : Bool → Bool → ℕ → Result ℕ Refusal
state_answer_of inside none s = cond inside (cond none (Ok s) (Err code.SuspendBesideRequest)) (Err code.Outside)

-- the state that a domain may take without regard to one CPU, and to the child on that CPU's path where it is given
unfoldable pub get_osi_minimal_allowed_state_without_core_of : NonCpuPowerNode → CpuNumber → Option DomainNumber → ℕ → Result ℕ Refusal
get_osi_minimal_allowed_state_without_core_of n cpu child off =
    state_answer_of (asked_insideb n cpu child) (none_besideb n cpu) (with_children_of n child (others_allow_of n cpu off))

-- the CPU is the last to idle where that state is not RUN
abbrev pub last_to_idle_of : Result ℕ Refusal → Result Bool Refusal
last_to_idle_of (Ok s) = Ok (not (eqb s run))
last_to_idle_of (Err r) = Err r

abbrev pub is_last_cpu_to_idle_of : NonCpuPowerNode → CpuNumber → Option DomainNumber → ℕ → Result Bool Refusal
is_last_cpu_to_idle_of n cpu child off = last_to_idle_of (get_osi_minimal_allowed_state_without_core_of n cpu child off)
