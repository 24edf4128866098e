-- What demand 3 asks of a state that a board came to by a history.
use Rattle.std.specs.Prelude.{ℕ, ◌<◌, ◌≤◌, true, false, List, ◌≡◌}
use Rattle.history.specs.History.{Done}
use Rattle.history.specs.Standing.{standing}
use Rattle.history.specs.Under.{shallowest_of}
use Rattle.model.specs.Calls.{runningb}
use Rattle.model.specs.State.{cpu_at, domain_state_at, request_at}
use Rattle.model.specs.States.{run, kind_of, deeperb}
use Rattle.model.specs.Topology.{domains_of, cpus_of, topb, parent_of, over_of}
use Rattle.model.specs.declared.sorts.CpuNumber.{CpuNumber}
use Rattle.model.specs.declared.state.State.{State}
use Rattle.model.specs.declared.states.Platform.{Platform}

module _ (p : Platform) (primary : CpuNumber) (t : List ℕ) (h : List Done) (s : State) where
  abbrev max : ℕ
  max = p.max.0

  pub record Demand3 : Type 0 where
    -- a CPU's stored state is what it stands for at level 0
    pub cpu_stands : (c : ℕ) → c < cpus_of t max → (cpu_at s c).local_state ≡ standing p primary h c 0
    -- its stored requests are what it stands for above
    pub request_stands : (c l : ℕ) → c < cpus_of t max → 1 ≤ l → l ≤ max → request_at s l c ≡ standing p primary h c l
    -- each domain has the shallowest state of those that the CPUs under it stand for
    pub shallowest : (k : ℕ) → k < domains_of t max → domain_state_at s k ≡ shallowest_of p primary t h k
    -- each domain over a running CPU runs
    pub over_running : (c level : ℕ) → c < cpus_of t max → runningb (cpu_at s c) ≡ true → 1 ≤ level → level ≤ max →
        domain_state_at s (over_of t max level c) ≡ run
    -- and each domain over a CPU that stands for RUN
    pub over_standing : (c level : ℕ) → c < cpus_of t max → standing p primary h c 0 ≡ run → 1 ≤ level → level ≤ max →
        domain_state_at s (over_of t max level c) ≡ run
    -- no domain is of a deeper kind than a domain directly below it
    pub no_deeper_than_domain : (k : ℕ) → k < domains_of t max → topb t k ≡ false →
        deeperb (kind_of p (domain_state_at s (parent_of t k))) (kind_of p (domain_state_at s k)) ≡ false
    -- nor than a CPU directly below it
    pub no_deeper_than_cpu : (c : ℕ) → c < cpus_of t max →
        deeperb (kind_of p (domain_state_at s (over_of t max 1 c))) (kind_of p (cpu_at s c).local_state) ≡ false
