-- docs/REFERENCE.md, 'What a CPU stands for'. The CPUs under a domain, by the topology, and the shallowest of what they stand for.
use Rattle.std.specs.Prelude.{ℕ, Bool, List, eqb}
use Rattle.model.specs.Minimum.{minimum_of}
use Rattle.model.specs.States.{off_of}
use Rattle.model.specs.Topology.{cpus_of, over_of, level_of}
use Rattle.model.specs.declared.sorts.CpuNumber.{CpuNumber}
use Rattle.model.specs.declared.states.Platform.{Platform}
use Rattle.history.specs.History.{Done}
use Rattle.history.specs.Standing.{standing}

-- domain k is CPU c's ancestor at k's level
abbrev pub underb : List ℕ → (max k c : ℕ) → Bool
underb t max k c = eqb (over_of t max (level_of t max k) c) k

-- the shallowest that the CPUs under domain k stand for at its level
abbrev pub shallowest_of : Platform → CpuNumber → List ℕ → List Done → ℕ → ℕ
shallowest_of p primary t h k =
    minimum_of (cpus_of t p.max.0) (underb t p.max.0 k)
    (λ c. standing p primary h c (level_of t p.max.0 k)) (off_of p)
