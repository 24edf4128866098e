-- docs/REFERENCE.md, 'The topology'. The nodes of a tree are its domains, breadth first from the top, and then its CPUs.
use Rattle.std.specs.Prelude.{ℕ, zero, suc, ◌+◌, ◌-◌, Bool, true, cond, ◌&&◌, List, [], ◌∷◌, leb, ltb, eqb, length, take}
use Rattle.model.specs.declared.sorts.CpuNumber.{CpuNumber}
use Rattle.model.specs.declared.states.Platform.{Platform}
use Rattle.model.specs.Below.{every}
use Rattle.model.specs.Limits.{cpu_limit, domain_limit}
use Rattle.model.specs.States.{platformb}

-- the sum of the entries
unfoldable pub total_of : List ℕ → ℕ
total_of [] = 0
total_of (x ∷ xs) = x + total_of xs

-- the entry that counts node n: entry 0 counts the top domains, entry k+1 the children of domain k
unfoldable pub entry_of : List ℕ → ℕ → ℕ
entry_of [] n = 0
entry_of (x ∷ xs) n = cond (ltb n x) 0 (suc (entry_of xs (n - x)))

-- every entry is at least 1
unfoldable pub entriesb : List ℕ → Bool
entriesb [] = true
entriesb (x ∷ xs) = leb 1 x && entriesb xs

module _ (t : List ℕ) where
  -- the children of domain k are the nodes from here on, up to where those of the next domain start
  abbrev pub start_of : ℕ → ℕ
  start_of k = total_of (take (suc k) t)

  -- the nodes so many levels below domain k start here
  unfoldable pub down_of : ℕ → ℕ → ℕ
  down_of zero k = k
  down_of (suc levels) k = start_of (down_of levels k)

  -- the domains of so many levels, from the top
  abbrev pub domains_of : ℕ → ℕ
  domains_of levels = down_of levels 0

  -- the node is a top domain
  abbrev pub topb : ℕ → Bool
  topb n = eqb (entry_of t n) 0

  -- the domain directly above a node that is no top domain
  abbrev pub parent_of : ℕ → ℕ
  parent_of n = entry_of t n - 1

  -- the domain so many levels above a node
  unfoldable pub ancestor_of : ℕ → ℕ → ℕ
  ancestor_of zero n = n
  ancestor_of (suc levels) n = ancestor_of levels (parent_of n)

  module _ (max : ℕ) where
    -- the CPUs are the nodes that are no domains
    abbrev pub cpus_of : ℕ
    cpus_of = total_of t - domains_of max

    -- the node that CPU c is
    abbrev pub cpu_node_of : ℕ → ℕ
    cpu_node_of c = domains_of max + c

    -- the domain of a level over CPU c
    abbrev pub over_of : ℕ → ℕ → ℕ
    over_of level c = ancestor_of level (cpu_node_of c)

    -- levels MAX to 1 are filled: each has a domain
    abbrev pub filledb : Bool
    filledb = every max (λ above. ltb (domains_of above) (domains_of (suc above)))

    -- every entry is at least 1, the levels are filled, the length is 1 + domains, domains and CPUs are within their limits, and
    -- the primary CPU exists
    unfoldable pub topologyb : ℕ → Bool
    topologyb primary =
        entriesb t && filledb && eqb (length t) (1 + domains_of max)
        && leb (domains_of max) domain_limit && leb cpus_of cpu_limit && ltb primary cpus_of

  -- a top domain's level is MAX, another domain's is one below its parent's
  unfoldable pub level_of : ℕ → ℕ → ℕ
  level_of zero k = 0
  level_of (suc max) k = cond (topb k) (suc max) (level_of max (parent_of k))

-- the platform and the topology are acceptable
abbrev pub boardb : Platform → CpuNumber → List ℕ → Bool
boardb p primary t = platformb p && topologyb t p.max.0 primary.0
