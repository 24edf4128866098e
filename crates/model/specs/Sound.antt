-- docs/REFERENCE.md, 'A sound state record': the facts.
use Rattle.std.specs.Prelude.{ℕ, suc, ◌<◌, ◌≤◌, Bool, true, false, ◌≡◌, get_or}
use Rattle.model.specs.declared.board.Tree.{Tree}
use Rattle.model.specs.declared.cpu.AffinityInfo.{AffinityInfo}
use Rattle.model.specs.declared.cpu.AffinityInfo.TheVariants as affinity
use Rattle.model.specs.declared.state.State.{State}
use Rattle.model.specs.declared.states.Platform.{Platform}
use Rattle.model.specs.Composite.{state_at}
use Rattle.model.specs.Cpu.{onb, heldb}
use Rattle.model.specs.Limits.{cpu_limit, domain_limit, entry_limit, highest_max}
use Rattle.model.specs.Node.{no_suspend_state}
use Rattle.model.specs.Path.{level_at}
use Rattle.model.specs.Span.{span_minimum_of}
use Rattle.model.specs.State.{no_cpu, platform_at, max_at, off_at, domain_count_of, cpu_count_of, topology_at, cpu_at, asked_of}
use Rattle.model.specs.State.{domain_state_at, request_at, suspend_at, copy_at}
use Rattle.model.specs.States.{run, in_rangeb, kind_of, depth_of, power_downb}
use Rattle.model.specs.Topology.{domains_of, cpus_of, boardb}
use Rattle.model.specs.Tree.{no_parent, tree_of, cpu_parents_of, parent_at, cpu_span_at, child_span_at}

-- an entry is due: the CPU is OnPending, or suspended in a power-down state
abbrev pub entry_dueb : Platform → AffinityInfo → ℕ → Bool
entry_dueb p affinity.On state = power_downb (kind_of p state)
entry_dueb p affinity.Off state = false
entry_dueb p affinity.OnPending state = true

-- two trees say the same of domain k
pub record SameDomain (a b : Tree) (k : ℕ) : Type 0 where
  pub parent : parent_at a k ≡ parent_at b k
  pub cpus : cpu_span_at a k ≡ cpu_span_at b k
  pub children : child_span_at a k ≡ child_span_at b k

module _ (s : State) where
  -- the tree fits its topology
  pub record Fits : Type 0 where
    -- the board is acceptable
    pub accepted : boardb (platform_at s) s.board.primary (topology_at s) ≡ true
    -- the counts, the rows and the CPUs' parents are those of the tree that its topology describes
    pub domain_count : domain_count_of s ≡ domains_of (topology_at s) (max_at s)
    pub cpu_count : cpu_count_of s ≡ cpus_of (topology_at s) (max_at s)
    pub domains : (k : ℕ) → k < domain_limit → SameDomain s.tree (tree_of (topology_at s) (max_at s)) k
    pub cpu_parents : (c : ℕ) → c < cpu_count_of s → (cpu_at s c).parent.0 ≡ get_or (cpu_parents_of (topology_at s) (max_at s)) c 0

  module _ (c : ℕ) where
    -- whether a CPU is On, its state, and by level what it asks for, where level 0 is its state
    abbrev is_on : Bool
    is_on = onb (cpu_at s c).affinity_info

    abbrev state : ℕ
    state = (cpu_at s c).local_state

    abbrev asks : ℕ → ℕ
    asks = state_at (asked_of s c)

    -- how deep the kind is that it asks for at a level
    abbrev asks_depth : ℕ → ℕ
    asks_depth level = depth_of (kind_of (platform_at s) (asks level))

    pub record SoundCpu : Type 0 where
      -- states are in range
      pub in_range : (level : ℕ) → level ≤ max_at s → in_rangeb (platform_at s) (asks level) ≡ true
      -- an Off or OnPending CPU has CPU state and requests OFF
      pub off : is_on ≡ false → (level : ℕ) → level ≤ max_at s → asks level ≡ off_at s
      -- a running one has requests RUN
      pub running : is_on ≡ true → state ≡ run → (level : ℕ) → level ≤ max_at s → asks level ≡ run
      -- a suspended one has requests that, from the CPU state up, never deepen in kind
      pub suspended : is_on ≡ true → (state ≡ run → ⊥) → (below : ℕ) → below < max_at s → asks_depth (suc below) ≤ asks_depth below
      -- it holds an entry exactly if one is due
      pub entry : heldb (cpu_at s c).entry_point ≡ entry_dueb (platform_at s) (cpu_at s c).affinity_info state
      -- no suspend state is set
      pub no_suspend : (level : ℕ) → 1 ≤ level → level ≤ max_at s → suspend_at s level c ≡ no_suspend_state

  module _ (k : ℕ) where
    -- what the CPUs ask of domain k
    abbrev asked : ℕ → ℕ
    asked = request_at s (level_at s.tree.parents (max_at s) k)

    pub record SoundDomain : Type 0 where
      -- its state is in range
      pub in_range : in_rangeb (platform_at s) (domain_state_at s k) ≡ true
      -- it is the minimum of its requests
      pub minimum : domain_state_at s k ≡ span_minimum_of (cpu_span_at s.tree k) asked (off_at s)
      -- the copy of it that its parent holds is in range
      pub copy_in_range : (parent_at s.tree k ≡ no_parent → ⊥) → in_rangeb (platform_at s) (copy_at s k) ≡ true

  -- a level of a CPU that is not used: the level is above MAX, or there is no such CPU
  pub record Spare (level c : ℕ) : Type 0 where
    pub low : 1 ≤ level
    pub high : level ≤ highest_max
    pub slot : c < cpu_limit
    pub spare : level ≤ max_at s → cpu_count_of s ≤ c

  -- what is not used is 0; an entry that is not held has no bytes
  pub record Unused : Type 0 where
    pub entries : (i : ℕ) → domain_count_of s < i → i < entry_limit → get_or s.board.topology i 0 ≡ 0
    pub cpus : (c : ℕ) → cpu_count_of s ≤ c → c < cpu_limit → cpu_at s c ≡ no_cpu
    pub requests : (level c : ℕ) → Spare level c → request_at s level c ≡ 0
    pub suspends : (level c : ℕ) → Spare level c → suspend_at s level c ≡ 0
    pub states : (k : ℕ) → domain_count_of s ≤ k → k < domain_limit → domain_state_at s k ≡ 0
    pub copies : (k : ℕ) → domain_count_of s ≤ k → k < domain_limit → copy_at s k ≡ 0
    pub top_copies : (k : ℕ) → k < domain_count_of s → parent_at s.tree k ≡ no_parent → copy_at s k ≡ 0

  -- a sound state record
  pub record Sound : Type 0 where
    pub fits : Fits
    pub cpus : (c : ℕ) → c < cpu_count_of s → SoundCpu c
    pub domains : (k : ℕ) → k < domain_count_of s → SoundDomain k
    pub unused : Unused
