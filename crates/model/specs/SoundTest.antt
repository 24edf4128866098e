-- docs/REFERENCE.md, 'A sound state record': the test.
use Rattle.std.specs.Prelude.{ℕ, suc, Bool, true, false, cond, not, ◌&&◌, List, leb, ltb, eqb, get_or}
use Rattle.model.specs.Cpu.{onb, heldb}
use Rattle.model.specs.declared.board.Tree.{Tree}
use Rattle.model.specs.declared.board.TreeAnswer.{TreeAnswer}
use Rattle.model.specs.declared.cpu.AffinityInfo.{AffinityInfo}
use Rattle.model.specs.declared.cpu.AffinityInfo.TheVariants as affinity
use Rattle.model.specs.declared.cpu.CpuPowerNode.{CpuPowerNode}
use Rattle.model.specs.declared.state.Domains.{Domains}
use Rattle.model.specs.declared.state.State.{State}
use Rattle.model.specs.declared.states.CompositeState.{CompositeState}
use Rattle.model.specs.declared.states.Platform.{Platform}
use Rattle.model.specs.Below.{every}
use Rattle.model.specs.Composite.{state_at, states_in_rangeb, is_valid_suspend_requestb}
use Rattle.model.specs.Limits.{cpu_limit, domain_limit, entry_limit, highest_max, levels}
use Rattle.model.specs.Node.{no_suspend_state}
use Rattle.model.specs.Numbers.{acceptedb}
use Rattle.model.specs.Path.{level_at}
use Rattle.model.specs.Sound.{entry_dueb}
use Rattle.model.specs.Span.{span_minimum_of}
use Rattle.model.specs.State.{no_cpu, asked_in, platform_at, domain_count_of, cpu_count_of, topology_at}
use Rattle.model.specs.States.{run, off_of, in_rangeb}
use Rattle.model.specs.Table.{at_level}
use Rattle.model.specs.Tree.{no_parent, parent_at, cpu_span_at, tree_answer_of}

-- two bools are the same
abbrev pub sameb : Bool → Bool → Bool
sameb true b = b
sameb false b = not b

-- two rows have the same byte at each domain's number
abbrev pub same_rowb : List ℕ → List ℕ → Bool
same_rowb a b = every domain_limit (λ k. eqb (get_or a k 0) (get_or b k 0))

-- two trees are the same
abbrev pub same_treeb : Tree → Tree → Bool
same_treeb a b =
    eqb a.domain_count b.domain_count && eqb a.cpu_count b.cpu_count && same_rowb a.parents b.parents
    && same_rowb a.cpu_starts b.cpu_starts && same_rowb a.cpu_ends b.cpu_ends
    && same_rowb a.child_starts b.child_starts && same_rowb a.child_ends b.child_ends

-- past the topology's last entry is 0
abbrev pub entries_endb : List ℕ → ℕ → Bool
entries_endb row last = every entry_limit (λ i. cond (ltb last i) (eqb (get_or row i 0) 0) true)

-- the levels up to MAX have this state, and those above it 0
abbrev pub levels_areb : Platform → CompositeState → ℕ → Bool
levels_areb p c v = every levels (λ l. eqb (state_at c l) (cond (leb l p.max.0) v 0))

-- a running CPU asks for RUN, a suspended one for what is a valid request, and the others for OFF
abbrev pub asksb : Platform → AffinityInfo → CompositeState → Bool
asksb p affinity.On asked = cond (eqb asked.level0 run) (levels_areb p asked run) (is_valid_suspend_requestb p asked)
asksb p affinity.Off asked = levels_areb p asked (off_of p)
asksb p affinity.OnPending asked = levels_areb p asked (off_of p)

-- the suspend states of CPU c: none up to level n, and 0 above
abbrev pub suspends_areb : List ℕ → ℕ → ℕ → Bool
suspends_areb suspends n c = every highest_max (λ l. eqb (at_level suspends (suc l) c) (cond (ltb l n) no_suspend_state 0))

-- a CPU under this domain, with what it asks for
abbrev pub cpu_usedb : Platform → CpuPowerNode → ℕ → CompositeState → Bool
cpu_usedb p c parent asked =
    eqb c.parent.0 parent && states_in_rangeb p asked && asksb p c.affinity_info asked
    && sameb (heldb c.entry_point) (entry_dueb p c.affinity_info c.local_state)

-- a slot with no CPU: its record and what it asks for are 0
abbrev pub cpu_unusedb : Platform → CpuPowerNode → CompositeState → Bool
cpu_unusedb p c asked =
    eqb c.parent.0 0 && onb c.affinity_info && not (heldb c.entry_point) && levels_areb p asked 0

-- a domain's copy is in range; a top domain has none, and there stands 0
abbrev pub copyb : Platform → ℕ → ℕ → Bool
copyb p parent copy = cond (eqb parent no_parent) (eqb copy 0) (in_rangeb p copy)

-- a domain: its state is in range and the minimum, and its copy is good
abbrev pub domain_usedb : Platform → ℕ → ℕ → ℕ → ℕ → Bool
domain_usedb p parent state minimum copy = in_rangeb p state && eqb state minimum && copyb p parent copy

-- the slot of CPU c, where there is such a CPU and where there is none
unfoldable pub cpu_slot_isb : Bool → Platform → CpuPowerNode → ℕ → CompositeState → List ℕ → ℕ → Bool
cpu_slot_isb used p cpu parent asked suspends c =
    cond used (cpu_usedb p cpu parent asked && suspends_areb suspends p.max.0 c) (cpu_unusedb p cpu asked && suspends_areb suspends 0 c)

-- the slot of CPU c, of so many CPUs with these parents
unfoldable pub cpu_slotb : Platform → ℕ → List CpuPowerNode → List ℕ → Domains → ℕ → Bool
cpu_slotb p count cpus parents domains c =
    cpu_slot_isb (ltb c count) p (get_or cpus c no_cpu) (get_or parents c 0) (asked_in domains.requests (get_or cpus c no_cpu) c)
    domains.suspends c

-- the minimum of the requests of domain k
abbrev pub minimum_in : Platform → Tree → List ℕ → ℕ → ℕ
minimum_in p tree requests k =
    span_minimum_of (cpu_span_at tree k) (at_level requests (level_at tree.parents p.max.0 k)) (off_of p)

-- the slot of domain k
unfoldable pub domain_slotb : Platform → Tree → Domains → ℕ → Bool
domain_slotb p tree domains k =
    cond (ltb k tree.domain_count)
    (domain_usedb p (parent_at tree k) (get_or domains.states k 0) (minimum_in p tree domains.requests k) (get_or domains.copies k 0))
    (eqb (get_or domains.states k 0) 0 && eqb (get_or domains.copies k 0) 0)

module _ (s : State) where
  -- the tree that the state's topology describes
  abbrev pub described_of : TreeAnswer
  described_of = tree_answer_of (platform_at s) s.board.primary (topology_at s)

  -- the state is sound
  unfoldable pub soundb : Bool
  soundb =
      acceptedb described_of.code && same_treeb s.tree described_of.tree && entries_endb s.board.topology (domain_count_of s)
      && every cpu_limit (cpu_slotb (platform_at s) (cpu_count_of s) s.cpus described_of.cpu_parents s.domains)
      && every domain_limit (domain_slotb (platform_at s) s.tree s.domains)
