-- The test of a state record holds exactly if the record is sound.
use Prim.Native.Nat.{ℕ, ◌<◌, ◌≤◌}
use mathlib.Core.Bool.{true, ◌&&◌, and-eq-true_iff}
use mathlib.Core.List.{List}
use mathlib.Core.Path.{◌≡◌, refl, ap}
use native.Mathlib.Omega.{arith}
use lib.Dec.{leb}
use lib.ListN.{get_or}
use borrow.Author.Tests.{leb-true}
use Rattle.basics.proofs.Is.{Is, is_as, is_true, is_eq, is_both, is_and, is_if_lt, is_if_eq}
use Rattle.basics.proofs.Tests.{below_or}
use Rattle.model.specs.declared.board.Tree.{Tree}
use Rattle.model.specs.declared.node.Span.{Span}
use Rattle.model.specs.declared.state.State.{State}
use Rattle.model.specs.declared.states.Platform.{Platform}
use Rattle.model.specs.Limits.{cpu_limit, domain_limit, entry_limit, highest_max, state_limit}
use Rattle.model.specs.Sound.{SameDomain, SoundDomain, Spare, Sound}
use Rattle.model.specs.SoundTest.{same_rowb, same_treeb, entries_endb, cpu_slotb, domain_slotb, minimum_in, described_of, soundb}
use Rattle.model.specs.State.{platform_at, max_at, domain_count_of, cpu_count_of, topology_at, domain_state_at, copy_at}
use Rattle.model.specs.Below.{every}
use Rattle.model.specs.States.{in_rangeb, platformb, betweenb, off_of}
use Rattle.model.specs.Topology.{domains_of, cpus_of, boardb}
use Rattle.model.specs.Tree.{no_parent, tree_of, cpu_parents_of, parent_at, cpu_span_at, child_span_at}
use Rattle.model.proofs.Below.{is_every}
use Rattle.model.proofs.Spans.{span_is}
use Rattle.topology_laws.proofs.Accepted.{Accepted, accepted}
use Rattle.topology_laws.proofs.Answer.{answer_made, is_answered}
use Rattle.sound_laws.proofs.CpuSlot.{UsedCpu, UnusedCpu, is_cpu_slot}

-- two rows have the same byte at each domain's number
is_same_row : (a b : List ℕ) → Is (same_rowb a b) ((k : ℕ) → k < domain_limit → get_or a k 0 ≡ get_or b k 0)
is_same_row a b = is_every domain_limit (λ k. is_eq (get_or a k 0) (get_or b k 0))

-- a domain's slot that is not in use
record UnusedDomain (s : State) (k : ℕ) : Type 0 where
  pub state : domain_state_at s k ≡ 0
  pub copy : copy_at s k ≡ 0

-- a domain's slot that is in use
record UsedDomain (s : State) (k : ℕ) : Type 0 where
  pub domain : SoundDomain s k
  pub top_copy : parent_at s.tree k ≡ no_parent → copy_at s k ≡ 0

is_domain_slot : (s : State) (k : ℕ) →
    Is (domain_slotb (platform_at s) s.tree s.domains k)
    ((k < domain_count_of s → UsedDomain s k) × (domain_count_of s ≤ k → UnusedDomain s k))
unfolding domain_slotb
is_domain_slot s k =
    is_if_lt k (domain_count_of s)
    (is_as
    (is_both
    (is_both (is_true (in_rangeb (platform_at s) (domain_state_at s k)))
    (is_eq (domain_state_at s k) (minimum_in (platform_at s) s.tree s.domains.requests k)))
    (is_if_eq (parent_at s.tree k) no_parent (is_eq (copy_at s k) 0) (is_true (in_rangeb (platform_at s) (copy_at s k)))))
    (λ q. record {
      domain = record { in_range = q.0.0; minimum = q.0.1; copy_in_range = q.1.1 };
      top_copy = q.1.0;
    })
    (λ r. ((r.domain.in_range, r.domain.minimum), (r.top_copy, r.domain.copy_in_range))))
    (is_as (is_both (is_eq (domain_state_at s k) 0) (is_eq (copy_at s k) 0))
    (λ q. record { state = q.0; copy = q.1 }) (λ r. (r.state, r.copy)))

-- past the topology's last entry is 0
is_entries_end : (row : List ℕ) (last : ℕ) → Is (entries_endb row last) ((i : ℕ) → last < i → i < entry_limit → get_or row i 0 ≡ 0)
is_entries_end row last =
    is_as (is_every entry_limit (λ i. is_if_lt last i (is_eq (get_or row i 0) 0) (is_true true)))
    (λ q i h b. (q i b).0 h) (λ r i b. (λ h. r i h b, λ _. refl))

-- an acceptable platform has from one level to the highest MAX, and a state that is not OFF
pub platform_has : (p : Platform) → platformb p ≡ true → (1 ≤ p.max.0) × (p.max.0 ≤ highest_max) × (2 ≤ p.states)
platform_has p h =
    let q = (and-eq-true_iff (betweenb 1 p.max.0 highest_max && betweenb 2 p.states state_limit) (betweenb 1 p.down (off_of p))).0 h in
    let r = (and-eq-true_iff (betweenb 1 p.max.0 highest_max) (betweenb 2 p.states state_limit)).0 q.0 in
    let max = (and-eq-true_iff (leb 1 p.max.0) (leb p.max.0 highest_max)).0 r.0 in
    let states = (and-eq-true_iff (leb 2 p.states) (leb p.states state_limit)).0 r.1 in
    (leb-true 1 p.max.0 max.0, leb-true p.max.0 highest_max max.1, leb-true 2 p.states states.0)

module _ (s : State) where
  abbrev t : List ℕ
  t = topology_at s

  abbrev made : Tree
  made = tree_of t (max_at s)

  -- the tree is the one that the topology describes
  record Described : Type 0 where
    pub domain_count : domain_count_of s ≡ domains_of t (max_at s)
    pub cpu_count : cpu_count_of s ≡ cpus_of t (max_at s)
    pub domains : (k : ℕ) → k < domain_limit → SameDomain s.tree (tree_of t (max_at s)) k

  is_tree : boardb (platform_at s) s.board.primary t ≡ true → Is (same_treeb s.tree (described_of s).tree) Described
  unfolding tree_of
  is_tree h =
      rw (answer_made (platform_at s) s.board.primary t h)
      (is_as
      (is_both
      (is_both
      (is_both
      (is_both
      (is_both (is_both (is_eq (domain_count_of s) (domains_of t (max_at s))) (is_eq (cpu_count_of s) (cpus_of t (max_at s))))
      (is_same_row s.tree.parents made.parents))
      (is_same_row s.tree.cpu_starts made.cpu_starts))
      (is_same_row s.tree.cpu_ends made.cpu_ends))
      (is_same_row s.tree.child_starts made.child_starts))
      (is_same_row s.tree.child_ends made.child_ends))
      (λ q. record {
        domain_count = q.0.0.0.0.0.0;
        cpu_count = q.0.0.0.0.0.1;
        domains = λ k h. record {
          parent = q.0.0.0.0.1 k h;
          cpus = span_is (cpu_span_at s.tree k) (cpu_span_at made k) (q.0.0.0.1 k h) (q.0.0.1 k h);
          children = span_is (child_span_at s.tree k) (child_span_at made k) (q.0.1 k h) (q.1 k h);
        };
      })
      (λ r. (
        (
          (
            (
              ((r.domain_count, r.cpu_count), λ k h. (r.domains k h).parent),
              λ k h. ap (λ (x : Span). x.start) (r.domains k h).cpus,
            ),
            λ k h. ap (λ (x : Span). x.end) (r.domains k h).cpus,
          ),
          λ k h. ap (λ (x : Span). x.start) (r.domains k h).children,
        ),
        λ k h. ap (λ (x : Span). x.end) (r.domains k h).children,
      )))

  -- so has the platform of an acceptable board
  board_has : boardb (platform_at s) s.board.primary t ≡ true → (1 ≤ max_at s) × (max_at s ≤ highest_max) × (2 ≤ (platform_at s).states)
  board_has h = platform_has (platform_at s) ((and-eq-true_iff (platformb (platform_at s)) _).0 h).0

  pub board_min : boardb (platform_at s) s.board.primary t ≡ true → 1 ≤ max_at s
  board_min h = (board_has h).0

  pub board_max : boardb (platform_at s) s.board.primary t ≡ true → max_at s ≤ highest_max
  board_max h = (board_has h).1

  pub board_states : boardb (platform_at s) s.board.primary t ≡ true → 2 ≤ (platform_at s).states
  board_states h = (board_has h).2

  -- its topology
  pub board_accepted : boardb (platform_at s) s.board.primary t ≡ true → Accepted t (max_at s) s.board.primary.0
  board_accepted h = accepted t (max_at s) s.board.primary.0 ((and-eq-true_iff (platformb (platform_at s)) _).0 h).1

  -- a level that is not used for a CPU that is there lies above MAX
  past : (level c : ℕ) → Spare s level c → c < cpu_count_of s → max_at s < level
  past level c f b = below_or (max_at s) level (λ u. u) (λ u. absurd (omega (arith, f.spare u, b)))

  above : (level c : ℕ) → max_at s < level → level ≤ highest_max → c < cpu_limit → Spare s level c
  above level c g l b = record { low = omega arith; high = l; slot = b; spare = λ m. absurd (omega arith) }

  -- every slot of a CPU
  record Cpus : Type 0 where
    pub used : (c : ℕ) → c < cpu_limit → c < cpu_count_of s → UsedCpu s (get_or (cpu_parents_of t (max_at s)) c 0) c
    pub unused : (c : ℕ) → c < cpu_limit → cpu_count_of s ≤ c → UnusedCpu s c

  is_cpus : boardb (platform_at s) s.board.primary t ≡ true →
      Is (every cpu_limit (cpu_slotb (platform_at s) (cpu_count_of s) s.cpus (described_of s).cpu_parents s.domains)) Cpus
  is_cpus h =
      rw (answer_made (platform_at s) s.board.primary t h)
      (is_as (is_every cpu_limit (is_cpu_slot s (board_max h) (cpu_parents_of t (max_at s))))
      (λ q. record { used = λ c b. (q c b).0; unused = λ c b. (q c b).1 })
      (λ r c b. (r.used c b, r.unused c b)))

  -- every slot of a domain
  record DomainSlots : Type 0 where
    pub used : (k : ℕ) → k < domain_limit → k < domain_count_of s → UsedDomain s k
    pub unused : (k : ℕ) → k < domain_limit → domain_count_of s ≤ k → UnusedDomain s k

  is_domains : Is (every domain_limit (domain_slotb (platform_at s) s.tree s.domains)) DomainSlots
  is_domains =
      is_as (is_every domain_limit (is_domain_slot s))
      (λ q. record { used = λ c b. (q c b).0; unused = λ c b. (q c b).1 })
      (λ r c b. (r.used c b, r.unused c b))

  -- the test holds exactly if the record is sound
  pub is_sound : Is (soundb s) (Sound s)
  unfolding soundb
  is_sound =
      is_as
      (is_both
      (is_and
      (is_both (is_and (is_answered (platform_at s) s.board.primary t) is_tree) (is_entries_end s.board.topology (domain_count_of s)))
      (λ q. is_cpus q.0.0))
      is_domains)
      (λ q. sound_of q.0.0.0.0 q.0.0.0.1 q.0.0.1 q.0.1 q.1)
      (λ r. (
        (
          (
            (r.fits.accepted, record { domain_count = r.fits.domain_count; cpu_count = r.fits.cpu_count; domains = r.fits.domains }),
            r.unused.entries,
          ),
          cpus_of_lem r,
        ),
        domains_of_lem r,
      ))
    where
      sound_of : boardb (platform_at s) s.board.primary t ≡ true → Described →
          ((i : ℕ) → domain_count_of s < i → i < entry_limit → get_or s.board.topology i 0 ≡ 0) → Cpus → DomainSlots → Sound s
      sound_of h d e c k = let a = board_accepted h in record {
        fits = record {
          accepted = h;
          domain_count = d.domain_count;
          cpu_count = d.cpu_count;
          domains = d.domains;
          cpu_parents = λ i b. (c.used i (omega (arith, a.fit, d.cpu_count)) b).under;
        };
        cpus = λ i b. (c.used i (omega (arith, a.fit, d.cpu_count)) b).cpu;
        domains = λ i b. (k.used i (omega (arith, a.few, d.domain_count)) b).domain;
        unused = record {
          entries = e;
          cpus = λ i h b. (c.unused i b h).cpu;
          requests = λ level i f.
              below_or i (cpu_count_of s)
              (λ u. (c.used i f.slot u).requests_above level (past level i f u) f.high)
              (λ u. (c.unused i f.slot u).requests level f.low f.high);
          suspends = λ level i f.
              below_or i (cpu_count_of s)
              (λ u. (c.used i f.slot u).suspends_above level (past level i f u) f.high)
              (λ u. (c.unused i f.slot u).suspends level f.low f.high);
          states = λ i h b. (k.unused i b h).state;
          copies = λ i h b. (k.unused i b h).copy;
          top_copies = λ i h p. (k.used i (omega (arith, a.few, d.domain_count)) h).top_copy p;
        };
      }

      cpus_of_lem : Sound s → Cpus
      cpus_of_lem r = record {
        used = λ c b h. record {
          under = r.fits.cpu_parents c h;
          cpu = r.cpus c h;
          requests_above = λ level g l. r.unused.requests level c (above level c g l b);
          suspends_above = λ level g l. r.unused.suspends level c (above level c g l b);
        };
        unused = λ c b h. record {
          cpu = r.unused.cpus c h b;
          requests = λ level g l. r.unused.requests level c (record { low = g; high = l; slot = b; spare = λ _. h });
          suspends = λ level g l. r.unused.suspends level c (record { low = g; high = l; slot = b; spare = λ _. h });
        };
      }

      domains_of_lem : Sound s → DomainSlots
      domains_of_lem r = record {
        used = λ k b h. record { domain = r.domains k h; top_copy = r.unused.top_copies k h };
        unused = λ k b h. record { state = r.unused.states k h b; copy = r.unused.copies k h b };
      }
