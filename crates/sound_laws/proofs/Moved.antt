-- One CPU moves: its record and its requests change, the domains over it follow, and all else stays. A sound state stays sound.
use Prim.Native.Nat.{ℕ, suc, ◌<◌, ◌≤◌}
use mathlib.Core.Bool.{true, false, cond, true≢false}
use mathlib.Core.List.{List}
use mathlib.Core.Logic.{◌⊎◌, ⊎_elim}
use mathlib.Core.Path.{◌≡◌, sym, ap, ◌∙◌}
use native.Mathlib.Omega.{arith}
use borrow.Author.Tests.{lt-ltb, eqb-true, eqb-false}
use lib.Dec.{eqb}
use lib.ListN.{get_or, length, set}
use lib.Seq.{get_or-set_same, get_or-set_other}
use Rattle.basics.proofs.Tests.{by, below_or}
use Rattle.minimum.proofs.Minimum.{Counted, minimum_is, minimum_same}
use Rattle.model.specs.Cpu.{onb, heldb}
use Rattle.model.specs.declared.cpu.CpuPowerNode.{CpuPowerNode}
use Rattle.model.specs.declared.sorts.DomainNumber.{DomainNumber}
use Rattle.model.specs.declared.state.Domains.{Domains}
use Rattle.model.specs.declared.state.State.{State}
use Rattle.model.specs.declared.states.CompositeState.{CompositeState}
use Rattle.model.specs.Composite.{state_at, kind_at}
use Rattle.model.specs.Limits.{cpu_limit, highest_max}
use Rattle.model.specs.Path.{above_of, level_at}
use Rattle.model.specs.Sound.{entry_dueb, Fits, SoundCpu, SoundDomain, Spare, Unused, Sound}
use Rattle.model.specs.Span.{in_spanb, span_minimum_of}
use Rattle.model.specs.State.{no_cpu, state_of, asked_in, platform_at, max_at, off_at, domain_count_of, cpu_count_of, cpu_at, asked_of}
use Rattle.model.specs.State.{domain_state_at, request_at, suspend_at, copy_at}
use Rattle.model.specs.States.{run, in_rangeb, kind_of, depth_of}
use Rattle.model.specs.Table.{at_level}
use Rattle.model.specs.Tree.{no_parent, parent_at, cpu_span_at}
use Rattle.sound_laws.proofs.Reflect.{board_accepted, board_max, board_states}
use Rattle.sound_laws.proofs.Stored.{on_path, span_path, span_cpus, stored_level_low}

-- the state with another record of a CPU and other rows of the domains
abbrev pub moved_to : State → ℕ → CpuPowerNode → Domains → State
moved_to s c r d = state_of s.board s.tree (set s.cpus c r) d s.mode

-- the domain of level n + 1 over a CPU, by what is stored
abbrev pub over_at : State → ℕ → ℕ → ℕ
over_at s c n = above_of s.tree.parents (cpu_at s c).parent.0 n

-- what a CPU may ask for, by level, with this record
pub record MayAsk (s : State) (r : CpuPowerNode) (asks : ℕ → ℕ) : Type 0 where
  pub in_range : (level : ℕ) → level ≤ max_at s → in_rangeb (platform_at s) (asks level) ≡ true
  pub off : onb r.affinity_info ≡ false → (level : ℕ) → level ≤ max_at s → asks level ≡ off_at s
  pub running : onb r.affinity_info ≡ true → asks 0 ≡ run → (level : ℕ) → level ≤ max_at s → asks level ≡ run
  pub suspended : onb r.affinity_info ≡ true → (asks 0 ≡ run → ⊥) → (below : ℕ) → below < max_at s →
      depth_of (kind_of (platform_at s) (asks (suc below))) ≤ depth_of (kind_of (platform_at s) (asks below))
  pub entry : heldb r.entry_point ≡ entry_dueb (platform_at s) r.affinity_info r.local_state

-- a copy that was written: in range, and of a domain below the top
pub record Copied (s : State) (k v : ℕ) : Type 0 where
  pub in_range : in_rangeb (platform_at s) v ≡ true
  pub domain : k < domain_count_of s
  pub not_top : parent_at s.tree k ≡ no_parent → ⊥

-- CPU c moves to the record r and asks for this; the rows become d
pub record Moves (s : State) (c : ℕ) (r : CpuPowerNode) (d : Domains) (asks : ℕ → ℕ) : Type 0 where
  pub is_cpu : c < cpu_count_of s
  pub slot : c < length s.cpus
  pub under : r.parent ≡ (cpu_at s c).parent
  pub own : (level : ℕ) → level ≤ max_at s → state_at (asked_in d.requests r c) level ≡ asks level
  pub may : MayAsk s r asks
  -- what others ask for stays, and what it asks for above MAX
  pub kept : (level i : ℕ) → 1 ≤ level → i < cpu_limit → (i ≡ c → max_at s < level) → at_level d.requests level i ≡ request_at s level i
  pub suspends : d.suspends ≡ s.domains.suspends
  -- the domains over it are the minimum of what is asked of them
  pub over : (n : ℕ) → n < max_at s →
      get_or d.states (over_at s c n) 0 ≡ span_minimum_of (cpu_span_at s.tree (over_at s c n)) (at_level d.requests (suc n)) (off_at s)
  pub beside : (k : ℕ) → ((n : ℕ) → n < max_at s → k ≡ over_at s c n → ⊥) → get_or d.states k 0 ≡ domain_state_at s k
  pub copies : (k : ℕ) → (get_or d.copies k 0 ≡ copy_at s k) ⊎ Copied s k (get_or d.copies k 0)

module _ (s : State) (sound : Sound s) where
  pub cpus_few : cpu_count_of s ≤ cpu_limit
  cpus_few = omega (arith, (board_accepted s sound.fits.accepted).fit, sound.fits.cpu_count)

  -- RUN and OFF are states, and so is what is no deeper than OFF
  pub in_range_to_off : (v : ℕ) → v ≤ off_at s → in_rangeb (platform_at s) v ≡ true
  in_range_to_off v h = lt-ltb v (platform_at s).states (omega (arith, board_states s sound.fits.accepted))

module _ (s : State) (sound : Sound s) (c : ℕ) (r : CpuPowerNode) (d : Domains) (asks : ℕ → ℕ) (m : Moves s c r d asks) where
  abbrev after : State
  after = moved_to s c r d

  abbrev parents : List ℕ
  parents = s.tree.parents

  abbrev max : ℕ
  max = max_at s

  few : cpu_count_of s ≤ cpu_limit
  few = cpus_few s sound

  low : max ≤ highest_max
  low = board_max s sound.fits.accepted

  -- the CPU's own record, and those of others
  pub moved_own : cpu_at after c ≡ r
  moved_own = get_or-set_same s.cpus c r no_cpu m.slot

  pub moved_other : (i : ℕ) → (i ≡ c → ⊥) → cpu_at after i ≡ cpu_at s i
  moved_other i n = get_or-set_other s.cpus c i r no_cpu n

  same_suspend : (l i : ℕ) → suspend_at after l i ≡ suspend_at s l i
  same_suspend l i = ap (λ (row : List ℕ). at_level row l i) m.suspends

  -- what another CPU asks for stays
  asked_is : (i : ℕ) → i < cpu_limit → (i ≡ c → ⊥) → asked_of after i ≡ asked_of s i
  asked_is i b n =
      let e = ap (λ (x : CpuPowerNode). x.local_state) (moved_other i n) in
      rw (
        e,
        m.kept 1 i (omega arith) b (λ z. absurd (n z)),
        m.kept 2 i (omega arith) b (λ z. absurd (n z)),
        m.kept 3 i (omega arith) b (λ z. absurd (n z)),
      )

  -- what it asks for itself
  own_asked : (l : ℕ) → l ≤ max → state_at (asked_of after c) l ≡ asks l
  own_asked l h = ap (λ (x : CpuPowerNode). state_at (asked_in d.requests x c) l) moved_own ∙ m.own l h

  -- what a CPU asks for after the move
  pub moved_asks : (i l : ℕ) → i < cpu_count_of s → l ≤ max →
      state_at (asked_of after i) l ≡ cond (eqb i c) (asks l) (state_at (asked_of s i) l)
  moved_asks i l h g =
      by (eqb i c)
      (λ e. simp e (ap (λ (j : ℕ). state_at (asked_of after j) l) (eqb-true i c e) ∙ own_asked l g))
      (λ e. simp e (ap (λ (x : CompositeState). state_at x l) (asked_is i (omega (arith, few)) (eqb-false i c e))))

  -- the domain above a CPU stays
  same_parent : (i : ℕ) → (cpu_at after i).parent.0 ≡ (cpu_at s i).parent.0
  same_parent i =
      by (eqb i c)
      (λ e. let z = eqb-true i c e in rw z (ap (λ (x : CpuPowerNode). x.parent.0) moved_own ∙ ap (λ (k : DomainNumber). k.0) m.under))
      (λ e. ap (λ (x : CpuPowerNode). x.parent.0) (moved_other i (eqb-false i c e)))

  fits_after : Fits after
  fits_after = record {
    accepted = sound.fits.accepted;
    domain_count = sound.fits.domain_count;
    cpu_count = sound.fits.cpu_count;
    domains = sound.fits.domains;
    cpu_parents = λ i h. same_parent i ∙ sound.fits.cpu_parents i h;
  }

  own_cpu : SoundCpu after c
  own_cpu =
      let on = ap (λ (x : CpuPowerNode). onb x.affinity_info) (sym moved_own) in
      let state = ap (λ (x : CpuPowerNode). x.local_state) moved_own in
      let depth : ℕ → ℕ = λ v. depth_of (kind_of (platform_at s) v) in
      let own_state = own_asked 0 (omega arith) in
      record {
        in_range = λ level g. ap (in_rangeb (platform_at s)) (own_asked level g) ∙ m.may.in_range level g;
        off = λ o level g. own_asked level g ∙ m.may.off (on ∙ o) level g;
        running = λ o u level g. own_asked level g ∙ m.may.running (on ∙ o) (sym own_state ∙ u) level g;
        suspended = λ o n below g.
            omega (
              arith,
              ap depth (own_asked (suc below) (omega arith)),
              ap depth (own_asked below (omega arith)),
              m.may.suspended (on ∙ o) (λ u. n (own_state ∙ u)) below g,
            );
        entry = rw (moved_own, state) m.may.entry;
        no_suspend = λ level a b. same_suspend level c ∙ (sound.cpus c m.is_cpu).no_suspend level a b;
      }

  other_cpu : (i : ℕ) → i < cpu_count_of s → (i ≡ c → ⊥) → SoundCpu after i
  other_cpu i h n =
      let asked = asked_is i (omega (arith, few)) n in
      let cpu = moved_other i n in
      let before = sound.cpus i h in
      let on = ap (λ (x : CpuPowerNode). onb x.affinity_info) (sym cpu) in
      let state = ap (λ (x : CpuPowerNode). x.local_state) (sym cpu) in
      record {
        in_range = λ level g. ap (λ (x : CompositeState). in_rangeb (platform_at s) (state_at x level)) asked ∙ before.in_range level g;
        off = λ o level g. ap (λ (x : CompositeState). state_at x level) asked ∙ before.off (on ∙ o) level g;
        running = λ o u level g.
            ap (λ (x : CompositeState). state_at x level) asked
            ∙ before.running (on ∙ o) (state ∙ u) level g;
        suspended = λ o e below g.
            let depth : ℕ → CompositeState → ℕ = λ l x. depth_of (kind_at (platform_at s) x l) in
            omega (arith, ap (depth (suc below)) asked, ap (depth below) asked, before.suspended (on ∙ o) (λ u. e (sym state ∙ u)) below g);
        entry = rw (cpu, sym state) before.entry;
        no_suspend = λ level a b. same_suspend level i ∙ before.no_suspend level a b;
      }

  cpu_after : (i : ℕ) → i < cpu_count_of s → SoundCpu after i
  cpu_after i h =
      by (eqb i c) (λ e. let z = eqb-true i c e in rw z own_cpu) (λ e. other_cpu i h (eqb-false i c e))

  -- a domain over the CPU is the minimum of what is asked of it
  over_after : (k : ℕ) → k < domain_count_of s → in_spanb (cpu_span_at s.tree k) c ≡ true →
      domain_state_at after k ≡ span_minimum_of (cpu_span_at s.tree k) (request_at after (level_at parents max k)) (off_at s)
  over_after k h e =
      let q = span_path s sound.fits c k m.is_cpu h e in
      let o = on_path s sound.fits c q.0 m.is_cpu q.1 in
      let level : level_at parents max k ≡ suc q.0 = ap (level_at parents max) q.2 ∙ o.level in
      ap (domain_state_at after) q.2 ∙ m.over q.0 q.1
      ∙ ap (λ (j : ℕ). span_minimum_of (cpu_span_at s.tree j) (request_at after (suc q.0)) (off_at s)) (sym q.2)
      ∙ ap (λ (l : ℕ). span_minimum_of (cpu_span_at s.tree k) (request_at after l) (off_at s)) (sym level)

  -- another domain stays, and so do the requests that count for it
  beside_after : (k : ℕ) → k < domain_count_of s → in_spanb (cpu_span_at s.tree k) c ≡ false →
      domain_state_at after k ≡ span_minimum_of (cpu_span_at s.tree k) (request_at after (level_at parents max k)) (off_at s)
  beside_after k h e =
      let off : (j : ℕ) → j < max → k ≡ over_at s c j → ⊥ =
      λ j b z. true≢false (sym (ap (λ (i : ℕ). in_spanb (cpu_span_at s.tree i) c) z
      ∙ (on_path s sound.fits c j m.is_cpu b).spans) ∙ e) in
      let counts = in_spanb (cpu_span_at s.tree k) in
      let level = level_at parents max k in
      let n = (cpu_span_at s.tree k).end in
      let same : (i : ℕ) → Counted n counts i → request_at after level i ≡ request_at s level i =
      λ i w. m.kept level i (stored_level_low s sound.fits k h) (omega (arith, span_cpus s sound.fits k i h w.is, few))
      (λ z. absurd (true≢false (sym (ap counts (sym z) ∙ w.is) ∙ e))) in
      m.beside k off ∙ (sound.domains k h).minimum
      ∙ minimum_same n n counts counts (request_at s level) (request_at after level) (off_at s)
      (record { counted = λ i w. w; same = λ i w. sym (same i w) })
      (record { counted = λ i w. w; same = same })

  minimum_after : (k : ℕ) → k < domain_count_of s →
      domain_state_at after k ≡ span_minimum_of (cpu_span_at s.tree k) (request_at after (level_at parents max k)) (off_at s)
  minimum_after k h = by (in_spanb (cpu_span_at s.tree k) c) (over_after k h) (beside_after k h)

  domain_after : (k : ℕ) → k < domain_count_of s → SoundDomain after k
  domain_after k h = record {
    in_range =
        let counts = in_spanb (cpu_span_at s.tree k) in
        let least = minimum_is counts (request_at after (level_at parents max k)) (off_at s) (cpu_span_at s.tree k).end in
        in_range_to_off s sound (domain_state_at after k) (omega (arith, minimum_after k h, least.start));
    minimum = minimum_after k h;
    copy_in_range = λ n.
        ⊎_elim (λ e. ap (in_rangeb (platform_at s)) e ∙ (sound.domains k h).copy_in_range n) (λ e. e.in_range) (m.copies k);
  }

  -- a copy that is not written stays
  same_copy : (k : ℕ) → (Copied s k (copy_at after k) → ⊥) → copy_at after k ≡ copy_at s k
  same_copy k n = ⊎_elim (λ e. e) (λ e. absurd (n e)) (m.copies k)

  -- what is spare after it was spare before
  spare : (level i : ℕ) → Spare after level i → Spare s level i
  spare level i f = record { low = f.low; high = f.high; slot = f.slot; spare = f.spare }

  -- an unused slot of a domain is on no CPU's path
  unused_beside : (k : ℕ) → domain_count_of s ≤ k → (n : ℕ) → n < max → k ≡ over_at s c n → ⊥
  unused_beside k h n b z = omega (arith, z, (on_path s sound.fits c n m.is_cpu b).domain)

  unused_after : Unused after
  unused_after = record {
    entries = sound.unused.entries;
    cpus = λ i h b. moved_other i (λ z. omega (arith, z, h, m.is_cpu)) ∙ sound.unused.cpus i h b;
    requests = λ level i f.
        m.kept level i f.low f.slot (λ z. below_or max level (λ u. u) (λ u. absurd (omega (arith, z, m.is_cpu, f.spare u))))
        ∙ sound.unused.requests level i (spare level i f);
    suspends = λ level i f. same_suspend level i ∙ sound.unused.suspends level i (spare level i f);
    states = λ k h b. m.beside k (unused_beside k h) ∙ sound.unused.states k h b;
    copies = λ k h b. same_copy k (λ e. omega (arith, h, e.domain)) ∙ sound.unused.copies k h b;
    top_copies = λ k h e. same_copy k (λ w. w.not_top e) ∙ sound.unused.top_copies k h e;
  }

  -- the state is sound after it
  pub moved_sound : Sound after
  moved_sound = record { fits = fits_after; cpus = cpu_after; domains = domain_after; unused = unused_after }
