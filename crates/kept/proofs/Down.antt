-- A running CPU goes down: coordinate takes its request up to a level. The domains over it follow, and what is resolved is what is
-- stored along its path.
use Prim.Native.Nat.{ℕ, zero, suc, ◌-◌, ◌<◌, ◌≤◌}
use mathlib.Core.Bool.{true, and-eq-true_iff}
use mathlib.Core.List.{List}
use mathlib.Core.Logic.{inl, inr, ⊎_elim}
use mathlib.Core.Path.{◌≡◌, refl, sym, ap, ◌∙◌}
use native.Mathlib.Omega.{arith}
use borrow.Author.Tests.{eqb-true, eqb-false, le-ltb, le-leb, lt-leb}
use lib.Dec.{eqb}
use lib.ListN.{get_or}
use Rattle.basics.proofs.Tests.{by, below_or}
use Rattle.minimum.proofs.Deeper.{minimum_no_deeper}
use Rattle.minimum.proofs.Minimum.{minimum_run}
use Rattle.model.proofs.Spans.{span_in_lem}
use Rattle.model.specs.Calls.{runningb}
use Rattle.model.specs.Composite.{state_at}
use Rattle.model.specs.Coordinate.{Coordinated, written_to}
use Rattle.model.specs.Cpu.{onb}
use Rattle.model.specs.declared.cpu.CpuPowerNode.{CpuPowerNode}
use Rattle.model.specs.declared.sorts.DomainNumber.{DomainNumber}
use Rattle.model.specs.declared.state.Domains.{Domains}
use Rattle.model.specs.declared.state.State.{State}
use Rattle.model.specs.declared.states.CompositeState.{CompositeState}
use Rattle.model.specs.declared.states.Platform.{Platform}
use Rattle.model.specs.Limits.{cpu_limit, domain_limit, highest_max, levels}
use Rattle.model.specs.Path.{above_of, level_at, local_states_of}
use Rattle.model.specs.Span.{in_spanb, span_minimum_of}
use Rattle.model.specs.State.{asked_in, platform_at, max_at, off_at, domain_count_of, cpu_count_of, cpu_at, asked_of, states_along}
use Rattle.model.specs.State.{domain_state_at, request_at}
use Rattle.model.specs.States.{run, kind_of, depth_of}
use Rattle.model.specs.Steps.{coordinated_to}
use Rattle.model.specs.Table.{at_level}
use Rattle.model.specs.Tree.{parent_at, cpu_span_at}
use Rattle.sound_laws.proofs.Coordinated.{copy_either, resolved_not_reached, state_beside, request_asked, request_kept}
use Rattle.sound_laws.proofs.Deepens.{asks_no_deeper}
use Rattle.sound_laws.proofs.Levels.{asked_at, asked_in_at}
use Rattle.sound_laws.proofs.Moved.{MayAsk, Moves, moved_to, over_at, cpus_few, in_range_to_off, moved_own}
use Rattle.sound_laws.proofs.Reflect.{board_accepted, board_max}
use Rattle.sound_laws.proofs.Settled.{OnRunningPath, Settled, settled}
use Rattle.sound_laws.proofs.Stored.{on_path, path_not_top, span_cpus, span_nested}
use Rattle.state_laws.proofs.States.{kind_running, running_is_run, no_deeper_than_running}
use Rattle.kept.specs.Lengths.{SoundRecord}

-- states that are the same at every level
states_same : (a b : CompositeState) → ((l : ℕ) → l < levels → state_at a l ≡ state_at b l) → a ≡ b
states_same a b h = levels_same _ _ _ _ _ _ _ _ (h 0 (omega arith)) (h 1 (omega arith)) (h 2 (omega arith)) (h 3 (omega arith))
  where
    made : ℕ → ℕ → ℕ → ℕ → CompositeState
    made w x y z = record { level0 = w; level1 = x; level2 = y; level3 = z }

    levels_same : (w x y z k l m n : ℕ) → w ≡ k → x ≡ l → y ≡ m → z ≡ n → made w x y z ≡ made k l m n
    levels_same w x y z k l m n d e f g = rw (d, e, f, g)

-- the states along a path, up to MAX and above it
module _ (parents states : List ℕ) (max : ℕ) (r : CpuPowerNode) where
  local_low : (n : ℕ) → suc n < levels → n < max → state_at (local_states_of parents states max r) (suc n) ≡ get_or states (above_of parents r.parent.0 n) 0
  local_low zero h b = simp (le-leb 1 max (omega arith))
  local_low (suc zero) h b = simp (le-leb 2 max (omega arith))
  local_low (suc (suc zero)) h b = simp (le-leb 3 max (omega arith))
  local_low (suc (suc (suc n))) h b = absurd (omega arith)

  local_high : (n : ℕ) → suc n < levels → max ≤ n → state_at (local_states_of parents states max r) (suc n) ≡ run
  local_high zero h b = simp (lt-leb 1 max (omega arith))
  local_high (suc zero) h b = simp (lt-leb 2 max (omega arith))
  local_high (suc (suc zero)) h b = simp (lt-leb 3 max (omega arith))
  local_high (suc (suc (suc n))) h b = absurd (omega arith)

-- a running CPU asks for these states, in which its record is r afterwards; only the levels up to `upto` are touched
pub record GoesDown (s : State) (c : ℕ) (r : CpuPowerNode) (asked : CompositeState) (upto : ℕ) : Type 0 where
  pub is_cpu : c < cpu_count_of s
  pub was_running : runningb (cpu_at s c) ≡ true
  pub under : r.parent ≡ (cpu_at s c).parent
  pub state : r.local_state ≡ state_at asked 0
  pub inside : upto ≤ max_at s
  pub above : (l : ℕ) → upto < l → state_at asked l ≡ run
  pub never : (below : ℕ) → below < max_at s →
      depth_of (kind_of (platform_at s) (state_at asked (suc below))) ≤ depth_of (kind_of (platform_at s) (state_at asked below))
  pub may : MayAsk s r (state_at asked)

module _ (s : State) (whole : SoundRecord s) (c : ℕ) (r : CpuPowerNode) (asked : CompositeState) (upto : ℕ) (down : GoesDown s c r asked upto) where
  abbrev p : Platform
  p = platform_at s

  abbrev max : ℕ
  max = max_at s

  abbrev off : ℕ
  off = off_at s

  abbrev parents : List ℕ
  parents = s.tree.parents

  abbrev first : ℕ
  first = (cpu_at s c).parent.0

  abbrev x : Coordinated
  x = coordinated_to s.tree s.domains p c (cpu_at s c) upto asked

  abbrev rows : Domains
  rows = written_to s.domains x

  abbrev over : ℕ → ℕ
  over = over_at s c

  low : max ≤ highest_max
  low = board_max s whole.sound.fits.accepted

  few : cpu_count_of s ≤ cpu_limit
  few = cpus_few s whole.sound

  few_domains : domain_count_of s ≤ domain_limit
  few_domains =
      omega (arith, (board_accepted s whole.sound.fits.accepted).few, whole.sound.fits.domain_count)

  in_limit : c < cpu_limit
  in_limit = omega (arith, down.is_cpu, few)

  -- it asked for RUN at every level
  old_asked : (l : ℕ) → l ≤ max → state_at (asked_of s c) l ≡ run
  old_asked l h =
      let was = (and-eq-true_iff (onb (cpu_at s c).affinity_info) (eqb (cpu_at s c).local_state run)).0 down.was_running in
      (whole.sound.cpus c down.is_cpu).running was.0 (eqb-true _ run was.1) l h

  old_request : (l : ℕ) → 1 ≤ l → l ≤ max → request_at s l c ≡ run
  old_request l a h = sym (asked_at s c l a (omega (arith, low))) ∙ old_asked l h

  -- a domain over it whose request of it is RUN has the minimum RUN
  minimum_over : (n : ℕ) → n < max → (requests : ℕ → ℕ) → requests c ≡ run →
      span_minimum_of (cpu_span_at s.tree (over n)) requests off ≡ run
  minimum_over n b requests e =
      let span = cpu_span_at s.tree (over n) in
      let o = on_path s whole.sound.fits c n down.is_cpu b in
      minimum_run (in_spanb span) requests off span.end c (record { below = (span_in_lem span c o.spans).1; is = o.spans }) e

  -- so its domains ran
  ran : (n : ℕ) → n < max → domain_state_at s (over n) ≡ run
  ran n b =
      let o = on_path s whole.sound.fits c n down.is_cpu b in
      (whole.sound.domains (over n) o.domain).minimum
      ∙ ap (λ (l : ℕ). span_minimum_of (cpu_span_at s.tree (over n)) (request_at s l) off) o.level
      ∙ minimum_over n b (request_at s (suc n)) (old_request (suc n) (omega arith) (omega arith))

  -- the domains of a path are apart
  apart : (i j : ℕ) → i < max → j < max → over i ≡ over j → i ≡ j
  apart i j a b e =
      let level : (n : ℕ) → n < max → level_at parents max (over n) ≡ suc n =
      λ n h. (on_path s whole.sound.fits c n down.is_cpu h).level in
      omega (arith, sym (level i a) ∙ ap (level_at parents max) e ∙ level j b)

  -- what it asks for afterwards, and what others do
  own_request : (l : ℕ) → 1 ≤ l → l ≤ max → at_level rows.requests l c ≡ state_at asked l
  own_request l a h =
      below_or upto l
      (λ u. request_kept s.tree off first c upto s.domains asked
      in_limit whole.lengths.requests upto l c a in_limit (λ _. u)
      ∙ old_request l a h ∙ sym (down.above l u))
      (λ u. request_asked s.tree off first c upto s.domains asked
      in_limit whole.lengths.requests upto l (omega (arith, low, down.inside)) a u)

  other_request : (l i : ℕ) → 1 ≤ l → i < cpu_limit → (i ≡ c → max < l) → at_level rows.requests l i ≡ request_at s l i
  other_request l i a b n =
      request_kept s.tree off first c upto s.domains asked
      in_limit whole.lengths.requests upto l i a b (λ z. omega (arith, n z, down.inside))

  own_asked : (l : ℕ) → l ≤ max → state_at (asked_in rows.requests r c) l ≡ state_at asked l
  own_asked zero h = down.state
  own_asked (suc l) h =
      asked_in_at rows.requests r c (suc l) (omega arith) (omega (arith, low)) ∙ own_request (suc l) (omega arith) h

  -- what a CPU asks for afterwards never deepens in kind
  never_deepens : (n i : ℕ) → suc n < max → i < cpu_count_of s →
      depth_of (kind_of p (at_level rows.requests (suc (suc n)) i)) ≤ depth_of (kind_of p (at_level rows.requests (suc n) i))
  never_deepens n i b h =
      let depth : ℕ → ℕ = λ v. depth_of (kind_of p v) in
      by (eqb i c)
      (λ e. let z = eqb-true i c e in
      let own : (l : ℕ) → 1 ≤ l → l ≤ max → at_level rows.requests l i ≡ state_at asked l =
      λ l a g. ap (at_level rows.requests l) z ∙ own_request l a g in
      omega (arith, ap depth (own (suc (suc n)) (omega arith) (omega arith)), ap depth (own (suc n) (omega arith) (omega arith)), down.never (suc n) b))
      (λ e. let d = eqb-false i c e in
      let other : (l : ℕ) → 1 ≤ l → l ≤ max → at_level rows.requests l i ≡ state_at (asked_of s i) l =
      λ l a g. other_request l i a (omega (arith, few)) (λ z. absurd (d z)) ∙ sym (asked_at s i l a (omega (arith, low))) in
      omega (
        arith,
        ap depth (other (suc (suc n)) (omega arith) (omega arith)),
        ap depth (other (suc n) (omega arith) (omega arith)),
        asks_no_deeper s i (whole.sound.cpus i h) (suc n) b,
      ))

  -- so above a domain whose minimum is RUN the next one's is RUN too
  rises : (n : ℕ) → suc n < max →
      span_minimum_of (cpu_span_at s.tree (over n)) (at_level rows.requests (suc n)) off ≡ run →
      span_minimum_of (cpu_span_at s.tree (over (suc n))) (at_level rows.requests (suc (suc n))) off ≡ run
  rises n b e =
      let span = cpu_span_at s.tree (over n) in
      let wider = cpu_span_at s.tree (over (suc n)) in
      let o = on_path s whole.sound.fits c n down.is_cpu (omega arith) in
      let no_deeper = minimum_no_deeper p wider.end span.end (in_spanb wider) (in_spanb span)
      (at_level rows.requests (suc (suc n))) (at_level rows.requests (suc n)) off
      (λ i w.
      let in-wider = span_nested s whole.sound.fits c n i down.is_cpu b w.is in (
        record { below = (span_in_lem wider i in-wider).1; is = in-wider },
        le-ltb _ _ (never_deepens n i b (span_cpus s whole.sound.fits (over n) i o.domain w.is)),
      )) in
      running_is_run p _ (no_deeper_than_running _ (rw (kind_running p _ e) at no_deeper))

  running_path : OnRunningPath s.tree off first c upto s.domains asked
  running_path = record {
    low = omega (arith, low, down.inside);
    is_cpu = in_limit;
    long = whole.lengths.requests;
    wide = whole.lengths.states;
    inside = λ j b. omega (arith, (on_path s whole.sound.fits c j down.is_cpu (omega (arith, down.inside))).domain, few_domains);
    apart = λ i j a b e. apart i j (omega (arith, down.inside)) (omega (arith, down.inside)) e;
    cpus = λ i j b e.
        omega (
          arith,
          few,
          span_cpus s whole.sound.fits (over j) i (on_path s whole.sound.fits c j down.is_cpu (omega (arith, down.inside))).domain e,
        );
    ran = λ j b. ran j (omega (arith, down.inside));
    rises = λ j b e. rises j (omega (arith, down.inside)) e;
  }

  done : Settled s.tree off first c upto s.domains asked upto
  done = settled s.tree off first c upto s.domains asked running_path upto (omega arith)

  -- a domain that is not touched stays
  untouched : (k : ℕ) → ((n : ℕ) → n < upto → k ≡ over n → ⊥) → get_or rows.states k 0 ≡ domain_state_at s k
  untouched k aside =
      state_beside s.tree off first c upto s.domains asked upto k aside

  -- and so runs above the touched levels
  runs_above : (n : ℕ) → upto ≤ n → n < max → get_or rows.states (over n) 0 ≡ run
  runs_above n u b =
      untouched (over n) (λ j h e. omega (arith, apart n j b (omega (arith, down.inside)) e)) ∙ ran n b

  pub down_moves : Moves s c r rows (state_at asked)
  down_moves = record {
    is_cpu = down.is_cpu;
    slot = omega (arith, whole.lengths.cpus, in_limit);
    under = down.under;
    own = own_asked;
    may = down.may;
    kept = other_request;
    suspends = refl;
    over = λ n b.
        below_or n upto
        (λ u. done.stored n u)
        (λ u. runs_above n u b
        ∙ sym (minimum_over n b (at_level rows.requests (suc n))
        (own_request (suc n) (omega arith) (omega arith) ∙ down.above (suc n) (omega arith))));
    beside = λ k aside. untouched k (λ n b. aside n (omega (arith, down.inside)));
    copies = λ k.
        ⊎_elim inl
        (λ q. inr (record {
          in_range = in_range_to_off s whole.sound _ q.3;
          domain = omega (arith, q.2, (on_path s whole.sound.fits c q.0 down.is_cpu (omega (arith, q.1, down.inside))).domain);
          not_top = λ e. path_not_top s whole.sound.fits c q.0 down.is_cpu (omega (arith, q.1, down.inside)) (ap (parent_at s.tree) (sym q.2) ∙ e);
        }))
        (copy_either s.tree off first c upto s.domains asked whole.lengths.copies
        (λ j b. running_path.inside j b) upto k (omega arith));
  }

  -- above the touched levels it is as asked for
  not_reached : (l : ℕ) → (1 ≤ l → upto < l) → state_at x.resolved l ≡ state_at asked l
  not_reached = resolved_not_reached s.tree off first c upto s.domains asked upto

  -- what is resolved is stored along its path
  resolved_stored : (n : ℕ) → n < max → state_at x.resolved (suc n) ≡ get_or rows.states (over n) 0
  resolved_stored n b =
      below_or n upto
      (λ u. done.resolved n u ∙ sym (done.stored n u))
      (λ u. not_reached (suc n) (λ _. omega arith) ∙ down.above (suc n) (omega arith) ∙ sym (runs_above n u b))

  -- at level l, from 0 up
  handed_at : (l : ℕ) → l < levels → state_at x.resolved l ≡ state_at (local_states_of parents rows.states max r) l
  handed_at zero h = not_reached 0 (λ g. absurd (omega arith)) ∙ sym down.state
  handed_at (suc n) h =
      let start : above_of parents r.parent.0 n ≡ over n = ap (λ (d : DomainNumber). above_of parents d.0 n) down.under in
      below_or n max
      (λ b. resolved_stored n b ∙ ap (λ (k : ℕ). get_or rows.states k 0) (sym start) ∙ sym (local_low parents rows.states max r n h b))
      (λ b. not_reached (suc n) (λ _. omega (arith, down.inside)) ∙ down.above (suc n) (omega (arith, down.inside))
      ∙ sym (local_high parents rows.states max r n h b))

  -- the resolved states are the stored ones along the CPU's path
  pub down_handed : x.resolved ≡ states_along (moved_to s c r rows) c
  down_handed =
      states_same x.resolved (local_states_of parents rows.states max r) handed_at
      ∙ ap (local_states_of parents rows.states max) (sym (moved_own s whole.sound c r rows (state_at asked) down_moves))
