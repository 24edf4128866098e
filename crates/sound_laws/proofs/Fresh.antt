-- The fresh state is sound.
use Prim.Native.Nat.{ℕ, zero, suc, ◌-◌, ◌<◌, ◌≤◌}
use mathlib.Core.Bool.{true, false, cond, true≢false, and-eq-true_iff}
use mathlib.Core.List.{List}
use mathlib.Core.Logic.{inl}
use mathlib.Core.Path.{◌≡◌, refl, sym, ap, ◌∙◌}
use native.Mathlib.Omega.{arith}
use borrow.Author.Tests.{lt-ltb, eq-eqb, ne_eqb}
use lib.Dec.{eqb}
use lib.ListN.{get_or, length, take}
use lib.Seq.{ext_get_or, length-take-le, get_or-take}
use Rattle.minimum.proofs.Minimum.{minimum_only}
use Rattle.model.specs.declared.cpu.CpuPowerNode.{CpuPowerNode}
use Rattle.model.specs.declared.sorts.CpuNumber.{CpuNumber}
use Rattle.model.specs.declared.state.State.{State}
use Rattle.model.specs.declared.states.Platform.{Platform}
use Rattle.model.specs.Composite.{state_at}
use Rattle.model.specs.Cpu.{new_of, onb}
use Rattle.model.specs.Fresh.{running_of, all_off_of, fresh_of}
use Rattle.model.specs.Limits.{cpu_limit, domain_limit, entry_limit, highest_max}
use Rattle.model.specs.Node.{no_suspend_state}
use Rattle.model.specs.Path.{level_at}
use Rattle.model.specs.Sound.{Fits, SoundCpu, SoundDomain, Unused, Sound}
use Rattle.model.specs.Span.{in_spanb}
use Rattle.model.specs.State.{no_cpu, topology_at, cpu_at, domain_state_at, request_at, copy_at, asked_of}
use Rattle.model.specs.States.{off_of, in_rangeb, platformb}
use Rattle.model.specs.Table.{table_of}
use Rattle.model.specs.Topology.{domains_of, cpus_of, topologyb, boardb}
use Rattle.model.specs.Tree.{no_parent, tree_of, cpu_parents_of, parent_at, cpu_span_at, child_span_at}
use Rattle.topology_laws.proofs.Accepted.{Accepted, accepted}
use Rattle.model.proofs.Tables.{length_table, table_at, table_past}
use Rattle.sound_laws.proofs.Filled.{levels_at, levels_past}
use Rattle.sound_laws.proofs.Levels.{asked_at}
use Rattle.sound_laws.proofs.Reflect.{platform_has}
use Rattle.sound_laws.proofs.Stored.{stored_level_low, stored_level_high, span_cpus}
use Rattle.sound_laws.proofs.Up.{ComesUp, up_sound}

-- a topology is what is stored of it
pub topology_stored : (t : List ℕ) (d : ℕ) → length t ≡ suc d → d ≤ domain_limit →
    take (suc d) (table_of entry_limit 0 (λ i. get_or t i 0) (length t)) ≡ t
topology_stored t d long few =
    let row = table_of entry_limit 0 (λ (i : ℕ). get_or t i 0) (length t) in
    let wide : length row ≡ entry_limit = length_table entry_limit 0 (λ (i : ℕ). get_or t i 0) (length t) in
    let cut = length-take-le (suc d) row (omega (arith, wide)) in
    ext_get_or 0 (take (suc d) row) t (cut ∙ sym long)
    (λ i h.
    get_or-take (suc d) row i 0 (omega (arith, cut))
    ∙ table_at entry_limit 0 (λ (j : ℕ). get_or t j 0) (length t) i 0 (omega (arith, cut, long)) (omega (arith, cut)))

module _ (p : Platform) (primary : CpuNumber) (t : List ℕ) (yes : boardb p primary t ≡ true) where
  abbrev s : State
  s = all_off_of p primary t

  abbrev max : ℕ
  max = p.max.0

  abbrev off : ℕ
  off = off_of p

  parts : (platformb p ≡ true) × (topologyb t max primary.0 ≡ true)
  parts = (and-eq-true_iff (platformb p) (topologyb t max primary.0)).0 yes

  a : Accepted t max primary.0
  a = accepted t max primary.0 parts.1

  low : max ≤ highest_max
  low = (platform_has p parts.0).1

  stored : topology_at s ≡ t
  unfolding tree_of
  stored = topology_stored t (domains_of t max) a.long a.few

  cpu_is : (c : ℕ) → c < cpus_of t max → cpu_at s c ≡ new_of (record { 0 = get_or (cpu_parents_of t max) c 0 }) off
  cpu_is c h =
      table_at cpu_limit no_cpu (λ (i : ℕ). new_of (record { 0 = get_or (cpu_parents_of t max) i 0 }) off) (cpus_of t max) c no_cpu h
      (omega (arith, a.fit))

  off_fits : Fits s
  unfolding tree_of
  off_fits = record {
    accepted = ap (boardb p primary) stored ∙ yes;
    domain_count = ap (λ (x : List ℕ). domains_of x max) (sym stored);
    cpu_count = ap (λ (x : List ℕ). cpus_of x max) (sym stored);
    domains = λ k h. record {
      parent = ap (λ (x : List ℕ). parent_at (tree_of x max) k) (sym stored);
      cpus = ap (λ (x : List ℕ). cpu_span_at (tree_of x max) k) (sym stored);
      children = ap (λ (x : List ℕ). child_span_at (tree_of x max) k) (sym stored);
    };
    cpu_parents = λ c h.
        ap (λ (r : CpuPowerNode). r.parent.0) (cpu_is c h) ∙ ap (λ (x : List ℕ). get_or (cpu_parents_of x max) c 0) (sym stored);
  }

  -- OFF is a state
  off_in_range : in_rangeb p off ≡ true
  off_in_range = lt-ltb off p.states (omega (arith, (platform_has p parts.0).2))

  off_request : (l c : ℕ) → 1 ≤ l → l ≤ max → c < cpus_of t max → request_at s l c ≡ off
  off_request l c o h b = levels_at off (cpus_of t max) a.fit max l c low o h b

  off_asked : (c l : ℕ) → c < cpus_of t max → l ≤ max → state_at (asked_of s c) l ≡ off
  off_asked c zero b h = ap (λ (r : CpuPowerNode). r.local_state) (cpu_is c b)
  off_asked c (suc l) b h = asked_at s c (suc l) (omega arith) (omega (arith, low)) ∙ off_request (suc l) c (omega arith) h b

  off_cpu : (c : ℕ) → c < cpus_of t max → SoundCpu s c
  off_cpu c h = record {
    in_range = λ level g. ap (in_rangeb p) (off_asked c level h g) ∙ off_in_range;
    off = λ _ level g. off_asked c level h g;
    running = λ o. absurd (true≢false (sym o ∙ is_off_lem));
    suspended = λ o. absurd (true≢false (sym o ∙ is_off_lem));
    entry = simp (cpu_is c h);
    no_suspend = λ level o g. levels_at no_suspend_state (cpus_of t max) a.fit max level c low o g h;
  }
    where
      is_off_lem : onb (cpu_at s c).affinity_info ≡ false
      is_off_lem = ap (λ (r : CpuPowerNode). onb r.affinity_info) (cpu_is c h)

  off_state : (k : ℕ) → k < domains_of t max → domain_state_at s k ≡ off
  off_state k h = table_at domain_limit 0 (λ _. off) (domains_of t max) k 0 h (omega (arith, a.few))

  off_copy : (k : ℕ) → k < domains_of t max → copy_at s k ≡ cond (eqb (parent_at (tree_of t max) k) no_parent) 0 off
  off_copy k h =
      table_at domain_limit 0 (λ (j : ℕ). cond (eqb (parent_at (tree_of t max) j) no_parent) 0 off) (domains_of t max) k 0 h (omega (arith, a.few))

  off_domain : (k : ℕ) → k < domains_of t max → SoundDomain s k
  unfolding tree_of
  off_domain k h = record {
    in_range = ap (in_rangeb p) (off_state k h) ∙ off_in_range;
    minimum =
        let level = level_at s.tree.parents max k in
        off_state k h
        ∙ minimum_only (in_spanb (cpu_span_at s.tree k)) (request_at s level) off (cpu_span_at s.tree k).end off (record {
          bound = λ i m.
              let e = off_request level i (stored_level_low s off_fits k h) (stored_level_high s off_fits k h) (span_cpus s off_fits k i h m.is) in
              omega (arith, e);
          start = omega arith;
          met = inl refl;
        });
    copy_in_range = λ n. ap (in_rangeb p) (off_copy k h ∙ simp (ne_eqb _ _ n)) ∙ off_in_range;
  }

  off_unused : Unused s
  unfolding tree_of
  off_unused = record {
    entries = λ i h b. table_past entry_limit 0 (λ (j : ℕ). get_or t j 0) (length t) i 0 (omega (arith, a.long)) b;
    cpus = λ c h b. table_past cpu_limit no_cpu (λ (i : ℕ). new_of (record { 0 = get_or (cpu_parents_of t max) i 0 }) off) (cpus_of t max) c no_cpu h b;
    requests = λ level c f. levels_past off (cpus_of t max) a.fit max level c low f.low f.high f.slot f.spare;
    suspends = λ level c f. levels_past no_suspend_state (cpus_of t max) a.fit max level c low f.low f.high f.slot f.spare;
    states = λ k h b. table_past domain_limit 0 (λ _. off) (domains_of t max) k 0 h b;
    copies = λ k h b.
        table_past domain_limit 0 (λ (j : ℕ). cond (eqb (parent_at (tree_of t max) j) no_parent) 0 off) (domains_of t max) k 0 h b;
    top_copies = λ k h e. off_copy k h ∙ simp (eq-eqb _ _ e);
  }

  -- all off is sound
  pub all_off_sound : Sound s
  unfolding tree_of
  all_off_sound = record { fits = off_fits; cpus = off_cpu; domains = off_domain; unused = off_unused }

  -- the primary comes up in it
  primary_up : ComesUp s primary.0 (running_of (cpu_at s primary.0))
  unfolding tree_of
  primary_up = record {
    is_cpu = a.exists;
    slot = let z = length_table cpu_limit no_cpu (λ (i : ℕ). new_of (record { 0 = get_or (cpu_parents_of t max) i 0 }) off) (cpus_of t max) in
        omega (arith, z, a.exists, a.fit);
    under = refl;
    on = refl;
    runs = refl;
    no_entry = ap (λ (r : CpuPowerNode). r.entry_point) (cpu_is primary.0 a.exists);
  }

  -- and so is the fresh state
  pub fresh_sound : Sound (fresh_of p primary t).state
  unfolding fresh_of
  fresh_sound = simp yes (up_sound s all_off_sound primary.0 (running_of (cpu_at s primary.0)) primary_up)
