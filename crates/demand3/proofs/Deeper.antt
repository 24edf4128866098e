-- In a sound state no domain is of a deeper kind than what is below it, and every domain over a running CPU runs.
use Prim.Native.Nat.{ℕ, suc, ◌<◌, ◌≤◌}
use mathlib.Core.Bool.{true, false, and-eq-true_iff}
use mathlib.Core.List.{List}
use mathlib.Core.Path.{◌≡◌, ap, ◌∙◌}
use native.Mathlib.Omega.{arith}
use borrow.Author.Tests.{eq-eqb, eqb-true, le-ltb, ltb-false}
use lib.Dec.{eqb}
use Rattle.basics.proofs.Tests.{by}
use Rattle.history.specs.Under.{underb}
use Rattle.minimum.proofs.Deeper.{minimum_no_deeper}
use Rattle.minimum.proofs.Minimum.{minimum_is}
use Rattle.model.specs.Calls.{runningb}
use Rattle.model.specs.Composite.{state_at}
use Rattle.model.specs.Cpu.{onb}
use Rattle.model.specs.Limits.{highest_max}
use Rattle.model.specs.Sound.{Sound}
use Rattle.model.specs.State.{platform_at, max_at, off_at, cpu_count_of, topology_at, cpu_at, asked_of, domain_state_at, request_at}
use Rattle.model.specs.States.{run, kind_of, depth_of, deeperb}
use Rattle.model.specs.Topology.{domains_of, cpus_of, topb, parent_of, over_of, level_of}
use Rattle.model.specs.declared.state.State.{State}
use Rattle.model.specs.declared.states.Platform.{Platform}
use Rattle.sound_laws.proofs.Deepens.{asks_no_deeper}
use Rattle.sound_laws.proofs.Levels.{asked_at}
use Rattle.sound_laws.proofs.Reflect.{board_max, board_min, board_states}
use Rattle.state_laws.proofs.States.{smaller_is_no_deeper}
use Rattle.topology_laws.proofs.Paths.{over_next, has_level, over_domain, over_level, parent_domain, level_parent}
use Rattle.demand3.proofs.Under.{topology, over_under, under_minimum}

module _ (s : State) (sound : Sound s) where
  abbrev p : Platform
  p = platform_at s

  abbrev t : List ℕ
  t = topology_at s

  abbrev max : ℕ
  max = max_at s

  low : max ≤ highest_max
  low = board_max s sound.fits.accepted

  high : 1 ≤ max
  high = board_min s sound.fits.accepted

  -- a state whose kind is at most as deep is no deeper
  no_deeper : (x y : ℕ) → depth_of (kind_of p x) ≤ depth_of (kind_of p y) → deeperb (kind_of p x) (kind_of p y) ≡ false
  no_deeper x y h = le-ltb _ _ h

  is_cpu : (c : ℕ) → c < cpus_of t max → c < cpu_count_of s
  is_cpu c h = omega (arith, sound.fits.cpu_count)

  -- what a CPU asks for above its own level is its request
  pub asks_request : (c l : ℕ) → 1 ≤ l → l ≤ max → state_at (asked_of s c) l ≡ request_at s l c
  asks_request c l a b = asked_at s c l a (omega (arith, low))

  -- its requests never deepen in kind
  request_no_deeper : (c l above : ℕ) → c < cpus_of t max → 1 ≤ l → suc l ≤ max → above ≡ suc l →
      deeperb (kind_of p (request_at s above c)) (kind_of p (request_at s l c)) ≡ false
  request_no_deeper c l above h a b e =
      no_deeper (request_at s above c) (request_at s l c)
      (omega (
        arith,
        ap (λ (n : ℕ). depth_of (kind_of p (request_at s n c))) e,
        ap (λ (x : ℕ). depth_of (kind_of p x)) (asks_request c (suc l) (omega arith) b),
        ap (λ (x : ℕ). depth_of (kind_of p x)) (asks_request c l a (omega arith)),
        asks_no_deeper s c (sound.cpus c (is_cpu c h)) l (omega arith),
      ))

  -- a domain's parent is of no deeper kind than the domain
  pub no_deeper_than_domain : (k : ℕ) → k < domains_of t max → topb t k ≡ false →
      deeperb (kind_of p (domain_state_at s (parent_of t k))) (kind_of p (domain_state_at s k)) ≡ false
  no_deeper_than_domain k h under =
      let above = parent_of t k in
      let a = topology s sound in
      let levels = has_level a k h in
      let next = level_parent a k h under in
      let up : suc (level_of t max k) ≤ max = omega (arith, next, (has_level a (parent_of t k) (parent_domain a k h under)).1) in
      rw (under_minimum s sound above (parent_domain a k h under), under_minimum s sound k h)
      (minimum_no_deeper p (cpus_of t max) (cpus_of t max) (underb t max above) (underb t max k)
      (request_at s (level_of t max above)) (request_at s (level_of t max k)) (off_at s)
      (λ i c. (
        record {
          below = c.below;
          is = eq-eqb _ _
              (ap (λ (l : ℕ). over_of t max l i) next ∙ over_next t max (level_of t max k) i ∙ ap (parent_of t) (eqb-true _ _ c.is));
        },
        request_no_deeper i (level_of t max k) (level_of t max above) c.below levels.0 up next,
      )))

  -- a domain over a CPU is at most what the CPU asks of it
  at_most_request : (c l : ℕ) → c < cpus_of t max → 1 ≤ l → l ≤ max → domain_state_at s (over_of t max l c) ≤ request_at s l c
  at_most_request c l h a b =
      let k = over_of t max l c in
      let over = over_domain (topology s sound) l c a b h in
      let level = over_level (topology s sound) l c a b h in
      let low = (minimum_is (underb t max k) (request_at s (level_of t max k)) (off_at s) (cpus_of t max)).bound c (over_under s sound l c a b h) in
      omega (arith, low, under_minimum s sound k over, ap (λ (n : ℕ). request_at s n c) level)

  -- the domain above a CPU is of no deeper kind than the CPU
  pub no_deeper_than_cpu : (c : ℕ) → c < cpus_of t max →
      deeperb (kind_of p (domain_state_at s (over_of t max 1 c))) (kind_of p (cpu_at s c).local_state) ≡ false
  no_deeper_than_cpu c h =
      let m = domain_state_at s (over_of t max 1 c) in
      no_deeper m (cpu_at s c).local_state
      (omega (
        arith,
        ltb-false (depth_of (kind_of p (request_at s 1 c))) (depth_of (kind_of p (domain_state_at s (over_of t max 1 c)))) (smaller_is_no_deeper p m (request_at s 1 c) (at_most_request c 1 h (omega arith) high)),
        asks_no_deeper s c (sound.cpus c (is_cpu c h)) 0 (omega (arith, high)),
      ))

  -- each domain over a running CPU runs
  pub over_running : (c level : ℕ) → c < cpus_of t max → runningb (cpu_at s c) ≡ true → 1 ≤ level → level ≤ max →
      domain_state_at s (over_of t max level c) ≡ run
  over_running c level h e a b =
      let both = (and-eq-true_iff (onb (cpu_at s c).affinity_info) (eqb (cpu_at s c).local_state run)).0 e in
      let asks = (sound.cpus c (is_cpu c h)).running both.0 (eqb-true _ _ both.1) level b in
      omega (arith, at_most_request c level h a b, asks_request c level a b, asks)

  -- a CPU whose state is RUN is running: one that is not On is OFF
  pub run_runs : (c : ℕ) → c < cpus_of t max → (cpu_at s c).local_state ≡ run → runningb (cpu_at s c) ≡ true
  run_runs c h e =
      by (onb (cpu_at s c).affinity_info)
      (λ on. (and-eq-true_iff (onb (cpu_at s c).affinity_info) (eqb (cpu_at s c).local_state run)).1 (on, eq-eqb _ _ e))
      (λ on. absurd (omega (arith, e, (sound.cpus c (is_cpu c h)).off on 0 (omega arith), board_states s sound.fits.accepted)))
