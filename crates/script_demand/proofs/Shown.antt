-- What an answer record shows is what the CPUs stand for.
use Prim.Native.Nat.{ℕ, suc, ◌-◌, ◌<◌, ◌≤◌}
use mathlib.Core.Bool.{cond}
use mathlib.Core.List.{List}
use mathlib.Core.Path.{◌≡◌, sym, ap, ◌∙◌}
use native.Mathlib.Omega.{arith}
use borrow.Author.Tests.{leb-true, ltb-true}
use lib.Dec.{leb, ltb}
use Rattle.basics.proofs.Tests.{by}
use Rattle.demand3.proofs.Board.{SoundOf}
use Rattle.demand3.specs.Demand.{Demand3}
use Rattle.history.specs.History.{Done}
use Rattle.model.specs.Path.{stored_state_of}
use Rattle.model.specs.Sound.{Sound}
use Rattle.model.specs.State.{max_at, cpu_count_of, topology_at, cpu_at, domain_state_at, domain_over, states_along}
use Rattle.model.specs.Topology.{domains_of, cpus_of, over_of}
use Rattle.model.specs.declared.sorts.CpuNumber.{CpuNumber}
use Rattle.model.specs.declared.state.State.{State}
use Rattle.model.specs.declared.states.Platform.{Platform}
use Rattle.script.specs.AnswerRecord.{no_cpu_states, shown_of}
use Rattle.script_demand.specs.Shown.{shown_at, shown_by}
use Rattle.sound_laws.proofs.Reflect.{board_accepted}
use Rattle.sound_laws.proofs.Stored.{stored_path}
use Rattle.topology_laws.proofs.Paths.{over_domain}

-- the stored domain of a level over a CPU is the topology's
over_at_lem : (s : State) → Sound s → (c level : ℕ) → c < cpus_of (topology_at s) (max_at s) → 1 ≤ level → level ≤ max_at s →
    domain_over s level c ≡ over_of (topology_at s) (max_at s) level c
over_at_lem s sound c level h a b =
    let z : suc (level - 1) ≡ level = omega arith in
    stored_path s sound.fits c (level - 1) (omega (arith, sound.fits.cpu_count)) (omega arith)
    ∙ ap (λ (n : ℕ). over_of (topology_at s) (max_at s) n c) z

-- and it is a domain
domain_at : (s : State) → Sound s → (c level : ℕ) → c < cpus_of (topology_at s) (max_at s) → 1 ≤ level → level ≤ max_at s →
    over_of (topology_at s) (max_at s) level c < domains_of (topology_at s) (max_at s)
domain_at s sound c level h a b = over_domain (board_accepted s sound.fits.accepted) level c a b h

module _ (p : Platform) (primary : CpuNumber) (t : List ℕ) (h : List Done) (s : State) (o : SoundOf p t s) (d : Demand3 p primary t h s) where
  abbrev max : ℕ
  max = p.max.0

  over_of_lem : (c level : ℕ) → c < cpus_of t max → 1 ≤ level → level ≤ max → domain_over s level c ≡ over_of t max level c
  over_of_lem = rw (sym o.platform, sym o.topology) (over_at_lem s o.sound)

  count : cpu_count_of s ≡ cpus_of t max
  count = rw (sym o.platform, sym o.topology) o.sound.fits.cpu_count

  same_max : max_at s ≡ max
  same_max = ap (λ (x : Platform). x.max.0) o.platform

  over_domain_of : (c level : ℕ) → c < cpus_of t max → 1 ≤ level → level ≤ max → over_of t max level c < domains_of t max
  over_domain_of = rw (sym o.platform, sym o.topology) (domain_at s o.sound)

  stored_shown : (c level : ℕ) → c < cpus_of t max → 1 ≤ level →
      stored_state_of s.tree.parents s.domains.states (max_at s) (cpu_at s c).parent.0 level ≡ shown_at p primary t h c level
  stored_shown c level is a =
      ap (λ (m : ℕ). stored_state_of s.tree.parents s.domains.states m (cpu_at s c).parent.0 level) same_max
      ∙ by (leb level max)
      (λ e. let b = leb-true level max e in
      simp e (ap (domain_state_at s) (over_of_lem c level is a b) ∙ d.shallowest (over_of t max level c) (over_domain_of c level is a b)))
      (λ e. simp e)

  -- what is shown of a CPU is what the history says
  pub shown_stands : (cpu : CpuNumber) → shown_of s cpu ≡ shown_by p primary t h cpu
  shown_stands cpu =
      let c = cpu.0 in
      ap (λ (n : ℕ). cond (ltb cpu.0 n) (states_along s cpu.0) no_cpu_states) count
      ∙ by (ltb c (cpus_of t max))
      (λ e. let is = ltb-true c (cpus_of t max) e in
      simp e
      (rw (d.cpu_stands c is, stored_shown c 1 is (omega arith), stored_shown c 2 is (omega arith), stored_shown c 3 is (omega arith))))
      (λ e. simp e)
