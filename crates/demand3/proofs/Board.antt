-- What holds in a sound state, said with the platform and the topology of its board.
use Prim.Native.Nat.{ℕ, ◌<◌, ◌≤◌}
use mathlib.Core.Bool.{true, false}
use mathlib.Core.List.{List}
use mathlib.Core.Path.{◌≡◌, sym}
use Rattle.history.specs.Under.{underb}
use Rattle.model.specs.Calls.{runningb}
use Rattle.model.specs.Minimum.{minimum_of}
use Rattle.model.specs.Sound.{Sound}
use Rattle.model.specs.State.{platform_at, topology_at, cpu_at, domain_state_at, request_at}
use Rattle.model.specs.States.{run, off_of, kind_of, deeperb}
use Rattle.model.specs.Topology.{domains_of, cpus_of, topb, parent_of, over_of, level_of}
use Rattle.model.specs.declared.state.State.{State}
use Rattle.model.specs.declared.states.Platform.{Platform}
use Rattle.demand3.proofs.Deeper.{no_deeper_than_domain, no_deeper_than_cpu, over_running, run_runs}
use Rattle.demand3.proofs.Under.{under_minimum}

-- a sound state of a board of this platform and topology
pub record SoundOf (p : Platform) (t : List ℕ) (s : State) : Type 0 where
  pub sound : Sound s
  pub platform : platform_at s ≡ p
  pub topology : topology_at s ≡ t

module _ (p : Platform) (t : List ℕ) (s : State) (o : SoundOf p t s) where
  abbrev max : ℕ
  max = p.max.0

  pub minimum_of_lem : (k : ℕ) → k < domains_of t max →
      domain_state_at s k ≡ minimum_of (cpus_of t max) (underb t max k) (request_at s (level_of t max k)) (off_of p)
  minimum_of_lem = rw (sym o.platform, sym o.topology) (under_minimum s o.sound)

  pub no_deeper_than_domain_of : (k : ℕ) → k < domains_of t max → topb t k ≡ false →
      deeperb (kind_of p (domain_state_at s (parent_of t k))) (kind_of p (domain_state_at s k)) ≡ false
  no_deeper_than_domain_of = rw (sym o.platform, sym o.topology) (no_deeper_than_domain s o.sound)

  pub no_deeper_than_cpu_of : (c : ℕ) → c < cpus_of t max →
      deeperb (kind_of p (domain_state_at s (over_of t max 1 c))) (kind_of p (cpu_at s c).local_state) ≡ false
  no_deeper_than_cpu_of = rw (sym o.platform, sym o.topology) (no_deeper_than_cpu s o.sound)

  pub over_running_of : (c level : ℕ) → c < cpus_of t max → runningb (cpu_at s c) ≡ true → 1 ≤ level → level ≤ max →
      domain_state_at s (over_of t max level c) ≡ run
  over_running_of = rw (sym o.platform, sym o.topology) (over_running s o.sound)

  pub run_runs_of : (c : ℕ) → c < cpus_of t max → (cpu_at s c).local_state ≡ run → runningb (cpu_at s c) ≡ true
  run_runs_of = rw (sym o.platform, sym o.topology) (run_runs s o.sound)
