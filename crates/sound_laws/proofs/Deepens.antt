-- What a CPU asks for in a sound state never deepens in kind, from its own state up.
use Prim.Native.Nat.{ℕ, suc, ◌<◌, ◌≤◌}
use mathlib.Core.Path.{◌≡◌, sym, ap, ◌∙◌}
use native.Mathlib.Omega.{arith}
use borrow.Author.Tests.{eqb-true, eqb-false}
use lib.Dec.{eqb}
use Rattle.basics.proofs.Tests.{by}
use Rattle.model.specs.Composite.{state_at}
use Rattle.model.specs.Cpu.{onb}
use Rattle.model.specs.declared.state.State.{State}
use Rattle.model.specs.Sound.{SoundCpu}
use Rattle.model.specs.State.{platform_at, max_at, cpu_at, asked_of}
use Rattle.model.specs.States.{run, kind_of, depth_of}

module _ (s : State) (c : ℕ) (cpu : SoundCpu s c) where
  -- how deep the kind is that it asks for at a level
  abbrev pub asks_depth : ℕ → ℕ
  asks_depth level = depth_of (kind_of (platform_at s) (state_at (asked_of s c) level))

  same_depth : (v below : ℕ) → state_at (asked_of s c) (suc below) ≡ v → state_at (asked_of s c) below ≡ v → asks_depth (suc below) ≤ asks_depth below
  same_depth v below e f = omega (arith, ap (λ (x : ℕ). depth_of (kind_of (platform_at s) x)) (e ∙ sym f))

  pub asks_no_deeper : (below : ℕ) → below < max_at s → asks_depth (suc below) ≤ asks_depth below
  asks_no_deeper below h =
      by (onb (cpu_at s c).affinity_info)
      (λ on. by (eqb (cpu_at s c).local_state run)
      (λ e. let u = cpu.running on (eqb-true (cpu_at s c).local_state run e) in
      same_depth run below (u (suc below) (omega arith)) (u below (omega arith)))
      (λ e. cpu.suspended on (eqb-false (cpu_at s c).local_state run e) below h))
      (λ off. let u = cpu.off off in same_depth _ below (u (suc below) (omega arith)) (u below (omega arith)))
