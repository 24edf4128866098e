-- Laws on the kind of a state.
use Prim.Native.Nat.{ℕ, ◌<◌, ◌≤◌}
use mathlib.Core.Bool.{false, true≢false}
use mathlib.Core.Path.{◌≡◌, refl}
use native.Mathlib.Omega.{arith}
use borrow.Author.Tests.{eq-eqb, ne_eqb, lt-ltb, le-ltb, eqb-true, eqb-false, ltb-true, ltb-false}
use lib.Dec.{eqb, ltb}
use Rattle.basics.proofs.Tests.{by}
use Rattle.model.specs.declared.states.Kind.{Kind}
use Rattle.model.specs.declared.states.Kind.TheVariants as kind
use Rattle.model.specs.declared.states.Platform.{Platform}
use Rattle.model.specs.States.{run, kind_of, depth_of, deeperb}

-- nothing but running is no deeper than running
pub no_deeper_than_running : (k : Kind) → deeperb k kind.Running ≡ false → k ≡ kind.Running
no_deeper_than_running kind.Running h = refl
no_deeper_than_running kind.Retention h = absurd (true≢false h)
no_deeper_than_running kind.PowerDown h = absurd (true≢false h)

module _ (p : Platform) where
  -- the three kinds, by the state's number
  pub kind_running : (s : ℕ) → s ≡ run → kind_of p s ≡ kind.Running
  kind_running s h = simp (eq-eqb s run h)

  pub kind_retention : (s : ℕ) → (s ≡ run → ⊥) → s < p.down → kind_of p s ≡ kind.Retention
  kind_retention s h d = simp (ne_eqb s run h, lt-ltb s p.down d)

  pub kind_power_down : (s : ℕ) → (s ≡ run → ⊥) → p.down ≤ s → kind_of p s ≡ kind.PowerDown
  kind_power_down s h d = simp (ne_eqb s run h, le-ltb s p.down d)

  -- only RUN is running
  pub running_is_run : (s : ℕ) → kind_of p s ≡ kind.Running → s ≡ run
  running_is_run s h =
      by (eqb s run) (eqb-true s run)
      (λ e. let n = eqb-false s run e in
      by (ltb s p.down)
      (λ d. let z : ◌≡◌ {A = ℕ} 0 1 = cc (kind_retention s n (ltb-true s p.down d)) in omega arith)
      (λ d. let z : ◌≡◌ {A = ℕ} 0 1 = cc (kind_power_down s n (ltb-false s p.down d)) in omega arith))

  depth_grows : (a b : ℕ) → a ≤ b → depth_of (kind_of p a) ≤ depth_of (kind_of p b)
  depth_grows a b h =
      by (eqb a run)
      (λ e. simp (kind_running a (eqb-true a run e)) (omega arith))
      (λ e. let n = eqb-false a run e in let m : b ≡ run → ⊥ = λ z. n (omega arith) in
      by (ltb b p.down)
      (λ d. let u = ltb-true b p.down d in
      simp (kind_retention a n (omega arith), kind_retention b m u) (omega arith))
      (λ d. let u = ltb-false b p.down d in
      by (ltb a p.down)
      (λ f. simp (kind_retention a n (ltb-true a p.down f), kind_power_down b m u) (omega arith))
      (λ f. simp (kind_power_down a n (ltb-false a p.down f), kind_power_down b m u) (omega arith))))

  -- a smaller state is never of a deeper kind
  pub smaller_is_no_deeper : (a b : ℕ) → a ≤ b → deeperb (kind_of p a) (kind_of p b) ≡ false
  smaller_is_no_deeper a b h = le-ltb _ _ (depth_grows a b h)
