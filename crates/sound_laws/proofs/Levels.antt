-- What the tests of a CPU's levels stand for.
use Prim.Native.Nat.{ℕ, zero, suc, ◌<◌, ◌≤◌}
use mathlib.Core.Bool.{Bool, true, false, cond, true≢false}
use mathlib.Core.List.{List}
use mathlib.Core.Path.{◌≡◌, refl, sym, ◌∙◌}
use native.Mathlib.Omega.{arith}
use borrow.Author.Tests.{eq-eqb, ne_eqb, eqb-true, le-leb, lt-leb, leb-true, leb-false, ltb-false, le-ltb}
use lib.Dec.{eqb, leb}
use Rattle.basics.proofs.Is.{Is, is_as, is_true, is_eq, is_not, is_both, is_if_le}
use Rattle.model.specs.declared.cpu.CpuPowerNode.{CpuPowerNode}
use Rattle.model.specs.declared.state.State.{State}
use Rattle.model.specs.declared.states.CompositeState.{CompositeState}
use Rattle.model.specs.declared.states.Platform.{Platform}
use Rattle.model.specs.Composite.{state_at, kind_at, states_in_rangeb, no_deeperb, is_valid_suspend_requestb}
use Rattle.model.specs.Limits.{highest_max, levels}
use Rattle.model.specs.SoundTest.{levels_areb}
use Rattle.model.specs.State.{asked_in, cpu_at, request_at, asked_of}
use Rattle.model.specs.States.{run, in_rangeb, depth_of, deeperb}
use Rattle.model.specs.Table.{at_level}
use Rattle.model.proofs.Below.{is_every}

-- a comparison with one number or another
pub is_eq_cond : (b : Bool) (x v w : ℕ) → Is (eqb x (cond b v w)) ((b ≡ true → x ≡ v) × (b ≡ false → x ≡ w))
is_eq_cond true x v w = record {
  to = λ h. (λ _. eqb-true x v h, λ e. absurd (true≢false e));
  from = λ p. eq-eqb x v (p.0 refl);
}
is_eq_cond false x v w = record {
  to = λ h. (λ e. absurd (true≢false (sym e)), λ _. eqb-true x w h);
  from = λ p. eq-eqb x w (p.1 refl);
}

-- what a CPU asks for at level l is its request
pub asked_in_at : (requests : List ℕ) (r : CpuPowerNode) (c l : ℕ) → 1 ≤ l → l ≤ highest_max →
    state_at (asked_in requests r c) l ≡ at_level requests l c
asked_in_at requests r c zero a b = absurd (omega arith)
asked_in_at requests r c (suc zero) a b = refl
asked_in_at requests r c (suc (suc zero)) a b = refl
asked_in_at requests r c (suc (suc (suc zero))) a b = refl
asked_in_at requests r c (suc (suc (suc (suc l)))) a b = absurd (omega arith)

pub asked_at : (s : State) (c l : ℕ) → 1 ≤ l → l ≤ highest_max → state_at (asked_of s c) l ≡ request_at s l c
asked_at s c = asked_in_at s.domains.requests (cpu_at s c) c

module _ (p : Platform) (asked : CompositeState) where
  abbrev max : ℕ
  max = p.max.0

  -- the levels up to MAX have this state, and those above it 0
  pub record LevelsAre (v : ℕ) : Type 0 where
    pub low : (l : ℕ) → l < levels → l ≤ max → state_at asked l ≡ v
    pub high : (l : ℕ) → l < levels → max < l → state_at asked l ≡ 0

  pub is_levels_are : (v : ℕ) → Is (levels_areb p asked v) (LevelsAre v)
  is_levels_are v =
      is_as (is_every levels (λ l. is_eq_cond (leb l max) (state_at asked l) v 0))
      (λ q. record {
        low = λ l b h. (q l b).0 (le-leb l max h);
        high = λ l b h. (q l b).1 (lt-leb l max h);
      })
      (λ r l b. (λ e. r.low l b (leb-true l max e), λ e. r.high l b (leb-false l max e)))

  -- the states up to MAX are the platform's, and those above it 0
  pub record InRange : Type 0 where
    pub low : (l : ℕ) → l < levels → l ≤ max → in_rangeb p (state_at asked l) ≡ true
    pub high : (l : ℕ) → l < levels → max < l → state_at asked l ≡ 0

  pub is_in_range : Is (states_in_rangeb p asked) InRange
  is_in_range =
      is_as (is_every levels (λ l. is_if_le l max (is_true (in_rangeb p (state_at asked l))) (is_eq (state_at asked l) 0)))
      (λ q. record { low = λ l b. (q l b).0; high = λ l b. (q l b).1 })
      (λ r l b. (r.low l b, r.high l b))

  -- no level's kind is deeper than the kind below it
  pub record NeverDeepens : Type 0 where
    pub step : (below : ℕ) → below < highest_max → depth_of (kind_at p asked (suc below)) ≤ depth_of (kind_at p asked below)

  is_step : (below : ℕ) → Is (no_deeperb p asked below) (depth_of (kind_at p asked (suc below)) ≤ depth_of (kind_at p asked below))
  is_step below =
      is_as (is_not (deeperb (kind_at p asked (suc below)) (kind_at p asked below)))
      (λ e. ltb-false _ _ e) (λ h. le-ltb _ _ h)

  pub record Valid : Type 0 where
    pub range : InRange
    pub down : state_at asked 0 ≡ run → ⊥
    pub never : NeverDeepens

  pub is_valid : Is (is_valid_suspend_requestb p asked) Valid
  unfolding is_valid_suspend_requestb
  is_valid =
      is_as (is_both (is_both is_in_range (is_not (eqb (state_at asked 0) run))) (is_every highest_max is_step))
      (λ q. record { range = q.0.0; down = λ z. true≢false (sym (eq-eqb _ _ z) ∙ q.0.1); never = record { step = q.1 } })
      (λ r. ((r.range, ne_eqb _ _ r.down), r.never.step))
