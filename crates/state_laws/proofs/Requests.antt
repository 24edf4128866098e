-- Laws on a suspend request.
use Rattle.std.specs.Prelude.{Some}
use Prim.Native.Nat.{ℕ, zero, suc, ◌<◌, ◌≤◌}
use mathlib.Core.Bool.{true, false, not, ◌&&◌, and-eq-true_iff}
use mathlib.Core.Path.{◌≡◌}
use native.Mathlib.Omega.{arith}
use borrow.Author.Tests.{eqb-true, eqb-false, ltb-true, ltb-false, leb-true, leb-false, lt-leb, not-true, not-false}
use lib.Dec.{eqb, ltb, leb, leb-zero}
use lib.ListN.{get_or-eq_default}
use Rattle.basics.proofs.Tests.{by}
use Rattle.model.proofs.Below.{every_at, highest_is}
use Rattle.model.specs.declared.states.CompositeState.{CompositeState}
use Rattle.model.specs.declared.states.Platform.{Platform}
use Rattle.model.specs.Composite.{states_of, state_at, level_in_rangeb, states_in_rangeb, kind_at, non_run_atb, no_deeperb, find_highest_non_run_level_of, is_valid_suspend_requestb}
use Rattle.model.specs.Below.{every}
use Rattle.model.specs.Limits.{highest_max, levels}
use Rattle.model.specs.States.{run, deeperb}
use Rattle.state_laws.proofs.States.{kind_running, running_is_run, no_deeper_than_running}

-- h is the highest affected level of a request: up to MAX, no RUN level at or below it, only RUN above it
pub record HighestAffected (p : Platform) (c : CompositeState) (h : ℕ) : Type 0 where
  pub inside : h ≤ p.max.0
  pub affected : (l : ℕ) → l ≤ h → state_at c l ≡ run → ⊥
  pub above : (l : ℕ) → h < l → state_at c l ≡ run

module _ (p : Platform) (c : CompositeState) where
  -- there is only one
  pub highest_affected_only : (h k : ℕ) → HighestAffected p c h → HighestAffected p c k → h ≡ k
  highest_affected_only h k x y =
      by (ltb h k)
      (λ t. absurd (y.affected k (omega arith) (x.above k (ltb-true h k t))))
      (λ t. by (ltb k h)
      (λ u. absurd (x.affected h (omega arith) (y.above h (ltb-true k h u))))
      (λ u. omega (arith, ltb-false h k t, ltb-false k h u)))

  -- past the last level there is RUN
  run_past : (l : ℕ) → levels ≤ l → state_at c l ≡ run
  run_past l h = get_or-eq_default (states_of c) run h

  module _ (valid : is_valid_suspend_requestb p c ≡ true) where
    parts : (states_in_rangeb p c ≡ true) × (not (eqb (state_at c 0) run) ≡ true) × (every highest_max (no_deeperb p c) ≡ true)
    unfolding is_valid_suspend_requestb
    parts =
        let outer = (and-eq-true_iff (states_in_rangeb p c && not (eqb (state_at c 0) run)) (every highest_max (no_deeperb p c))).0 valid in
        let inner = (and-eq-true_iff (states_in_rangeb p c) (not (eqb (state_at c 0) run))).0 outer.0 in
        (inner.0, inner.1, outer.1)

    -- above MAX there is RUN
    run_above_max : (l : ℕ) → p.max.0 < l → state_at c l ≡ run
    run_above_max l h =
        by (ltb l levels)
        (λ t. let r = every_at (level_in_rangeb p c) levels l parts.0 (ltb-true l levels t) in
        eqb-true (state_at c l) 0 (rw (lt-leb l p.max.0 h) at r))
        (λ t. run_past l (ltb-false l levels t))

    -- above a RUN level there is RUN
    run_next : (l : ℕ) → state_at c l ≡ run → state_at c (suc l) ≡ run
    run_next l e =
        by (ltb l highest_max)
        (λ t. let n : deeperb (kind_at p c (suc l)) (kind_at p c l) ≡ false = not-true _ (every_at (no_deeperb p c) highest_max l parts.2 (ltb-true l highest_max t)) in
        running_is_run p (state_at c (suc l)) (no_deeper_than_running (kind_at p c (suc l)) (rw (kind_running p (state_at c l) e) at n)))
        (λ t. let u = ltb-false l highest_max t in run_past (suc l) (omega arith))

    run_above_run : (l m : ℕ) → l ≤ m → state_at c l ≡ run → state_at c m ≡ run
    run_above_run l zero h e = let z : l ≡ 0 = omega arith in rw z at e
    run_above_run l (suc m) h e =
        by (leb l m)
        (λ t. run_next m (run_above_run l m (leb-true l m t) e))
        (λ t. let u = leb-false l m t in let z : l ≡ suc m = omega arith in rw z at e)

    -- a valid request has a highest affected level, and it is the one that is found
    pub valid_highest : (h : ℕ) × (find_highest_non_run_level_of p c ≡ Some (record { 0 = h })) × HighestAffected p c h
    valid_highest =
        let top = p.max.0 in
        let starts : non_run_atb p c 0 ≡ true = rw (leb-zero top) parts.1 in
        let r = highest_is (non_run_atb p c) levels 0 (omega arith) starts in
        let h = r.0 in
        let here = (and-eq-true_iff (leb h top) (not (eqb (state_at c h) run))).0 r.1.passes in (
          h,
          r.1.answered,
          record {
            inside = leb-true h top here.0;
            affected = λ l k e. eqb-false (state_at c h) run (not-true _ here.1) (run_above_run l h k e);
            above = λ l k.
                by (leb l top)
                (λ t. by (ltb l levels)
                (λ u. let f : not (eqb (state_at c l) run) ≡ false = rw t at (r.1.above l k (ltb-true l levels u)) in
                eqb-true (state_at c l) run (not-false _ f))
                (λ u. run_past l (ltb-false l levels u)))
                (λ t. run_above_max l (leb-false l top t));
          },
        )
