-- The kind of a minimum.
use Prim.Native.Nat.{ℕ}
use mathlib.Core.Bool.{Bool, false}
use mathlib.Core.Path.{◌≡◌}
use mathlib.Core.Logic.{⊎_elim}
use native.Mathlib.Omega.{arith}
use borrow.Author.Tests.{le-ltb, ltb-false}
use Rattle.model.specs.declared.states.Kind.{Kind}
use Rattle.model.specs.declared.states.Platform.{Platform}
use Rattle.model.specs.Minimum.{minimum_of}
use Rattle.model.specs.States.{kind_of, depth_of, deeperb}
use Rattle.state_laws.proofs.States.{smaller_is_no_deeper}
use Rattle.minimum.proofs.Minimum.{Counted, minimum_is}

-- no deeper than what is no deeper than a third is no deeper than the third
no_deeper_through : (a b c : Kind) → deeperb a b ≡ false → deeperb b c ≡ false → deeperb a c ≡ false
no_deeper_through a b c h k =
    le-ltb (depth_of c) (depth_of a) (omega (arith, ltb-false (depth_of b) (depth_of a) h, ltb-false (depth_of c) (depth_of b) k))

module _ (p : Platform) (n k : ℕ) (counts also : ℕ → Bool) (state other : ℕ → ℕ) (off : ℕ) where
  -- where each number that counts in the second counts in the first with no deeper a kind, the first minimum is of no deeper kind
  pub minimum_no_deeper :
      ((i : ℕ) → Counted k also i → Counted n counts i × (deeperb (kind_of p (state i)) (kind_of p (other i)) ≡ false)) →
      deeperb (kind_of p (minimum_of n counts state off)) (kind_of p (minimum_of k also other off)) ≡ false
  minimum_no_deeper h =
      let r = minimum_is counts state off n in
      let m = minimum_of n counts state off in
      ⊎_elim
      (λ e. rw e (smaller_is_no_deeper p m off r.start))
      (λ w. let g = h w.who w.counted in
      let smaller = smaller_is_no_deeper p m (state w.who) (r.bound w.who g.0) in
      rw w.is (no_deeper_through (kind_of p m) (kind_of p (state w.who)) (kind_of p (other w.who)) smaller g.1))
      (minimum_is also other off k).met
