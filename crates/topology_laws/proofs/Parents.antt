-- Top domains, and the parents of the other nodes.
use Prim.Native.Nat.{ℕ, suc, ◌<◌, ◌≤◌}
use mathlib.Core.Bool.{true, false, true≢false}
use mathlib.Core.List.{List}
use mathlib.Core.Path.{◌≡◌, sym, ◌∙◌}
use native.Mathlib.Omega.{arith}
use borrow.Author.Tests.{eq-eqb, ne_eqb}
use lib.ListN.{length, take}
use lib.Seq.{take-length}
use Rattle.basics.proofs.Tests.{below_or}
use Rattle.model.specs.Topology.{total_of, entry_of, entriesb, start_of, topb, parent_of}
use Rattle.topology_laws.proofs.Sums.{sum_big, entry_below, below_entry}

module _ (t : List ℕ) where
  -- the nodes before the first domain's children are top domains
  pub top_test : (n : ℕ) → n < start_of t 0 → topb t n ≡ true
  top_test n h = eq-eqb (entry_of t n) 0 (omega (arith, entry_below t n 1 h))

  -- what is no top domain is not before them
  pub under_top : (n : ℕ) → topb t n ≡ false → start_of t 0 ≤ n
  under_top n e = below_or n (start_of t 0) (λ h. absurd (true≢false (sym (top_test n h) ∙ e))) (λ h. h)

  module _ (n : ℕ) (top : start_of t 0 ≤ n) (in_tree : n < total_of t) where
    -- the nodes from them on are counted by a later entry
    has_entry : 1 ≤ entry_of t n
    has_entry = below_or (entry_of t n) 1 (λ e. omega (arith, below_entry t n 1 in_tree e)) (λ e. e)

    -- they are no top domains
    pub no_top : topb t n ≡ false
    no_top = ne_eqb (entry_of t n) 0 (λ e. omega (arith, e, has_entry))

    -- such a node comes before the children of domain k exactly if its parent comes before k
    pub before_parent : (k : ℕ) → n < start_of t k → parent_of t n < k
    before_parent k h = omega (arith, entry_below t n (suc k) h, has_entry)

    pub parent_before : (k : ℕ) → parent_of t n < k → n < start_of t k
    parent_before k h = below_entry t n (suc k) in_tree (omega (arith, has_entry))

    -- and is not before them exactly if its parent is not before k
    pub from_parent : (k : ℕ) → start_of t k ≤ n → k ≤ parent_of t n
    from_parent k h = below_or (parent_of t n) k (λ e. omega (arith, parent_before k e)) (λ e. e)

    pub parent_from : (k : ℕ) → k ≤ parent_of t n → start_of t k ≤ n
    parent_from k h = below_or n (start_of t k) (λ e. omega (arith, before_parent k e)) (λ e. e)

    -- a parent's children are counted by an entry
    parent_counted : suc (parent_of t n) < length t
    parent_counted =
        let z : total_of (take (length t) t) ≡ total_of t = rw take-length in
        omega (arith, entry_below t n (length t) (omega arith), has_entry)

    -- where every entry is at least 1, a parent comes before its child
    pub parent_less : entriesb t ≡ true → parent_of t n < n
    parent_less entries =
        let q = parent_counted in
        omega (arith, parent_from (parent_of t n) (omega arith), sum_big t (suc (parent_of t n)) entries (omega arith))
