-- What set_running leaves in the rows.
use Prim.Native.Nat.{ℕ, zero, suc, ◌<◌, ◌≤◌}
use mathlib.Core.List.{List}
use mathlib.Core.Logic.{◌⊎◌, inl, inr, ⊎_elim}
use mathlib.Core.Path.{◌≡◌, refl, sym, ap, ◌∙◌}
use native.Mathlib.Omega.{arith}
use borrow.Author.Tests.{lt-ltb, ltb-true, eqb-true, eqb-false}
use lib.Dec.{eqb, ltb}
use lib.ListN.{get_or, set}
use lib.Seq.{get_or-set_other, set-get_or}
use Rattle.basics.proofs.Lists.{get_d_set_default}
use Rattle.basics.proofs.Tests.{by, cond_rule}
use Rattle.model.specs.declared.state.Domains.{Domains}
use Rattle.model.specs.Limits.{cpu_limit}
use Rattle.model.specs.Node.{no_suspend_state}
use Rattle.model.specs.Path.{above_of, levels_running_of}
use Rattle.model.specs.States.{run}
use Rattle.model.specs.Table.{place_of, at_level, set_at_level}

-- the table after a store of 0, at that level and CPU and at another
pub set_level_run : (row : List ℕ) (l c : ℕ) → c < cpu_limit → at_level (set_at_level row l c 0) l c ≡ 0
set_level_run row l c h = simp (lt-ltb c cpu_limit h) (get_d_set_default row (place_of l c) 0)

pub set_level_other : (row : List ℕ) (l c k i v : ℕ) → 1 ≤ l → 1 ≤ k → c < cpu_limit → i < cpu_limit → (k ≡ l → i ≡ c → ⊥) →
    at_level (set_at_level row l c v) k i ≡ at_level row k i
set_level_other row l c k i v a b h g apart =
    simp (lt-ltb c cpu_limit h) (get_or-set_other row (place_of l c) (place_of k i) v 0 (λ e. apart (omega (arith, e)) (omega (arith, e))))

module _ (parents : List ℕ) (max first cpu : ℕ) (x : Domains) where
  abbrev after : ℕ → Domains
  after n = levels_running_of parents max first cpu n x

  -- the domains of the path run
  pub state_run : (n j : ℕ) → j < n → get_or (after n).states (above_of parents first j) 0 ≡ run
  unfolding levels_running_of
  state_run zero j h = absurd (omega arith)
  state_run (suc n) j h =
      by (eqb (above_of parents first j) (above_of parents first n))
      (λ e. let z = eqb-true _ _ e in
      ap (λ (k : ℕ). get_or (set (after n).states (above_of parents first n) run) k 0) z
      ∙ get_d_set_default (after n).states (above_of parents first n) 0)
      (λ e. let d = eqb-false (above_of parents first j) (above_of parents first n) e in
      get_or-set_other (after n).states (above_of parents first n) (above_of parents first j) run 0 d
      ∙ state_run n j (by (eqb j n) (λ u. absurd (d (ap (above_of parents first) (eqb-true j n u)))) (λ u. omega (arith, eqb-false j n u))))

  -- the others stay
  pub state_kept : (n k : ℕ) → ((j : ℕ) → j < n → k ≡ above_of parents first j → ⊥) → get_or (after n).states k 0 ≡ get_or x.states k 0
  unfolding levels_running_of
  state_kept zero k off = refl
  state_kept (suc n) k off =
      get_or-set_other (after n).states (above_of parents first n) k run 0 (off n (omega arith))
      ∙ state_kept n k (λ j h. off j (omega arith))

  -- a copy stays, or is RUN: that of a domain of the path below the top
  abbrev pub Copies : List ℕ → ℕ → Type 0
  Copies now k = (get_or now k 0 ≡ get_or x.copies k 0)
      ⊎ ((j : ℕ) × (suc j < max) × (k ≡ above_of parents first j) × (get_or now k 0 ≡ run))

  copies_still : (row now : List ℕ) (k : ℕ) → get_or now k 0 ≡ get_or row k 0 → Copies row k → Copies now k
  copies_still row now k e = ⊎_elim (λ f. inl (e ∙ f)) (λ f. inr (f.0, f.1, f.2, e ∙ f.3))

  pub copy_either : (n k : ℕ) → Copies (after n).copies k
  unfolding levels_running_of
  copy_either zero k = inl refl
  copy_either (suc n) k =
      let row = (after n).copies in
      let d = above_of parents first n in
      cond_rule (λ (now : List ℕ). Copies now k) (ltb (suc n) max) {x = set row d run} {y = row}
      (λ below. by (eqb k d)
      (λ e. let z = eqb-true k d e in
      inr (n, ltb-true (suc n) max below, z, ap (λ (j : ℕ). get_or (set row d run) j 0) z ∙ get_d_set_default row d 0))
      (λ e. copies_still row (set row d run) k (get_or-set_other row d k run 0 (eqb-false k d e)) (copy_either n k)))
      (λ _. copy_either n k)

  module _ (is_cpu : cpu < cpu_limit) where
    -- the CPU asks for RUN at these levels
    pub request_run : (n l : ℕ) → 1 ≤ l → l ≤ n → at_level (after n).requests l cpu ≡ run
    unfolding levels_running_of
    request_run zero l a b = absurd (omega arith)
    request_run (suc n) l a b =
        by (eqb l (suc n))
        (λ e. let z = eqb-true l (suc n) e in
        ap (λ (k : ℕ). at_level (set_at_level (after n).requests (suc n) cpu run) k cpu) z ∙ set_level_run (after n).requests (suc n) cpu is_cpu)
        (λ e. let d = eqb-false l (suc n) e in
        set_level_other (after n).requests (suc n) cpu l cpu run (omega arith) a is_cpu is_cpu (λ y _. d y)
        ∙ request_run n l a (omega arith))

    -- what others ask for stays, and what it asks for above
    pub request_kept : (n l i : ℕ) → 1 ≤ l → i < cpu_limit → (i ≡ cpu → n < l) → at_level (after n).requests l i ≡ at_level x.requests l i
    unfolding levels_running_of
    request_kept zero l i a b off = refl
    request_kept (suc n) l i a b off =
        set_level_other (after n).requests (suc n) cpu l i run (omega arith) a is_cpu b (λ y z. omega (arith, off z, y))
        ∙ request_kept n l i a b (λ z. omega (arith, off z))

    -- where the CPU had no suspend state nothing changes
    pub suspends_kept : (n : ℕ) → ((l : ℕ) → 1 ≤ l → l ≤ n → at_level x.suspends l cpu ≡ no_suspend_state) → (after n).suspends ≡ x.suspends
    unfolding levels_running_of
    suspends_kept zero none = refl
    suspends_kept (suc n) none =
        let r = suspends_kept n (λ l a b. none l a (omega arith)) in
        simp (lt-ltb cpu cpu_limit is_cpu)
        (ap (set (after n).suspends (place_of (suc n) cpu))
        (sym (ap (λ (row : List ℕ). at_level row (suc n) cpu) r ∙ none (suc n) (omega arith) (omega arith)))
        ∙ set-get_or (after n).suspends (place_of (suc n) cpu) 0 ∙ r)
