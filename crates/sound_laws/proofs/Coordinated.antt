-- What coordinate leaves in the rows, and what it resolves.
use Prim.Native.Nat.{ℕ, zero, suc, ◌-◌, ◌<◌, ◌≤◌}
use mathlib.Core.List.{List}
use mathlib.Core.Logic.{◌⊎◌, inl, inr, ⊎_elim}
use mathlib.Core.Path.{◌≡◌, refl, sym, ap, ◌∙◌}
use native.Mathlib.Omega.{arith}
use borrow.Author.Tests.{lt-ltb, ltb-true, ne_eqb, eqb-true, eqb-false}
use lib.Dec.{ltb, eqb}
use lib.ListN.{get_or, set, length, length-set}
use lib.Seq.{get_or-set_same, get_or-set_other}
use Rattle.basics.proofs.Tests.{by, cond_rule}
use Rattle.minimum.proofs.Minimum.{minimum_is}
use Rattle.model.specs.Composite.{state_at, set_state_at}
use Rattle.model.specs.Coordinate.{Coordinated, coordinated, domain_of, run_belowb, minimum_under, request_stored, resolved_at, level_coordinated_of, levels_coordinated_of}
use Rattle.model.specs.declared.board.Tree.{Tree}
use Rattle.model.specs.declared.state.Domains.{Domains}
use Rattle.model.specs.declared.states.CompositeState.{CompositeState}
use Rattle.model.specs.Limits.{cpu_limit, domain_limit, highest_max, levels, request_slots}
use Rattle.model.specs.Path.{above_of}
use Rattle.model.specs.Span.{in_spanb}
use Rattle.model.specs.States.{run}
use Rattle.model.specs.Table.{place_of, at_level, set_at_level}
use Rattle.model.specs.Tree.{cpu_span_at}
use Rattle.sound_laws.proofs.Running.{set_level_other}

-- the states with another one at a level, read there and elsewhere
pub set_state_same : (x : CompositeState) (l v : ℕ) → l < levels → state_at (set_state_at x l v) l ≡ v
set_state_same x zero v h = refl
set_state_same x (suc zero) v h = refl
set_state_same x (suc (suc zero)) v h = refl
set_state_same x (suc (suc (suc zero))) v h = refl
set_state_same x (suc (suc (suc (suc l)))) v h = absurd (omega arith)

pub set_state_other : (x : CompositeState) (l k v : ℕ) → (k ≡ l → ⊥) → state_at (set_state_at x l v) k ≡ state_at x k
set_state_other x l zero v n = simp (ne_eqb l 0 (λ e. n (sym e)))
set_state_other x l (suc zero) v n = simp (ne_eqb l 1 (λ e. n (sym e)))
set_state_other x l (suc (suc zero)) v n = simp (ne_eqb l 2 (λ e. n (sym e)))
set_state_other x l (suc (suc (suc zero))) v n = simp (ne_eqb l 3 (λ e. n (sym e)))
set_state_other x l (suc (suc (suc (suc k)))) v n = refl

-- a store in a table by level and CPU, read there
set_level_same : (row : List ℕ) (l c v : ℕ) → length row ≡ request_slots → 1 ≤ l → l ≤ highest_max → c < cpu_limit →
    at_level (set_at_level row l c v) l c ≡ v
set_level_same row l c v long a b h =
    simp (lt-ltb c cpu_limit h) (get_or-set_same row (place_of l c) v 0 (omega (arith, long)))

pub length_set_level : (row : List ℕ) (l c v : ℕ) → length (set_at_level row l c v) ≡ length row
length_set_level row l c v =
    cond_rule (λ (now : List ℕ). length now ≡ length row) (ltb c cpu_limit) {x = set row (place_of l c) v} {y = row}
    (λ _. simp length-set) (λ _. refl)

module _ (t : Tree) (off first cpu upto : ℕ) (rows : Domains) (asked : CompositeState) where
  -- after the first levels
  abbrev pub after_levels : ℕ → Coordinated
  after_levels n = levels_coordinated_of t off first cpu upto n (coordinated rows.states rows.requests rows.copies asked)

  -- the domain of level n + 1 on the path
  abbrev over : ℕ → ℕ
  over = above_of t.parents first

  pub level_over : (n : ℕ) → domain_of t off first cpu upto (suc n) ≡ over n
  level_over n = let z : suc n - 1 ≡ n = omega arith in ap over z

  -- what was not reached yet is as asked for, and so is level 0
  pub resolved_not_reached : (n l : ℕ) → (1 ≤ l → n < l) → state_at (after_levels n).resolved l ≡ state_at asked l
  unfolding levels_coordinated_of level_coordinated_of
  resolved_not_reached zero l h = refl
  resolved_not_reached (suc n) l h =
      let x = after_levels n in
      set_state_other x.resolved (suc n) l (resolved_at t off first cpu upto (suc n) x)
      (λ e. omega (arith, e, h (omega (arith, e))))
      ∙ resolved_not_reached n l (λ g. omega (arith, h g))

  -- the tables keep their lengths
  pub length_requests : (n : ℕ) → length (after_levels n).requests ≡ length rows.requests
  unfolding levels_coordinated_of level_coordinated_of
  length_requests zero = refl
  length_requests (suc n) =
      length_set_level (after_levels n).requests (suc n) cpu (state_at (after_levels n).resolved (suc n)) ∙ length_requests n

  pub length_states : (n : ℕ) → length (after_levels n).states ≡ length rows.states
  unfolding levels_coordinated_of level_coordinated_of
  length_states zero = refl
  length_states (suc n) =
      let x = after_levels n in
      cond_rule (λ (now : List ℕ). length now ≡ length rows.states) (run_belowb t off first cpu upto (suc n) x)
      {x = x.states} {y = set x.states (domain_of t off first cpu upto (suc n)) (resolved_at t off first cpu upto (suc n) x)}
      (λ _. length_states n) (λ _. simp length-set (length_states n))

  pub length_copies : (n : ℕ) → length (after_levels n).copies ≡ length rows.copies
  unfolding levels_coordinated_of level_coordinated_of
  length_copies zero = refl
  length_copies (suc n) =
      let x = after_levels n in
      cond_rule (λ (now : List ℕ). length now ≡ length rows.copies) (ltb (suc n) upto)
      {x = set x.copies (domain_of t off first cpu upto (suc n)) (resolved_at t off first cpu upto (suc n) x)} {y = x.copies}
      (λ _. simp length-set (length_copies n)) (λ _. length_copies n)

  -- a domain that is not on the path stays
  pub state_beside : (n k : ℕ) → ((j : ℕ) → j < n → k ≡ over j → ⊥) → get_or (after_levels n).states k 0 ≡ get_or rows.states k 0
  unfolding levels_coordinated_of level_coordinated_of
  state_beside zero k aside = refl
  state_beside (suc n) k aside =
      let x = after_levels n in
      let before = state_beside n k (λ j h. aside j (omega arith)) in
      cond_rule (λ (now : List ℕ). get_or now k 0 ≡ get_or rows.states k 0) (run_belowb t off first cpu upto (suc n) x)
      {x = x.states} {y = set x.states (domain_of t off first cpu upto (suc n)) (resolved_at t off first cpu upto (suc n) x)}
      (λ _. before)
      (λ _. get_or-set_other x.states (domain_of t off first cpu upto (suc n)) k (resolved_at t off first cpu upto (suc n) x) 0
      (λ e. aside n (omega arith) (e ∙ level_over n)) ∙ before)

  -- what is resolved is no deeper than OFF
  resolved_to_off : (l : ℕ) (x : Coordinated) → resolved_at t off first cpu upto l x ≤ off
  resolved_to_off l x =
      cond_rule (λ (v : ℕ). v ≤ off) (run_belowb t off first cpu upto l x)
      {x = run} {y = minimum_under t off first cpu upto l (domain_of t off first cpu upto l) (request_stored t off first cpu upto l x)}
      (λ _. omega arith)
      (λ _. let span = cpu_span_at t (domain_of t off first cpu upto l) in
      (minimum_is (in_spanb span) (at_level (request_stored t off first cpu upto l x) l) off span.end).start)

  -- a copy stays, or is a state no deeper than OFF: that of a domain of the path below the highest touched one
  abbrev pub Copies : List ℕ → ℕ → Type 0
  Copies now k = (get_or now k 0 ≡ get_or rows.copies k 0)
      ⊎ ((j : ℕ) × (suc j < upto) × (k ≡ over j) × (get_or now k 0 ≤ off))

  copies_still : (row now : List ℕ) (k : ℕ) → get_or now k 0 ≡ get_or row k 0 → Copies row k → Copies now k
  copies_still row now k e = ⊎_elim (λ f. inl (e ∙ f)) (λ f. inr (f.0, f.1, f.2, omega (arith, e, f.3)))

  pub copy_either : length rows.copies ≡ domain_limit → ((j : ℕ) → j < upto → over j < domain_limit) →
      (n k : ℕ) → n ≤ upto → Copies (after_levels n).copies k
  unfolding levels_coordinated_of level_coordinated_of
  copy_either wide inside zero k b = inl refl
  copy_either wide inside (suc n) k b =
      let x = after_levels n in
      let d = domain_of t off first cpu upto (suc n) in
      let v = resolved_at t off first cpu upto (suc n) x in
      let before = copy_either wide inside n k (omega arith) in
      cond_rule (λ (now : List ℕ). Copies now k) (ltb (suc n) upto) {x = set x.copies d v} {y = x.copies}
      (λ below. by (eqb k d)
      (λ e. let z = eqb-true k d e in
      let read : get_or (set x.copies d v) k 0 ≡ v = ap (λ (j : ℕ). get_or (set x.copies d v) j 0) z
      ∙ get_or-set_same x.copies d v 0 (omega (arith, length_copies n, wide, inside n (omega arith), level_over n)) in
      inr (n, ltb-true (suc n) upto below, z ∙ level_over n, omega (arith, read, resolved_to_off (suc n) x)))
      (λ e. copies_still x.copies (set x.copies d v) k (get_or-set_other x.copies d k v 0 (eqb-false k d e)) before))
      (λ _. before)

  module _ (is_cpu : cpu < cpu_limit) (long : length rows.requests ≡ request_slots) where
    -- the CPU asks for what it asked for at these levels
    pub request_asked : (n l : ℕ) → n ≤ highest_max → 1 ≤ l → l ≤ n → at_level (after_levels n).requests l cpu ≡ state_at asked l
    unfolding levels_coordinated_of level_coordinated_of
    request_asked zero l m a b = absurd (omega arith)
    request_asked (suc n) l m a b =
        let row = (after_levels n).requests in
        let v = state_at (after_levels n).resolved (suc n) in
        by (eqb l (suc n))
        (λ e. let z = eqb-true l (suc n) e in
        ap (λ (k : ℕ). at_level (set_at_level row (suc n) cpu v) k cpu) z
        ∙ set_level_same row (suc n) cpu v (length_requests n ∙ long) (omega arith) m is_cpu
        ∙ resolved_not_reached n (suc n) (λ _. omega arith) ∙ ap (state_at asked) (sym z))
        (λ e. let d = eqb-false l (suc n) e in
        set_level_other row (suc n) cpu l cpu v (omega arith) a is_cpu is_cpu (λ y _. d y)
        ∙ request_asked n l (omega arith) a (omega (arith, d)))

    -- what others ask for stays, and what it asks for above
    pub request_kept : (n l i : ℕ) → 1 ≤ l → i < cpu_limit → (i ≡ cpu → n < l) → at_level (after_levels n).requests l i ≡ at_level rows.requests l i
    unfolding levels_coordinated_of level_coordinated_of
    request_kept zero l i a b aside = refl
    request_kept (suc n) l i a b aside =
        set_level_other (after_levels n).requests (suc n) cpu l i (state_at (after_levels n).resolved (suc n)) (omega arith) a is_cpu b
        (λ y z. omega (arith, aside z, y))
        ∙ request_kept n l i a b (λ z. omega (arith, aside z))
