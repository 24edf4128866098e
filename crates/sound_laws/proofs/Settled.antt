-- Coordinate makes every domain that it touches the minimum of what is asked of it, and that is what it resolves.
use Prim.Native.Nat.{ℕ, zero, suc, ◌-◌, ◌<◌, ◌≤◌}
use mathlib.Core.Bool.{true, and-eq-true_iff}
use mathlib.Core.List.{List}
use mathlib.Core.Path.{◌≡◌, sym, ap, ◌∙◌}
use native.Mathlib.Omega.{arith}
use borrow.Author.Tests.{eqb-true, eqb-false}
use lib.Dec.{leb, eqb}
use lib.ListN.{get_or, set, length}
use lib.Seq.{get_or-set_same, get_or-set_other}
use Rattle.std.proofs.lemmas.Grind.{get_or-set_at}
use Rattle.basics.proofs.Tests.{by}
use Rattle.minimum.proofs.Minimum.{Counted, minimum_same}
use Rattle.model.specs.Composite.{state_at}
use Rattle.model.specs.Coordinate.{Coordinated, domain_of, run_belowb, minimum_under, request_stored, resolved_at, level_coordinated_of, levels_coordinated_of}
use Rattle.model.specs.declared.board.Tree.{Tree}
use Rattle.model.specs.declared.state.Domains.{Domains}
use Rattle.model.specs.declared.states.CompositeState.{CompositeState}
use Rattle.model.specs.Limits.{cpu_limit, domain_limit, highest_max, request_slots}
use Rattle.model.specs.Path.{above_of}
use Rattle.model.specs.Span.{in_spanb}
use Rattle.model.specs.States.{run}
use Rattle.model.specs.Table.{at_level}
use Rattle.model.specs.Tree.{cpu_span_at}
use Rattle.sound_laws.proofs.Coordinated.{after_levels, level_over, set_state_same, set_state_other, length_states, state_beside, request_asked, request_kept}

module _ (t : Tree) (off first cpu upto : ℕ) (rows : Domains) (asked : CompositeState) where
  abbrev at : ℕ → Coordinated
  at = after_levels t off first cpu upto rows asked

  -- the domain of level n + 1 on the path
  abbrev over : ℕ → ℕ
  over = above_of t.parents first

  -- the minimum, in the end, of what is asked of it
  abbrev pub minimum_at : ℕ → ℕ
  minimum_at n = minimum_under t off first cpu upto (suc n) (over n) (at upto).requests

  -- the path is one, its domains ran, and above a domain whose minimum comes out RUN the next one's does too
  pub record OnRunningPath : Type 0 where
    pub low : upto ≤ highest_max
    pub is_cpu : cpu < cpu_limit
    pub long : length rows.requests ≡ request_slots
    pub wide : length rows.states ≡ domain_limit
    pub inside : (j : ℕ) → j < upto → over j < domain_limit
    pub apart : (i j : ℕ) → i < upto → j < upto → over i ≡ over j → i ≡ j
    pub cpus : (i j : ℕ) → j < upto → in_spanb (cpu_span_at t (over j)) i ≡ true → i < cpu_limit
    pub ran : (j : ℕ) → j < upto → get_or rows.states (over j) 0 ≡ run
    pub rises : (j : ℕ) → suc j < upto → minimum_at j ≡ run → minimum_at (suc j) ≡ run

  -- the first levels are settled
  pub record Settled (n : ℕ) : Type 0 where
    pub resolved : (j : ℕ) → j < n → state_at (at n).resolved (suc j) ≡ minimum_at j
    pub stored : (j : ℕ) → j < n → get_or (at n).states (over j) 0 ≡ minimum_at j

  module _ (p : OnRunningPath) where
    -- what is asked of a level does not change after it
    request_settled : (n i : ℕ) → n < upto → i < cpu_limit →
        at_level (at (suc n)).requests (suc n) i ≡ at_level (at upto).requests (suc n) i
    request_settled n i h b =
        by (eqb i cpu)
        (λ e. let z = eqb-true i cpu e in
        let own : (m : ℕ) → m ≤ upto → suc n ≤ m → at_level (at m).requests (suc n) i ≡ state_at asked (suc n) =
        λ m u g. ap (at_level (at m).requests (suc n)) z
        ∙ request_asked t off first cpu upto rows asked p.is_cpu p.long m (suc n) (omega (arith, p.low)) (omega arith) g in
        own (suc n) (omega arith) (omega arith) ∙ sym (own upto (omega arith) (omega arith)))
        (λ e. let d = eqb-false i cpu e in
        let other : (m : ℕ) → at_level (at m).requests (suc n) i ≡ at_level rows.requests (suc n) i =
        λ m. request_kept t off first cpu upto rows asked p.is_cpu p.long m (suc n) i (omega arith) b (λ z. absurd (d z)) in
        other (suc n) ∙ sym (other upto))

    -- so the minimum that is taken there is the one in the end
    minimum_settled : (n : ℕ) → n < upto →
        minimum_under t off first cpu upto (suc n) (domain_of t off first cpu upto (suc n)) (request_stored t off first cpu upto (suc n) (at n)) ≡ minimum_at n
    unfolding levels_coordinated_of level_coordinated_of
    minimum_settled n h =
        let span = cpu_span_at t (over n) in
        let row = at_level (request_stored t off first cpu upto (suc n) (at n)) (suc n) in
        let same : (i : ℕ) → Counted span.end (in_spanb span) i → row i ≡ at_level (at upto).requests (suc n) i =
        λ i w. request_settled n i h (p.cpus i n h w.is) in
        ap (λ (d : ℕ). minimum_under t off first cpu upto (suc n) d (request_stored t off first cpu upto (suc n) (at n)))
        (level_over t off first cpu upto rows asked n)
        ∙ minimum_same span.end span.end (in_spanb span) (in_spanb span) row (at_level (at upto).requests (suc n)) off
        (record { counted = λ i w. w; same = same }) (record { counted = λ i w. w; same = λ i w. sym (same i w) })

    -- what is resolved at a level is that minimum: taken there, or RUN as the one below
    resolved_minimum : (n : ℕ) → n < upto → Settled n → resolved_at t off first cpu upto (suc n) (at n) ≡ minimum_at n
    resolved_minimum zero h g = minimum_settled 0 h
    resolved_minimum (suc n) h g =
        by (run_belowb t off first cpu upto (suc (suc n)) (at (suc n)))
        (λ e. let z : suc (suc n) - 1 ≡ suc n = omega arith in
        let below = ((and-eq-true_iff (leb 2 (suc (suc n))) (eqb (state_at (at (suc n)).resolved (suc (suc n) - 1)) run)).0 e).1 in
        let is-run : state_at (at (suc n)).resolved (suc n) ≡ run = ap (state_at (at (suc n)).resolved) (sym z) ∙ eqb-true _ run below in
        simp e (sym (p.rises n h (sym (g.resolved n (omega arith)) ∙ is-run))))
        (λ e. simp e (minimum_settled (suc n) h))

    -- the domain of a level was not written below it
    not_written : (n : ℕ) → n < upto → get_or (at n).states (over n) 0 ≡ run
    not_written n h =
        state_beside t off first cpu upto rows asked n (over n)
        (λ j b e. omega (arith, p.apart n j h (omega arith) e)) ∙ p.ran n h

    settled_next : (n : ℕ) → n < upto → Settled n → Settled (suc n)
    unfolding levels_coordinated_of level_coordinated_of
    settled_next n h g =
        let x = at n in
        let v = resolved_at t off first cpu upto (suc n) x in
        let is : resolved_at t off first cpu upto (suc n) x ≡ minimum_at n = resolved_minimum n h g in
        let d = domain_of t off first cpu upto (suc n) in
        let here : domain_of t off first cpu upto (suc n) ≡ over n = level_over t off first cpu upto rows asked n in
        record {
          resolved = λ j b.
              by (eqb j n)
              (λ e. let z = eqb-true j n e in
              rw z (set_state_same x.resolved (suc n) v (omega (arith, p.low)) ∙ is))
              (λ e. let u = eqb-false j n e in
              set_state_other x.resolved (suc n) (suc j) v (λ y. u (omega (arith, y)))
              ∙ g.resolved j (omega (arith, u)));
          stored = λ j b.
              by (run_belowb t off first cpu upto (suc n) x)
              (λ r. simp r
              (by (eqb j n)
              (λ e. let z = eqb-true j n e in
              let is-run : run ≡ minimum_at n = simp r at is in
              rw z (not_written n h ∙ is-run))
              (λ e. g.stored j (omega (arith, eqb-false j n e)))))
              (λ r. simp r
              (by (eqb j n)
              (λ e. let z = eqb-true j n e in
              rw z (get_or-set_at x.states d (over n) _ 0 (sym here)
              (omega (arith, length_states t off first cpu upto rows asked n, p.wide, p.inside n h, here)) ∙ (simp r at is)))
              (λ e. let u = eqb-false j n e in
              get_or-set_other x.states d (over j) _ 0 (λ y. u (p.apart j n (omega (arith, u)) h (y ∙ here)))
              ∙ g.stored j (omega (arith, u)))));
        }

    pub settled : (n : ℕ) → n ≤ upto → Settled n
    settled zero h = record { resolved = λ j b. absurd (omega arith); stored = λ j b. absurd (omega arith) }
    settled (suc n) h = settled_next n h (settled n (omega arith))
