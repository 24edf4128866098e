-- In a sound state each domain has the shallowest of what the CPUs under it ask for, where 'under' is the topology's.
use Prim.Native.Nat.{ℕ, ◌<◌, ◌≤◌}
use mathlib.Core.List.{List}
use mathlib.Core.Path.{◌≡◌, refl, ap, ◌∙◌}
use native.Mathlib.Omega.{arith}
use borrow.Author.Tests.{eq-eqb, eqb-true}
use Rattle.history.specs.Under.{underb}
use Rattle.minimum.proofs.Minimum.{Counted, minimum_same}
use Rattle.model.specs.Minimum.{minimum_of}
use Rattle.model.specs.Path.{level_at}
use Rattle.model.specs.Sound.{Sound}
use Rattle.model.specs.Span.{in_spanb, span_minimum_of}
use Rattle.model.specs.State.{max_at, off_at, domain_count_of, topology_at, domain_state_at, request_at}
use Rattle.model.specs.Topology.{domains_of, cpus_of, over_of, level_of}
use Rattle.model.specs.Tree.{cpu_span_of}
use Rattle.model.specs.declared.node.Span.{Span}
use Rattle.model.specs.declared.state.State.{State}
use Rattle.model.proofs.Spans.{span_in_lem}
use Rattle.sound_laws.proofs.Reflect.{board_accepted}
use Rattle.sound_laws.proofs.Stored.{stored_span, stored_level}
use Rattle.topology_laws.proofs.Accepted.{Accepted}
use Rattle.topology_laws.proofs.Paths.{over_level}
use Rattle.topology_laws.proofs.Spans.{span_over, over_span, span_inside}

module _ (s : State) (sound : Sound s) where
  abbrev t : List ℕ
  t = topology_at s

  abbrev max : ℕ
  max = max_at s

  -- the topology is acceptable
  pub topology : Accepted t max s.board.primary.0
  topology = board_accepted s sound.fits.accepted

  -- the domain of a level over a CPU has that CPU under it
  pub over_under : (l c : ℕ) → 1 ≤ l → l ≤ max → c < cpus_of t max → Counted (cpus_of t max) (underb t max (over_of t max l c)) c
  over_under l c low high h = record {
    below = h;
    is = eq-eqb _ _ (ap (λ (n : ℕ). over_of t max n c) (over_level topology l c low high h));
  }

  -- each domain has the minimum of what the CPUs under it ask of it
  pub under_minimum : (k : ℕ) → k < domains_of t max →
      domain_state_at s k ≡ minimum_of (cpus_of t max) (underb t max k) (request_at s (level_of t max k)) (off_at s)
  under_minimum k h =
      let is : k < domain_count_of s = omega (arith, sound.fits.domain_count) in
      let span = cpu_span_of t max k in
      let asked = request_at s (level_of t max k) in
      (sound.domains k is).minimum
      ∙ ap (λ (x : Span). span_minimum_of x (request_at s (level_at s.tree.parents max k)) (off_at s)) (stored_span s sound.fits k is)
      ∙ ap (λ (l : ℕ). span_minimum_of span (request_at s l) (off_at s)) (stored_level s sound.fits k is)
      ∙ minimum_same span.end (cpus_of t max) (in_spanb span) (underb t max k) asked asked (off_at s)
      (record {
        counted = λ i c.
            let b : i < cpus_of t max = omega (arith, c.below, (span_inside topology k h).1) in
            record { below = b; is = eq-eqb _ _ (span_over topology k h i b c.is) };
        same = λ i c. refl;
      })
      (record {
        counted = λ i c.
            let e = over_span topology k h i c.below (eqb-true _ _ c.is) in
            record { below = (span_in_lem span i e).1; is = e };
        same = λ i c. refl;
      })
