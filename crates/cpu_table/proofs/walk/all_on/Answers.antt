-- A walk over the first c that leaves at the first CPU that is not On.
use Rattle.std.proofs.Common.{ℕ, Bool, ap, eqb, sym, ◌∙◌, get_or, List}
use Rattle.model.proofs.Below.{every_none, every_pass, every_fails}
use Rattle.cpu_table.proofs.walk.all_on.Goals as goal

-- the test of a place
abbrev passes : List ℕ → ℕ → Bool
passes row c = eqb (get_or row c 0) 0

pub loop-c-init : goal.loop-c-init
loop-c-init c = every_none (passes c.args.affinities.now)

pub returns-then-not-on : goal.returns-then-not-on
returns-then-not-on c =
    sym (every_fails (passes c.args.affinities.now) c.args.count c.loop-c.c c.loop-c-test.true
    (ap (λ (x : ℕ). eqb x 0) (sym c.at.ensures) ∙ sym c.on.ensures ∙ c.if-not-on.true))

pub loop-c-preserved : goal.loop-c-preserved
loop-c-preserved c =
    sym (every_pass (passes c.args.affinities.now) c.loop-c.c (sym c.loop-c.invariant)
    (ap (λ (x : ℕ). eqb x 0) (sym c.at.ensures) ∙ sym c.on.ensures ∙ c.if-not-on.false))
