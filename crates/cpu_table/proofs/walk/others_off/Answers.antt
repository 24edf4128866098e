-- A walk over the first c that leaves at the first CPU that is neither Off nor the one that asks.
use Rattle.std.proofs.Common.{ℕ, Bool, ◌||◌, eqb, ap, sym, ◌∙◌, get_or, List}
use Rattle.model.proofs.Below.{every_none, every_pass, every_fails}
use Rattle.cpu_table.proofs.walk.others_off.Goals as goal

-- the test of a place
abbrev passes : List ℕ → ℕ → ℕ → Bool
passes row but c = eqb c but || eqb (get_or row c 0) 1

pub loop-c-init : goal.loop-c-init
loop-c-init c = every_none (passes c.args.affinities.now c.args.but)

pub returns-then-not-off_but : goal.returns-then-not-off_but
returns-then-not-off_but c =
    sym (every_fails (passes c.args.affinities.now c.args.but) c.args.count c.loop-c.c c.loop-c-test.true
    (ap (λ (x : ℕ). eqb c.loop-c.c c.args.but || eqb x 1) (sym c.at.ensures) ∙ sym c.off_but.ensures ∙ c.if-not-off_but.true))

pub loop-c-preserved : goal.loop-c-preserved
loop-c-preserved c =
    sym (every_pass (passes c.args.affinities.now c.args.but) c.loop-c.c (sym c.loop-c.invariant)
    (ap (λ (x : ℕ). eqb c.loop-c.c c.args.but || eqb x 1) (sym c.at.ensures) ∙ sym c.off_but.ensures ∙ c.if-not-off_but.false))
