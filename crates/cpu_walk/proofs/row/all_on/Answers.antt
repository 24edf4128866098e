-- A walk over the first c that leaves at the first CPU that is not On.
use Rattle.std.proofs.Common.{◌≡◌, ℕ, Bool, ap, sym, ◌∙◌, get_or, List}
use Rattle.model.proofs.Below.{every_none, every_pass, every_fails}
use Rattle.model.specs.Cpu.{onb}
use Rattle.model.specs.State.{no_cpu}
use Rattle.model.specs.declared.cpu.CpuPowerNode.{CpuPowerNode}
use Rattle.cpu_walk.proofs.row.all_on.Goals as goal

-- the CPU at place i is On
abbrev at_place : List CpuPowerNode → ℕ → Bool
at_place cpus i = onb (get_or cpus i no_cpu).affinity_info

-- what the test of a record says of its place
at : (cpus : List CpuPowerNode) (i : ℕ) (x : CpuPowerNode) (b : Bool) →
    x ≡ get_or cpus i no_cpu → b ≡ onb x.affinity_info → at_place cpus i ≡ b
at cpus i x b e h = sym (h ∙ ap (λ (y : CpuPowerNode). onb y.affinity_info) e)

pub loop-c-init : goal.loop-c-init
loop-c-init c = every_none (at_place c.args.cpus.now)

pub returns-then-not-on : goal.returns-then-not-on
returns-then-not-on c =
    sym (every_fails (at_place c.args.cpus.now) c.args.count c.loop-c.c c.loop-c-test.true
    (at c.args.cpus.now c.loop-c.c _ _ c.cpu_at.ensures c.on.ensures ∙ c.if-not-on.true))

pub loop-c-preserved : goal.loop-c-preserved
loop-c-preserved c =
    sym (every_pass (at_place c.args.cpus.now) c.loop-c.c (sym c.loop-c.invariant)
    (at c.args.cpus.now c.loop-c.c _ _ c.cpu_at.ensures c.on.ensures ∙ c.if-not-on.false))
