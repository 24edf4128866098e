-- A walk over the first c that leaves at the first CPU that is neither Off nor the one that asks.
use Rattle.std.proofs.Common.{◌≡◌, ℕ, Bool, ◌||◌, eqb, ap, sym, ◌∙◌, get_or, List}
use Rattle.model.proofs.Below.{every_none, every_pass, every_fails}
use Rattle.model.specs.Cpu.{offb}
use Rattle.model.specs.State.{no_cpu}
use Rattle.model.specs.declared.cpu.CpuPowerNode.{CpuPowerNode}
use Rattle.cpu_walk.proofs.row.others_off.Goals as goal

-- the CPU at place i is Off, or the one that asks
abbrev at_place : List CpuPowerNode → ℕ → ℕ → Bool
at_place cpus cpu i = eqb i cpu || offb (get_or cpus i no_cpu).affinity_info

-- what the test of a record says of its place
at : (cpus : List CpuPowerNode) (cpu i : ℕ) (x : CpuPowerNode) (b : Bool) →
    x ≡ get_or cpus i no_cpu → b ≡ (eqb i cpu || offb x.affinity_info) → at_place cpus cpu i ≡ b
at cpus cpu i x b e h = sym (h ∙ ap (λ (y : CpuPowerNode). eqb i cpu || offb y.affinity_info) e)

pub loop-c-init : goal.loop-c-init
loop-c-init c = every_none (at_place c.args.cpus.now c.args.cpu)

pub returns-then-not-off_but : goal.returns-then-not-off_but
returns-then-not-off_but c =
    sym (every_fails (at_place c.args.cpus.now c.args.cpu) c.args.count c.loop-c.c c.loop-c-test.true
    (at c.args.cpus.now c.args.cpu c.loop-c.c _ _ c.cpu_at.ensures c.off_but.ensures ∙ c.if-not-off_but.true))

pub loop-c-preserved : goal.loop-c-preserved
loop-c-preserved c =
    sym (every_pass (at_place c.args.cpus.now c.args.cpu) c.loop-c.c (sym c.loop-c.invariant)
    (at c.args.cpus.now c.args.cpu c.loop-c.c _ _ c.cpu_at.ensures c.off_but.ensures ∙ c.if-not-off_but.false))
