use Rattle.std.proofs.Common.{ℕ, ◌+◌, ◌*◌, replicate, refl}
use Rattle.image.specs.Image.{cpu_in}
use Rattle.model.proofs.Tables.{filled_none, filled_turn}
use Rattle.model.specs.Limits.{cpu_limit}
use Rattle.model.specs.State.{no_cpu}
use Rattle.image.proofs.cpus_in.Goals as goal

pub loop-c-init : goal.loop-c-init
loop-c-init c =
    rw c.no_cpu-nothing.ensures (filled_none (λ (n : ℕ). cpu_in c.args.bytes.now (c.args.place + 20 * n)) 0 (replicate cpu_limit no_cpu))

pub loop-c-preserved : goal.loop-c-preserved
loop-c-preserved c =
    filled_turn (λ (n : ℕ). cpu_in c.args.bytes.now (c.args.place + 20 * n)) (replicate cpu_limit no_cpu) c.loop-c.c c.loop-c.cpu-items _ c.cpu_in.result c.loop-c.invariant c.cpu_in.ensures refl
