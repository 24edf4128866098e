use Rattle.std.proofs.Common.{◌≡◌, ◌+◌, ◌*◌, replicate}
use Rattle.image.specs.Image.{cpu_in}
use Rattle.model.specs.Limits.{cpu_limit}
use Rattle.model.specs.State.{no_cpu}
use Rattle.model.specs.Table.{filled_of}
use Rattle.image.proofs.cpus_in.Given as goal

abbrev pub invariant-loop-c : goal.invariant-loop-c
invariant-loop-c l = l.cpu-items ≡ filled_of (λ c. cpu_in l.bytes (l.place + 20 * c)) 0 l.c (replicate cpu_limit no_cpu)
