use Rattle.std.proofs.Common.{arith}
use Rattle.topology.proofs.Acceptance.{domains_inside}
use Rattle.topology.proofs.sums.Entries.cpus.Goals as goal

pub overflow_sub-result : goal.overflow_sub-result
overflow_sub-result c = omega (arith, c.domains.ensures, c.sum.ensures, domains_inside c.args.self.now c.args.max)
