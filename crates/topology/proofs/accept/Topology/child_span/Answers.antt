use Rattle.std.proofs.Common.{suc, ◌+◌, arith}
use Rattle.topology_laws.proofs.Sums.{sum_inside}
use Rattle.topology.proofs.accept.Topology.child_span.Goals as goal

pub overflow_cast-end : goal.overflow_cast-end
overflow_cast-end c = omega (arith, c.start-end.ensures, sum_inside c.self.inside.entries (suc (c.args.k + 1)))

pub overflow_cast-start : goal.overflow_cast-start
overflow_cast-start c = omega (arith, c.start-start.ensures, sum_inside c.self.inside.entries (suc c.args.k))
