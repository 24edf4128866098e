use Rattle.std.proofs.Common.{◌≡◌}
use Rattle.built.proofs.Built.{no_spans}
use Rattle.model.specs.Assign.{all_assigned_of, span_rows}
use Rattle.topology.proofs.accept.Topology.cpu_spans.Given as goal

-- the CPUs passed are entered
abbrev pub invariant-loop-cpu : goal.invariant-loop-cpu
invariant-loop-cpu l = span_rows l.starts l.ends ≡ all_assigned_of l.self.entries l.self.max l.parents l.cpu no_spans
