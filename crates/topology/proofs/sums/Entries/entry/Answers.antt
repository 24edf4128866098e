use Rattle.std.proofs.Common.{arith, rules}
use Rattle.topology.proofs.Walks.{entry_end, entry_found, entry_next}
use Rattle.topology.proofs.sums.Entries.entry.Goals as goal

pub returns-then-rest-children : goal.returns-then-rest-children
returns-then-rest-children c =
    (omega (arith, entry_found c.self.inside.list.now c.loop-i.i (search rules) c.loop-i.rest (omega arith)), search rules)

pub loop-i-preserved : goal.loop-i-preserved
loop-i-preserved c =
    let l = c.loop-i in
    omega (arith, entry_next c.self.inside.list.now l.i (search rules) l.rest (omega arith))

pub returns : goal.returns
returns c = (omega (arith, entry_end c.self.inside.list.now c.loop-i.i (search rules) c.loop-i.rest), search rules)
