-- The entries are summed.
use Rattle.std.proofs.Common.{◌≡◌, rules, ◌∙◌}
use Rattle.std.specs.List.{sum_by}
use Rattle.topology.proofs.Walks.{total_is}
use Rattle.topology.proofs.sums.Entries.sum.Goals as goal

pub returns : goal.returns
returns c =
    let sum : c.sum.result ≡ sum_by (λ x. x) c.args.self.now = search rules in
    sum ∙ total_is c.args.self.now
