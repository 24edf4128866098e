-- Each entry is tested.
use Rattle.std.proofs.Common.{rules, ◌∙◌}
use Rattle.std.proofs.lemmas.Iterator.{YieldsList-from_slice}
use Rattle.std.proofs.lemmas.Iterator.Search.{all_from_yields_List}
use lib.Dec.{leb}
use Rattle.topology.proofs.Walks.{entries_is}
use Rattle.topology.proofs.sums.Entries.none_is_zero.Goals as goal

pub returns : goal.returns
returns c =
    let yields = YieldsList-from_slice c.args.self.now (c.iter.ensures.rest ∙ c.self.view_is) in
    all_from_yields_List (leb 1) _ _ c.all.result c.all.ensures.ran yields (λ x b q k. search rules) ∙ entries_is c.args.self.now
