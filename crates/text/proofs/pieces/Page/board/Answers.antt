use Rattle.model.specs.State.{max_at, domain_count_of}
use Rattle.script.specs.Printed.{domains_word, levels_word, decimal_of, board_line}
use Rattle.text.proofs.Puts.{then, then_both}
use Rattle.text.proofs.pieces.Page.board.Goals as goal

pub returns-clause-put : goal.returns-clause-put
unfolding board_line
returns-clause-put c =
    let two = then_both domains_word (decimal_of (domain_count_of c.args.s)) c.named.ensures.put c.named-2.ensures.put in
    let three = then_both levels_word (decimal_of (max_at c.args.s)) two c.named-3.ensures.put in
    then three c.byte.ensures.put
