use Rattle.std.proofs.Common.{rules}
use Rattle.text.proofs.Puts.{then}
use Rattle.text.proofs.run_text.Goals as goal

pub returns : goal.returns
returns c =
    let put = then (then c.board.ensures.put c.answers.ensures.put) c.end.ensures.put in
    search rules
