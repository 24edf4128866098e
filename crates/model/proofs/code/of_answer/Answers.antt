use Rattle.std.proofs.Common.{sym, rules}
use Rattle.model.proofs.Numbers.{error_answer}
use Rattle.model.proofs.code.of_answer.Goals as goal

pub returns : goal.returns
returns c = sym (error_answer c.args.byte _ (search rules) (search rules))
