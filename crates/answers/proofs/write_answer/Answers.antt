use Rattle.std.proofs.Common.{sym}
use Rattle.script_laws.proofs.AnswerRecord.{onto_full, onto_room}
use Rattle.answers.proofs.write_answer.Goals as goal

pub returns-then-out-lt-ANSWER-clause-out_after : goal.returns-then-out-lt-ANSWER-clause-out_after
returns-then-out-lt-ANSWER-clause-out_after c = sym (onto_full _ _ c.if-out-lt-ANSWER.true)

pub returns-clause-out_after : goal.returns-clause-out_after
returns-clause-out_after c =
    rw (c.copy_from_slice.ensures.after, c.answer_record.ensures) (sym (onto_room _ _ c.if-out-lt-ANSWER.false))
