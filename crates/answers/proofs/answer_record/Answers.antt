use Rattle.std.proofs.Common.{◌≡◌, ◌/◌, arith}
use Rattle.script.specs.AnswerRecord.{answer_bytes}
use Rattle.script.specs.Bytes.{bytes_of}
use Rattle.answers.proofs.answer_record.Goals as goal

pub returns : goal.returns
unfolding answer_bytes bytes_of
returns c =
    let n = c.args.number in
    let two : n / 65536 ≡ n / 256 / 256 = omega arith in
    let three : n / 16777216 ≡ n / 256 / 256 / 256 = omega arith in
    rw (c.to_le_bytes.ensures, two, three, c.code_byte.ensures)
