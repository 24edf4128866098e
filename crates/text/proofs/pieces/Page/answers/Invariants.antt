use Rattle.std.proofs.Common.{◌+◌, ◌*◌, ◌≡◌, ◌≤◌}
use Rattle.script.specs.Printed.{answer_lines}
use Rattle.text.specs.Put.{Put, line_most}
use Rattle.text.proofs.pieces.Page.answers.Given as goal

-- the records passed have their lines
abbrev pub invariant-loop-i : goal.invariant-loop-i
invariant-loop-i l =
    (l.self.text.ghost_name ≡ l.initial.self.text.ghost_name) × (l.self.at ≤ l.initial.self.at + line_most * l.i)
    × Put l.initial.self.text.now l.initial.self.at (answer_lines l.max.0 l.i l.answers) l.self.text.now l.self.at
