use Rattle.std.proofs.Common.{◌+◌, ◌*◌, ◌≡◌, ◌≤◌}
use Rattle.script.specs.Printed.{states_text}
use Rattle.text.specs.Put.{Put}
use Rattle.text.proofs.pieces.Page.states.Given as goal

-- the levels passed are put
abbrev pub invariant-loop-level : goal.invariant-loop-level
invariant-loop-level l =
    (l.self.text.ghost_name ≡ l.initial.self.text.ghost_name) × (l.self.at ≤ l.initial.self.at + 11 * l.level)
    × Put l.initial.self.text.now l.initial.self.at (states_text l.level l.answers l.place) l.self.text.now l.self.at
