use Rattle.std.proofs.Common.{◌+◌, ◌≡◌, ◌≤◌, take}
use Rattle.text.specs.Put.{Put}
use Rattle.text.proofs.pieces.Page.word.Given as goal

-- the letters passed are put
abbrev pub invariant-loop-letter : goal.invariant-loop-letter
invariant-loop-letter l =
    (l.self.text.ghost_name ≡ l.initial.self.text.ghost_name) × (l.self.at ≤ l.initial.self.at + l.letter-index)
    × Put l.initial.self.text.now l.initial.self.at (take l.letter-index l.word) l.self.text.now l.self.at
