use Rattle.std.proofs.Common.{◌≡◌, ◌+◌}
use Rattle.model.specs.Table.{filled_of}
use Rattle.script.specs.Bytes.{byte_at}
use Rattle.image.proofs.fill.Given as goal

abbrev pub invariant-loop-i : goal.invariant-loop-i
invariant-loop-i l = l.row ≡ filled_of (λ i. byte_at l.bytes (l.place + i)) 0 l.i l.initial.row
