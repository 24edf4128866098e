-- What is read and is no event.
use Rattle.std.proofs.Common.{ℕ, ◌≡◌, ◌<◌, List, length, inl, refl}
use Rattle.model.specs.declared.call.Call.{Call}
use Rattle.script.specs.Record.{read_of}
use Rattle.script.specs.declared.record.Read.{Read}
use Rattle.script.specs.declared.record.Read.TheVariants as read
use Rattle.script_laws.proofs.Record.{read_some}

-- where something is left and no event is read, it is 108
pub read_none : (max : ℕ) (l : List ℕ) → 0 < length l → (x : Read) → x ≡ read_of max l →
    ((c : Call) (next : ℕ) → x ≡ read.Event c next → ⊥) → x ≡ read.Malformed
read_none max l some read.End e h = read_some max l some read.End e (inl refl)
read_none max l some (read.Event c next) e h = absurd (h c next refl)
read_none max l some read.Malformed e h = refl
