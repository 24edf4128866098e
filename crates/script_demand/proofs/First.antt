-- A run with a smaller budget takes the first of the same calls.
use Prim.Native.Nat.{ℕ, zero, suc, ◌-◌, ◌≤◌}
use mathlib.Core.List.{List, ◌∷◌}
use mathlib.Core.Path.{◌≡◌, refl, ap}
use native.Mathlib.Omega.{arith}
use lib.Dec.{ltb}
use lib.ListN.{take, drop}
use Rattle.basics.proofs.Tests.{by}
use Rattle.model.specs.declared.call.Call.{Call}
use Rattle.script.specs.AnswerRecord.{answer_size}
use Rattle.script.specs.Record.{read_of}
use Rattle.script.specs.declared.record.Read.{Read}
use Rattle.script.specs.declared.record.Read.TheVariants as read
use Rattle.script_demand.specs.Taken.{taken_if, taken_of}

first_if : (n : ℕ) (x : Read) (f g : Call → ℕ → List Call) → ((c : Call) (next : ℕ) → f c next ≡ take (suc n) (g c next)) →
    taken_if x f ≡ take (suc n) (taken_if x g)
first_if n read.End f g h = refl
first_if n (read.Event c next) f g h = h c next
first_if n read.Malformed f g h = refl

pub taken_first : (n budget room max : ℕ) (l : List ℕ) → n ≤ budget →
    taken_of n room max l ≡ take n (taken_of budget room max l)
unfolding taken_of
taken_first zero budget room max l h = refl
taken_first (suc n) zero room max l h = absurd (omega arith)
taken_first (suc n) (suc budget) room max l h =
    first_if n (read_of max l) _ _
    (λ c next. by (ltb room answer_size)
    (λ e. simp e)
    (λ e. simp e (ap (λ (ks : List Call). c ∷ ks) (taken_first n budget (room - answer_size) max (drop next l) (omega arith)))))
