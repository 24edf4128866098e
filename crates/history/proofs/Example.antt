-- What the CPUs of the bench board stand for, by computation: at first, after B3 with calls that are refused or not entered among the
-- others, and after CPU 1 is off again.
use Prim.Native.Nat.{ℕ}
use mathlib.Core.Bool.{Bool, true, false}
use mathlib.Core.List.{List, [], ◌∷◌, ◌++◌}
use mathlib.Core.Path.{◌≡◌, refl}
use Rattle.std.specs.Prelude.{Ok, Err}
use Rattle.history.specs.History.{Done}
use Rattle.history.specs.Standing.{standing_from, standing}
use Rattle.history.specs.Under.{shallowest_of}
use Rattle.model.specs.Minimum.{lesser_of, minimum_of}
use Rattle.model.specs.Topology.{total_of, entry_of, down_of, ancestor_of, level_of}
use Rattle.model.specs.declared.call.Call.{Call}
use Rattle.model.specs.declared.call.Call.TheVariants as call
use Rattle.model.specs.Numbers.{Code}
use Rattle.model.specs.declared.code.Refusal.TheVariants as code
use Rattle.model.specs.declared.cpu.EntryPoint.{EntryPoint}
use Rattle.model.specs.declared.sorts.CpuNumber.{CpuNumber}
use Rattle.model.specs.declared.states.CompositeState.{CompositeState}
use Rattle.model.specs.declared.states.Platform.{Platform}

abbrev p : Platform
p = record { max = record { 0 = 2 }; states = 4; down = 2 }

abbrev t : List ℕ
t = 1 ∷ 2 ∷ 2 ∷ 2 ∷ []

abbrev cpu : ℕ → CpuNumber
cpu c = record { 0 = c }

abbrev entry : EntryPoint
entry = record { address = 4096; context = 0 }

abbrev asks : ℕ → ℕ → ℕ → CompositeState
asks a b c = record { level0 = a; level1 = b; level2 = c; level3 = 0 }

abbrev done : Call → Code → Done
done k c = record { call = k; code = c }

abbrev suspend : ℕ → Bool → CompositeState → Call
suspend c pending = call.Suspend (cpu c) pending entry

-- CPU 1 comes up; CPU 0's first suspend is not entered, its second is; CPU 1's first is refused, its second is entered
abbrev turns : List Done
turns =
    done (call.On (cpu 0) (cpu 1) entry true 0) (Ok tt)
    ∷ done (call.Boot (cpu 1)) (Ok tt)
    ∷ done (suspend 0 true (asks 1 1 1)) (Ok tt)
    ∷ done (suspend 0 false (asks 3 3 3)) (Ok tt)
    ∷ done (suspend 1 false (asks 2 0 1)) (Err code.InvalidParameters)
    ∷ done (suspend 1 false (asks 2 2 1)) (Ok tt)
    ∷ []

-- then CPU 1 wakes and CPU 0 boots, CPU 1 turns itself off, and CPU 0's suspend is not entered and its off refused
abbrev more : List Done
more =
    done (call.Finish (cpu 1)) (Ok tt)
    ∷ done (call.Boot (cpu 0)) (Ok tt)
    ∷ done (call.Off (cpu 1) 0) (Ok tt)
    ∷ done (suspend 0 true (asks 3 3 3)) (Ok tt)
    ∷ done (call.Off (cpu 0) 254) (Err code.InvalidParameters)
    ∷ done (call.Off (cpu 9) 0) (Err code.NoCaller)
    ∷ []

-- the domains' states, and then the CPUs'
abbrev all : List Done → List ℕ
all h =
    shallowest_of p (cpu 0) t h 0
    ∷ shallowest_of p (cpu 0) t h 1
    ∷ shallowest_of p (cpu 0) t h 2
    ∷ standing p (cpu 0) h 0 0
    ∷ standing p (cpu 0) h 1 0
    ∷ standing p (cpu 0) h 2 0
    ∷ standing p (cpu 0) h 3 0
    ∷ []

pub at_first : all [] ≡ 0 ∷ 0 ∷ 3 ∷ 0 ∷ 3 ∷ 3 ∷ 3 ∷ []
unfolding standing_from lesser_of minimum_of total_of entry_of down_of ancestor_of level_of
at_first = refl

pub both_suspended : all turns ≡ 1 ∷ 2 ∷ 3 ∷ 3 ∷ 2 ∷ 3 ∷ 3 ∷ []
unfolding standing_from lesser_of minimum_of total_of entry_of down_of ancestor_of level_of
both_suspended = refl

pub one_off : all (turns ++ more) ≡ 0 ∷ 0 ∷ 3 ∷ 0 ∷ 3 ∷ 3 ∷ 3 ∷ []
unfolding standing_from lesser_of minimum_of total_of entry_of down_of ancestor_of level_of
one_off = refl
