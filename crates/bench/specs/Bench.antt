-- docs/REFERENCE.md, 'Bench cases'.
use Rattle.std.specs.Prelude.{ℕ, Bool, true, false, not, ◌&&◌, List, [], ◌∷◌, ◌++◌, eqb, ℤ, pos, negsuc}
use Rattle.model.specs.declared.answer.CallAnswer.{CallAnswer}
use Rattle.model.specs.declared.call.Call.{Call}
use Rattle.model.specs.declared.call.Call.TheVariants as call
use Rattle.model.specs.declared.cpu.EntryPoint.{EntryPoint}
use Rattle.model.specs.declared.sorts.CpuNumber.{CpuNumber}
use Rattle.model.specs.declared.state.FreshAnswer.{FreshAnswer}
use Rattle.model.specs.declared.state.State.{State}
use Rattle.model.specs.declared.state.SuspendMode.{SuspendMode}
use Rattle.model.specs.declared.state.SuspendMode.TheVariants as mode
use Rattle.model.specs.declared.states.CompositeState.{CompositeState}
use Rattle.model.specs.Calls.{call_of}
use Rattle.model.specs.Cpu.{offb}
use Rattle.model.specs.Fresh.{fresh_of}
use Rattle.model.specs.Numbers.{number_of, minus, acceptedb}
use Rattle.model.specs.State.{cpu_at, copy_at, request_at}

-- two signed numbers are the same
abbrev same_numberb : ℤ → ℤ → Bool
same_numberb (pos m) (pos n) = eqb m n
same_numberb (pos m) (negsuc n) = false
same_numberb (negsuc m) (pos n) = false
same_numberb (negsuc m) (negsuc n) = eqb m n

-- two composite states are the same
abbrev same_statesb : CompositeState → CompositeState → Bool
same_statesb a b =
    eqb a.level0 b.level0 && eqb a.level1 b.level1 && eqb a.level2 b.level2 && eqb a.level3 b.level3

-- states of levels 0 to 2
abbrev states : ℕ → ℕ → ℕ → CompositeState
states a b c = record { level0 = a; level1 = b; level2 = c; level3 = 0 }

-- a call, and what its answer must be
pub record Turn : Type 0 where
  pub call : Call
  pub answers : CallAnswer → Bool

-- the answer is this number
abbrev gives : Call → ℤ → Turn
gives k n = record { call = k; answers = λ a. same_numberb (number_of a.code) n }

-- the call is accepted and entered, and the platform is handed these states
abbrev hands : Call → CompositeState → Turn
hands k x = record {
  call = k;
  answers = λ a. acceptedb a.code && not a.out.not_entered && same_statesb a.out.states x;
}

-- a case: the start, the calls in order with what they answer, and what is stored after them
pub record Case : Type 0 where
  pub start : FreshAnswer
  pub turns : List Turn
  pub stored : State → Bool

abbrev after : List Turn → State → (State → Bool) → Bool
after [] s stored = stored s
after (x ∷ xs) s stored = x.answers (call_of s x.call) && after xs (call_of s x.call).state stored

-- the case comes out
abbrev comes_out : Case → Bool
comes_out c = acceptedb c.start.code && after c.turns c.start.state c.stored

abbrev pub all_come_out : List Case → Bool
all_come_out [] = true
all_come_out (c ∷ cs) = comes_out c && all_come_out cs

-- the board: MAX 2, four states, d is 2, CPU 0 is the primary; one top domain over two clusters of two CPUs
abbrev fresh : FreshAnswer
fresh = fresh_of (record { max = record { 0 = 2 }; states = 4; down = 2 }) (record { 0 = 0 }) (1 ∷ 2 ∷ 2 ∷ 2 ∷ [])

abbrev from_fresh : List Turn → (State → Bool) → Case
from_fresh turns stored = record { start = fresh; turns = turns; stored = stored }

abbrev cpu : ℕ → CpuNumber
cpu c = record { 0 = c }

abbrev entry : EntryPoint
entry = record { address = 4096; context = 0 }

-- CPU 0 turns a CPU on; whether the address is good, and the platform's answer
abbrev on : ℕ → Bool → ℕ → Call
on target = call.On (cpu 0) (cpu target) entry

abbrev boot : ℕ → Call
boot c = call.Boot (cpu c)

abbrev suspend : ℕ → CompositeState → Call
suspend c = call.Suspend (cpu c) false entry

abbrev set_mode : SuspendMode → Call
set_mode = call.SetMode (cpu 0) true

abbrev system_suspend : Call
system_suspend = call.SystemSuspend (cpu 0) true false true entry (states 3 3 3)

-- the case names nothing that is stored
abbrev no_more : State → Bool
no_more s = true

-- CPU 1 is up, and CPU 0 suspends 3,3,3
abbrev one_down : List Turn
one_down =
    gives (on 1 true 0) (pos 0) ∷ gives (boot 1) (pos 0) ∷ hands (suspend 0 (states 3 3 3)) (states 3 0 0) ∷ []

-- B1 to B10
abbrev pub cases : List Case
cases =
    -- B1: domain 0's copy of domain 1 stays 0
    from_fresh (hands (suspend 0 (states 2 2 0)) (states 2 2 0) ∷ []) (λ s. eqb (copy_at s 1) 0)
    -- B2: its level-2 request is 3
    ∷ from_fresh one_down (λ s. eqb (request_at s 2 0) 3)
    -- B3
    ∷ from_fresh (one_down ++ hands (suspend 1 (states 2 2 1)) (states 2 2 1) ∷ []) no_more
    -- B4
    ∷ from_fresh (hands (call.Off (cpu 0) 0) (states 3 3 3) ∷ []) no_more
    -- B5
    ∷ from_fresh
    (gives (on 1 true 0) (pos 0)
    ∷ gives (on 1 true 0) (minus 5)
    ∷ gives (boot 1) (pos 0)
    ∷ gives (on 1 true 0) (minus 4)
    ∷ []) no_more
    -- B6: the target is Off; FEh is 254
    ∷ from_fresh (gives (on 1 true 254) (minus 2) ∷ []) (λ s. offb (cpu_at s 1).affinity_info)
    -- B7
    ∷ from_fresh (gives (on 0 false 0) (minus 9) ∷ []) no_more
    -- B8: CPU 1 is pending
    ∷ from_fresh
    (gives (on 1 true 0) (pos 0)
    ∷ gives (set_mode mode.PlatformCoordinated) (pos 0)
    ∷ gives (set_mode mode.OsInitiated) (minus 3)
    ∷ gives system_suspend (minus 3)
    ∷ []) no_more
    -- B9
    ∷ from_fresh
    (gives (suspend 0 (states 2 0 1)) (minus 2)
    ∷ gives (suspend 0 (states 0 0 0)) (minus 2)
    ∷ gives (suspend 0 (states 1 2 0)) (minus 2)
    ∷ hands (suspend 0 (states 2 3 0)) (states 2 3 0)
    ∷ []) no_more
    -- B10
    ∷ from_fresh (gives (boot 1) (pos 105) ∷ gives (call.Finish (cpu 0)) (pos 105) ∷ []) no_more
    ∷ []
