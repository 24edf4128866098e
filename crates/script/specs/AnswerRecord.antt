-- docs/REFERENCE.md, 'The answer record'.
use Rattle.std.specs.Prelude.{ℕ, Bool, cond, List, ◌∷◌, ◌++◌, ltb, length, drop, Ok, Err}
use Rattle.model.specs.Composite.{states_of}
use Rattle.model.specs.Numbers.{Code, number_of}
use Rattle.model.specs.State.{cpu_count_of, states_along}
use Rattle.model.specs.declared.call.Call.{Call}
use Rattle.model.specs.declared.call.Call.TheVariants as call
use Rattle.model.specs.declared.code.Refusal.TheVariants as code
use Rattle.model.specs.declared.sorts.CpuNumber.{CpuNumber}
use Rattle.model.specs.declared.state.State.{State}
use Rattle.model.specs.declared.states.CompositeState.{CompositeState}
use Rattle.script.specs.Bytes.{bytes_of, signed_byte_of}

-- the length and the kind of an answer record
abbrev pub answer_size : ℕ
answer_size = 13

abbrev pub answer_kind : ℕ
answer_kind = 256

-- the byte at each level where there is no such CPU
abbrev pub no_cpu_state : ℕ
no_cpu_state = 255

abbrev pub no_cpu_states : CompositeState
no_cpu_states = record { level0 = no_cpu_state; level1 = no_cpu_state; level2 = no_cpu_state; level3 = no_cpu_state }

-- the CPU that an event names: the target for on
abbrev pub named_of : Call → CpuNumber
named_of (call.On caller target e good answer) = target
named_of (call.Off caller answer) = caller
named_of (call.Suspend caller pending e asked) = caller
named_of (call.Finish cpu) = cpu
named_of (call.Boot cpu) = cpu
named_of (call.SystemSuspend caller feature pending good e asked) = caller
named_of (call.SetMode caller feature wanted) = caller

-- the stored states from level 0 up the path of a CPU, 0 above MAX; FFh four times if there is no such CPU
abbrev pub shown_of : State → CpuNumber → CompositeState
shown_of s cpu = cond (ltb cpu.0 (cpu_count_of s)) (states_along s cpu.0) no_cpu_states

-- length, kind, event number in four bytes, signed code, four states
unfoldable pub answer_bytes : ℕ → Code → CompositeState → List ℕ
answer_bytes number k states =
    bytes_of 2 answer_size ++ bytes_of 2 answer_kind ++ bytes_of 4 number ++ signed_byte_of (number_of k) ∷ states_of states

-- the output has no room for a record
abbrev pub fullb : List ℕ → Bool
fullb out = ltb (length out) answer_size

-- 110 where there is no room
abbrev pub room_code_of : List ℕ → Code
room_code_of out = cond (fullb out) (Err code.NoRoom) (Ok tt)

-- a record at the front of the output, where it has room; where it has none, nothing is written
unfoldable pub onto : List ℕ → List ℕ → List ℕ
onto out bytes = cond (fullb out) out (bytes ++ drop answer_size out)
