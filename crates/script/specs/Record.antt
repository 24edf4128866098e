-- docs/REFERENCE.md, 'Records'. A record has its length in two bytes, its kind in two bytes, and then its payload.
use Rattle.std.specs.Prelude.{ℕ, ◌+◌, Bool, true, cond, ◌&&◌, ◌||◌, List, ltb, leb, eqb, length, Ok, Err, Option, None, Some}
use Rattle.model.specs.Below.{every}
use Rattle.model.specs.Composite.{state_at}
use Rattle.model.specs.Limits.{levels}
use Rattle.model.specs.Numbers.{Code, usableb}
use Rattle.model.specs.declared.call.Call.{Call}
use Rattle.model.specs.declared.call.Call.TheVariants as call
use Rattle.model.specs.declared.code.Refusal.TheVariants as code
use Rattle.model.specs.declared.cpu.EntryPoint.{EntryPoint}
use Rattle.model.specs.declared.sorts.CpuNumber.{CpuNumber}
use Rattle.model.specs.declared.state.SuspendMode.{SuspendMode}
use Rattle.model.specs.declared.state.SuspendMode.TheVariants as mode
use Rattle.model.specs.declared.states.CompositeState.{CompositeState}
use Rattle.script.specs.declared.record.Read.{Read}
use Rattle.script.specs.declared.record.Read.TheVariants as read
use Rattle.script.specs.declared.record.BoardRecord.{BoardRecord}
use Rattle.script.specs.Bytes.{byte_at, number_at}

-- the number of what was read
abbrev pub read_code_of : Read → Code
read_code_of read.End = Ok tt
read_code_of (read.Event c next) = Ok tt
read_code_of read.Malformed = Err code.Malformed

abbrev pub read_board_code_of : Option BoardRecord → Code
read_board_code_of (Some b) = Ok tt
read_board_code_of None = Err code.Malformed

-- what is left of the input starts with the record
module _ (l : List ℕ) where
  -- its length
  abbrev pub size_in : ℕ
  size_in = number_at 2 l 0

  -- its kind
  abbrev pub kind_in : ℕ
  kind_in = number_at 2 l 2

  -- a record of this kind has this length
  abbrev pub isb : (kind size : ℕ) → Bool
  isb kind size = eqb kind_in kind && eqb size_in size

  -- it is cut: less than its length is left
  abbrev pub cutb : Bool
  cutb = ltb (length l) size_in

  -- fields, by their places in the record
  abbrev pub cpu_in : ℕ → CpuNumber
  cpu_in i = record { 0 = byte_at l i }

  -- an address, and then a context
  abbrev pub entry_in : ℕ → EntryPoint
  entry_in i = record { address = number_at 8 l i; context = number_at 8 l (i + 8) }

  -- four states
  abbrev pub states_in : ℕ → CompositeState
  states_in i = record {
    level0 = byte_at l i;
    level1 = byte_at l (i + 1);
    level2 = byte_at l (i + 2);
    level3 = byte_at l (i + 3);
  }

  -- a flag is 0 or 1
  abbrev pub flagb : ℕ → Bool
  flagb i = leb (byte_at l i) 1

  abbrev pub flag_in : ℕ → Bool
  flag_in i = eqb (byte_at l i) 1

  -- 0 is platform-coordinated, 1 OS-initiated
  abbrev pub mode_in : ℕ → SuspendMode
  mode_in i = cond (flag_in i) mode.OsInitiated mode.PlatformCoordinated

-- states above MAX are 0
abbrev pub zero_aboveb : ℕ → CompositeState → Bool
zero_aboveb max c = every levels (λ level. leb level max || eqb (state_at c level) 0)

-- the event, if its fields are good; the next record follows this one
abbrev pub event_if : Bool → Call → List ℕ → Read
event_if good c l = cond good (read.Event c (size_in l)) read.Malformed

-- on: caller, target, address, context, address-good, answer
unfoldable pub on_in : List ℕ → Read
on_in l =
    event_if (flagb l 22 && usableb (byte_at l 23)) (call.On (cpu_in l 4) (cpu_in l 5) (entry_in l 6) (flag_in l 22) (byte_at l 23)) l

-- off: caller, early answer
unfoldable pub off_in : List ℕ → Read
off_in l = event_if (usableb (byte_at l 5)) (call.Off (cpu_in l 4) (byte_at l 5)) l

-- suspend: caller, pending, address, context, four states
unfoldable pub suspend_in : ℕ → List ℕ → Read
suspend_in max l =
    event_if (flagb l 5 && zero_aboveb max (states_in l 22))
    (call.Suspend (cpu_in l 4) (flag_in l 5) (entry_in l 6) (states_in l 22)) l

-- finish: CPU
unfoldable pub finish_in : List ℕ → Read
finish_in l = event_if true (call.Finish (cpu_in l 4)) l

-- boot: CPU
unfoldable pub boot_in : List ℕ → Read
boot_in l = event_if true (call.Boot (cpu_in l 4)) l

-- system suspend: caller, feature, pending, address-good, address, context, four states
unfoldable pub system_suspend_in : ℕ → List ℕ → Read
system_suspend_in max l =
    event_if (flagb l 5 && flagb l 6 && flagb l 7 && zero_aboveb max (states_in l 24))
    (call.SystemSuspend (cpu_in l 4) (flag_in l 5) (flag_in l 6) (flag_in l 7) (entry_in l 8) (states_in l 24)) l

-- mode: caller, feature, the mode
unfoldable pub set_mode_in : List ℕ → Read
set_mode_in l = event_if (flagb l 5 && flagb l 6) (call.SetMode (cpu_in l 4) (flag_in l 5) (mode_in l 6)) l

-- a record by its kind and the length that this kind has; anything else is 108, a second board too
unfoldable pub record_of : ℕ → List ℕ → Read
record_of max l =
    cond (isb l 1 24) (on_in l)
    (cond (isb l 2 6) (off_in l)
    (cond (isb l 3 26) (suspend_in max l)
    (cond (isb l 4 5) (finish_in l)
    (cond (isb l 5 5) (boot_in l)
    (cond (isb l 6 28) (system_suspend_in max l)
    (cond (isb l 7 7) (set_mode_in l)
    read.Malformed))))))

-- nothing is left
abbrev pub emptyb : List ℕ → Bool
emptyb l = eqb (length l) 0

-- the next event on a board with this MAX: the clean end, 108 for a cut record, and else as the record says
unfoldable pub read_of : ℕ → List ℕ → Read
read_of max l = cond (emptyb l) read.End (cond (cutb l) read.Malformed (record_of max l))

-- where the topology stands in a board record
abbrev pub topology_place : ℕ
topology_place = 9

-- a board record: its length is as its topology length says, and it is not cut
abbrev pub board_recordb : List ℕ → Bool
board_recordb l = isb l 16 (topology_place + byte_at l 8) && leb (size_in l) (length l)

-- board: MAX, states, first power-down state, primary, topology length, topology; a missing one is 108
unfoldable pub read_board_of : List ℕ → Option BoardRecord
read_board_of l =
    cond (board_recordb l)
    (Some (record {
      platform = record { max = record { 0 = byte_at l 4 }; states = byte_at l 5; down = byte_at l 6 };
      primary = cpu_in l 7;
      next = size_in l;
    }))
    None
