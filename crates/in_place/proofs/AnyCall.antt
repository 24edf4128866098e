-- What any call does here is what it does to a whole state.
use Prim.Native.Nat.{ℕ}
use mathlib.Core.Bool.{Bool, true, false, cond}
use mathlib.Core.List.{List}
use mathlib.Core.Path.{◌≡◌, ◌∙◌}
use lib.ListN.{set}
use lib.Seq.{set-get_or}
use Rattle.cpu_table.specs.CpuTable.{all_on_bytes, others_off_bytes}
use Rattle.model.specs.declared.answer.CallAnswer.{CallAnswer}
use Rattle.model.specs.declared.call.Call.{Call}
use Rattle.model.specs.declared.call.Call.TheVariants as call
use Rattle.model.specs.declared.state.State.{State}
use Rattle.model.specs.declared.state.SuspendMode.{SuspendMode}
use Rattle.model.specs.Calls.{body_of}
use Rattle.model.specs.Numbers.{acceptedb}
use Rattle.model.specs.State.{cpu_at, cpu_count_of, no_cpu, platform_at, state_of, with_mode}
use Rattle.model.specs.StateQuery.{all_onb, others_offb}
use Rattle.script.specs.AnswerRecord.{named_of}
use Rattle.in_place.specs.Any.{AnyOutcome, call_in, caller_of, in_mode}
use Rattle.in_place.specs.Stepped.{Outcome, mode_in}
use Rattle.in_place.proofs.Calls.{Gives, boot_gives, finish_gives, mode_gives, off_gives, on_gives, suspend_gives, system_suspend_gives}

-- an answer gives this outcome: the code, and the state with that record of the CPU that is named, those domains and that mode
pub record GivesAny (s : State) (k : Call) (a : CallAnswer) (x : AnyOutcome) : Type 0 where
  pub code : a.code ≡ x.moved.code
  pub state : a.state
      ≡ state_of s.board s.tree (set s.cpus (named_of k).0 x.moved.node) x.domains x.moved.mode

module _ (s : State) (affinities : List ℕ) (last : (c : ℕ) → others_off_bytes affinities (cpu_count_of s) c ≡ others_offb s c)
    (all : all_on_bytes affinities (cpu_count_of s) ≡ all_onb s) where
  abbrev pub called_in : Call → AnyOutcome
  called_in k =
      call_in s.tree (platform_at s) s.mode affinities (cpu_at s (caller_of k).0) (cpu_at s (named_of k).0) s.domains k

  -- a call that leaves the mode
  in_mode_lem : (k : Call) {a : CallAnswer} {x : Outcome} → Gives s (named_of k).0 a x → GivesAny s k a (in_mode s.mode x)
  in_mode_lem k g = record { code = g.code; state = g.state }

  -- the mode is set, and a record is stored where it stands
  set_mode_lem : (c : ℕ) (wanted : SuspendMode) (b : Bool) →
      cond b (with_mode s wanted) s
      ≡ state_of s.board s.tree (set s.cpus c (cpu_at s c)) s.domains (cond b wanted s.mode)
  set_mode_lem c wanted true = simp (set-get_or s.cpus c no_cpu)
  set_mode_lem c wanted false = simp (set-get_or s.cpus c no_cpu)

  pub any_gives : (k : Call) → GivesAny s k (body_of s k) (called_in k)
  any_gives (call.On caller target e good answer) = in_mode_lem (call.On caller target e good answer) (on_gives s target.0 caller e good answer)
  any_gives (call.Off caller answer) = in_mode_lem (call.Off caller answer) (off_gives s caller.0 answer)
  any_gives (call.Suspend caller pending e asked) = in_mode_lem (call.Suspend caller pending e asked) (suspend_gives s caller.0 pending e asked)
  any_gives (call.Finish cpu) = in_mode_lem (call.Finish cpu) (finish_gives s cpu.0)
  any_gives (call.Boot cpu) = in_mode_lem (call.Boot cpu) (boot_gives s cpu.0)
  any_gives (call.SystemSuspend caller feature pending good e asked) =
      rw (last caller.0)
      (in_mode_lem (call.SystemSuspend caller feature pending good e asked) (system_suspend_gives s caller.0 feature pending good e asked))
  any_gives (call.SetMode caller feature wanted) =
      let g = mode_gives s wanted caller feature in
      let k = mode_in (cpu_count_of s) caller.0 (cpu_at s caller.0) feature s.mode wanted (others_offb s caller.0) (all_onb s) in
      rw (last caller.0, all) (record { code = g.code; state = g.state ∙ set_mode_lem caller.0 wanted (acceptedb k) })
