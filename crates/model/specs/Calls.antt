-- docs/REFERENCE.md, 'The calls'.
use Rattle.std.specs.Prelude.{ℕ, Bool, true, false, cond, not, ◌&&◌, ◌||◌, ltb, eqb, set, Ok, Err}
use Rattle.model.specs.declared.answer.CallAnswer.{CallAnswer}
use Rattle.model.specs.declared.answer.Notice.{Notice}
use Rattle.model.specs.declared.answer.Notice.TheVariants as notice
use Rattle.model.specs.declared.answer.Step.{Step}
use Rattle.model.specs.declared.call.Call.{Call}
use Rattle.model.specs.declared.call.Call.TheVariants as call
use Rattle.model.specs.declared.code.Refusal.TheVariants as code
use Rattle.model.specs.declared.cpu.AffinityInfo.{AffinityInfo}
use Rattle.model.specs.declared.cpu.CpuPowerNode.{CpuPowerNode}
use Rattle.model.specs.declared.cpu.EntryPoint.{EntryPoint}
use Rattle.model.specs.declared.sorts.CpuNumber.{CpuNumber}
use Rattle.model.specs.declared.state.State.{State}
use Rattle.model.specs.declared.state.SuspendMode.{SuspendMode}
use Rattle.model.specs.declared.state.SuspendMode.TheVariants as mode
use Rattle.model.specs.declared.states.CompositeState.{CompositeState}
use Rattle.model.specs.declared.states.Platform.{Platform}
use Rattle.model.specs.Answer.{nothing_out, not_entered_out, accepted, refused, decided, must}
use Rattle.model.specs.Composite.{highest_level_state_of, states_in_rangeb, found_atb}
use Rattle.model.specs.Composite.{find_highest_non_run_level_of, is_valid_suspend_requestb}
use Rattle.model.specs.Cpu.{onb, pendingb}
use Rattle.model.specs.Numbers.{Code, answer_of, usableb}
use Rattle.model.specs.Sound.{entry_dueb}
use Rattle.model.specs.SoundTest.{soundb}
use Rattle.model.specs.State.{state_of, platform_at, cpu_count_of, cpu_at, with_mode, with_cpu}
use Rattle.model.specs.StateQuery.{others_offb, all_onb}
use Rattle.model.specs.States.{run, downb}
use Rattle.model.specs.Steps.{pended_of, off_step, enter_step, finish_step, boot_step}

-- a CPU is running: On and RUN
abbrev pub runningb : CpuPowerNode → Bool
runningb c = onb c.affinity_info && eqb c.local_state run

module _ (s : State) where
  -- after 102 every call first: 103
  abbrev pub for_cpu : ℕ → Code → Code
  for_cpu c k = must (ltb c (cpu_count_of s)) code.NoCaller k

  -- then 104, not for boot and finish
  abbrev pub for_caller : ℕ → Code → Code
  for_caller c k = for_cpu c (must (runningb (cpu_at s c)) code.NotRunning k)

  -- what is done to a CPU's record and to the domains is done; nothing else changes
  abbrev pub acted : ℕ → (ℕ → CpuPowerNode → Step) → CallAnswer
  acted c does =
      let x = does c (cpu_at s c) in
      accepted x.out (state_of s.board s.tree (set s.cpus c x.node) x.domains s.mode)

  -- a suspend is entered; the notice is what the SPM is told
  abbrev pub entered : ℕ → CompositeState → EntryPoint → Notice → CallAnswer
  entered c asked e told = acted c (λ cpu node. enter_step s.tree s.domains (platform_at s) cpu node asked e told)

  -- a pending interrupt gives 0, 'not entered', no change
  abbrev pub unless_pending : Bool → CallAnswer → CallAnswer
  unless_pending pending done = cond pending (accepted not_entered_out s) done

-- On: 106, -2, -9, -4, -5; then it is as the platform answers
abbrev pub on_code : (usable exists good : Bool) → AffinityInfo → Code → Code
on_code usable exists good target answer =
    must usable code.Unusable
    (must exists code.InvalidParameters
    (must good code.InvalidAddress
    (must (not (onb target)) code.AlreadyOn
    (must (not (pendingb target)) code.OnPending answer))))

unfoldable pub cpu_on_of : State → CpuNumber → CpuNumber → EntryPoint → Bool → ℕ → CallAnswer
cpu_on_of s caller target e good answer =
    decided s
    (for_caller s caller.0
    (on_code (usableb answer) (ltb target.0 (cpu_count_of s)) good (cpu_at s target.0).affinity_info (answer_of answer)))
    (accepted nothing_out (with_cpu s target.0 (pended_of (cpu_at s target.0) e)))

-- Off: 106, and else the early answer's error
unfoldable pub cpu_off_of : State → CpuNumber → ℕ → CallAnswer
cpu_off_of s caller answer =
    decided s (for_caller s caller.0 (answer_of answer)) (acted s caller.0 (off_step s.tree s.domains (platform_at s)))

-- the mode is platform-coordinated
abbrev pub platform_coordinatedb : SuspendMode → Bool
platform_coordinatedb mode.PlatformCoordinated = true
platform_coordinatedb mode.OsInitiated = false

-- Suspend: -2 unless it is a valid request, 107
abbrev pub suspend_code : Platform → SuspendMode → CompositeState → Code
suspend_code p m asked =
    must (is_valid_suspend_requestb p asked) code.InvalidParameters
    (must (platform_coordinatedb m) code.OsInitiated (Ok tt))

unfoldable pub cpu_suspend_start_of : State → CpuNumber → Bool → EntryPoint → CompositeState → CallAnswer
cpu_suspend_start_of s caller pending e asked =
    decided s (for_caller s caller.0 (suspend_code (platform_at s) s.mode asked))
    (unless_pending s pending (entered s caller.0 asked e (notice.SpmToldSuspend e)))

-- Finish: due when On and not RUN
abbrev pub finish_dueb : CpuPowerNode → Bool
finish_dueb c = onb c.affinity_info && not (eqb c.local_state run)

abbrev pub finish_code : CpuPowerNode → Code
finish_code c = must (finish_dueb c) code.NotDue (Ok tt)

unfoldable pub cpu_suspend_finish_of : State → CpuNumber → CallAnswer
cpu_suspend_finish_of s cpu =
    decided s (for_cpu s cpu.0 (finish_code (cpu_at s cpu.0)))
    (acted s cpu.0 (finish_step s.tree s.domains (platform_at s)))

-- Boot: due when OnPending, or On with a power-down CPU state: then an entry is due
abbrev pub boot_dueb : Platform → CpuPowerNode → Bool
boot_dueb p c = entry_dueb p c.affinity_info c.local_state

abbrev pub boot_code : Platform → CpuPowerNode → Code
boot_code p c = must (boot_dueb p c) code.NotDue (Ok tt)

unfoldable pub handle_cpu_boot_of : State → CpuNumber → CallAnswer
handle_cpu_boot_of s cpu =
    decided s (for_cpu s cpu.0 (boot_code (platform_at s) (cpu_at s cpu.0)))
    (acted s cpu.0 (boot_step s.tree s.domains (platform_at s)))

-- the highest level that is not RUN is MAX
abbrev pub at_maxb : Platform → CompositeState → Bool
at_maxb p asked = found_atb (find_highest_non_run_level_of p asked) p.max.0

-- a valid request, and power-down at MAX
abbrev pub powers_downb : Platform → CompositeState → Bool
powers_downb p asked = is_valid_suspend_requestb p asked && downb p (highest_level_state_of p asked)

-- System suspend: -1; -3 unless every other CPU is Off; -9; 106 if a state is out of range; -3 unless the highest non-RUN level
-- is MAX; 106 unless valid and power-down at MAX; 107
abbrev pub system_suspend_code : Platform → SuspendMode → (feature last good : Bool) → CompositeState → Code
system_suspend_code p m feature last good asked =
    must feature code.NotSupported
    (must last code.Denied
    (must good code.InvalidAddress
    (must (states_in_rangeb p asked) code.Unusable
    (must (at_maxb p asked) code.Denied
    (must (powers_downb p asked) code.Unusable
    (must (platform_coordinatedb m) code.OsInitiated (Ok tt)))))))

unfoldable pub system_suspend_of : State → CpuNumber → Bool → Bool → Bool → EntryPoint → CompositeState → CallAnswer
system_suspend_of s caller feature pending good e asked =
    decided s
    (for_caller s caller.0 (system_suspend_code (platform_at s) s.mode feature (others_offb s caller.0) good asked))
    (unless_pending s pending (entered s caller.0 asked e (notice.SpmToldSystemSuspend e)))

-- the modes are the same
abbrev pub same_modeb : SuspendMode → SuspendMode → Bool
same_modeb mode.PlatformCoordinated m = platform_coordinatedb m
same_modeb mode.OsInitiated m = not (platform_coordinatedb m)

-- to platform-coordinated every other CPU must be Off, to OS-initiated all On or every other Off
abbrev pub mode_allowedb : SuspendMode → (last all : Bool) → Bool
mode_allowedb mode.PlatformCoordinated last all = last
mode_allowedb mode.OsInitiated last all = all || last

-- the mode is the current one, or it is allowed
abbrev pub mode_mayb : (now wanted : SuspendMode) → (last all : Bool) → Bool
mode_mayb now wanted last all = same_modeb now wanted || mode_allowedb wanted last all

-- Set mode: -1; the current mode gives 0; -3 unless it is allowed
abbrev pub mode_code : (feature : Bool) → (now wanted : SuspendMode) → (last all : Bool) → Code
mode_code feature now wanted last all =
    must feature code.NotSupported (must (mode_mayb now wanted last all) code.Denied (Ok tt))

unfoldable pub set_suspend_mode_of : State → CpuNumber → Bool → SuspendMode → CallAnswer
set_suspend_mode_of s caller feature wanted =
    decided s (for_caller s caller.0 (mode_code feature s.mode wanted (others_offb s caller.0) (all_onb s)))
    (accepted nothing_out (with_mode s wanted))

-- the answer to a call on a state that is known to be sound
abbrev pub body_of : State → Call → CallAnswer
body_of s (call.On caller target e good answer) = cpu_on_of s caller target e good answer
body_of s (call.Off caller answer) = cpu_off_of s caller answer
body_of s (call.Suspend caller pending e asked) = cpu_suspend_start_of s caller pending e asked
body_of s (call.Finish cpu) = cpu_suspend_finish_of s cpu
body_of s (call.Boot cpu) = handle_cpu_boot_of s cpu
body_of s (call.SystemSuspend caller feature pending good e asked) = system_suspend_of s caller feature pending good e asked
body_of s (call.SetMode caller feature wanted) = set_suspend_mode_of s caller feature wanted

-- every call first, as the test of the state came out: 102
abbrev pub tested : Bool → State → CallAnswer → CallAnswer
tested sound s a = cond sound a (refused s (Err code.NotSound))

-- the answer to any call
abbrev pub call_of : State → Call → CallAnswer
call_of s k = tested (soundb s) s (body_of s k)
