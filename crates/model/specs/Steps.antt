-- docs/REFERENCE.md, 'The calls': what each does.
use Rattle.std.specs.Prelude.{ℕ, false, cond, [], ◌∷◌, None, Some}
use Rattle.model.specs.declared.answer.Notice.{Notice}
use Rattle.model.specs.declared.answer.Notice.TheVariants as notice
use Rattle.model.specs.declared.answer.Outgoing.{Outgoing}
use Rattle.model.specs.declared.answer.Step.{Step}
use Rattle.model.specs.declared.answer.WakeUpReason.TheVariants as wake
use Rattle.model.specs.declared.board.Tree.{Tree}
use Rattle.model.specs.declared.cpu.AffinityInfo.TheVariants as affinity
use Rattle.model.specs.declared.cpu.CpuPowerNode.{CpuPowerNode}
use Rattle.model.specs.declared.cpu.EntryPoint.{EntryPoint}
use Rattle.model.specs.declared.state.Domains.{Domains}
use Rattle.model.specs.declared.states.CompositeState.{CompositeState}
use Rattle.model.specs.declared.states.Platform.{Platform}
use Rattle.model.specs.Answer.{outgoing, notices_of, notices_out}
use Rattle.model.specs.Composite.{cpu_level_state_of, all_off, found_of, find_highest_non_run_level_of, find_highest_power_down_level_of}
use Rattle.model.specs.Coordinate.{Coordinated, coordinated, coordinate_of, written_to}
use Rattle.model.specs.Cpu.{pendingb, set_affinity_info_of, set_local_state_of, with_entry}
use Rattle.model.specs.Fresh.{running_of}
use Rattle.model.specs.Path.{local_states_of, set_running_of}
use Rattle.model.specs.States.{run, off_of, downb}

-- On: the target is OnPending and keeps the entry
abbrev pub pended_of : CpuPowerNode → EntryPoint → CpuPowerNode
pended_of c e = with_entry (set_affinity_info_of c affinity.OnPending) (Some e)

-- the core powers down, with the highest power-down level
abbrev pub core_power_down : Platform → CompositeState → Notice
core_power_down p x = notice.CorePowerDown (record { 0 = found_of (find_highest_power_down_level_of p x) })

-- Off: the CPU state is OFF, the affinity Off
abbrev pub turned_off : Platform → CpuPowerNode → CpuPowerNode
turned_off p c = set_affinity_info_of (set_local_state_of c (off_of p)) affinity.Off

abbrev pub off_out : Platform → CompositeState → Outgoing
off_out p x =
    notices_out x
    (notice.SpmToldOff
    ∷ notice.SpmNotifiedOff
    ∷ core_power_down p x
    ∷ notice.PlatformOff x
    ∷ notice.PlatformPowerDown x
    ∷ [])

-- Suspend: the CPU state becomes the level-0 state; if that is power-down, the entry is kept
abbrev pub suspended_of : Platform → CpuPowerNode → CompositeState → EntryPoint → CpuPowerNode
suspended_of p c x e =
    set_local_state_of (with_entry c (cond (downb p (cpu_level_state_of x)) (Some e) c.entry_point)) (cpu_level_state_of x)

-- if it is power-down, the SPM is told and the core powers down; then platform suspend; if it is power-down, platform power-down
abbrev pub suspend_out : Platform → CompositeState → Notice → Outgoing
suspend_out p x told =
    cond (downb p (cpu_level_state_of x))
    (notices_out x (told ∷ core_power_down p x ∷ notice.PlatformSuspend x ∷ notice.PlatformPowerDown x ∷ []))
    (notices_out x (notice.PlatformSuspend x ∷ []))

-- Finish: the CPU is RUN; a power-down suspend drops the entry
abbrev pub finished_of : Platform → CpuPowerNode → CpuPowerNode
finished_of p c = set_local_state_of (with_entry c (cond (downb p c.local_state) None c.entry_point)) run

-- the states are handed to suspend-finish; a power-down one adds the SPM abandon notice
abbrev pub finish_out : Platform → CompositeState → Outgoing
finish_out p x =
    cond (downb p (cpu_level_state_of x))
    (notices_out x (notice.SuspendFinish x ∷ notice.SpmAbandon ∷ []))
    (notices_out x (notice.SuspendFinish x ∷ []))

-- Boot: the CPU is On and RUN, and its entry is cleared
abbrev pub booted_of : CpuPowerNode → CpuPowerNode
booted_of c = running_of (with_entry c None)

-- the states are handed to on-finish or suspend-finish; which of the two it was, and the entry
abbrev pub boot_out : CpuPowerNode → CompositeState → Outgoing
boot_out c x =
    cond (pendingb c.affinity_info)
    (outgoing x (notices_of (notice.OnFinish x ∷ [])) false (Some wake.CpuOn) c.entry_point)
    (outgoing x (notices_of (notice.SuspendFinish x ∷ [])) false (Some wake.SuspendFinished) c.entry_point)

abbrev step : CpuPowerNode → Domains → Outgoing → Step
step node domains out = record { node = node; domains = domains; out = out }

-- what is done to a CPU's record and to the domains, and what goes out
module _ (t : Tree) (d : Domains) (p : Platform) (cpu : ℕ) (c : CpuPowerNode) where
  -- what coordinate makes of a request up to a level
  abbrev pub coordinated_to : ℕ → CompositeState → Coordinated
  coordinated_to upto asked =
      coordinate_of t (off_of p) c.parent.0 cpu upto (coordinated d.states d.requests d.copies asked)

  -- Off: OFF is coordinated at all levels
  abbrev pub off_step : Step
  off_step =
      let x = coordinated_to p.max.0 (all_off p) in
      step (turned_off p c) (written_to d x) (off_out p x.resolved)

  -- Suspend: only domains up to the highest affected level are touched
  abbrev pub enter_step : CompositeState → EntryPoint → Notice → Step
  enter_step asked e told =
      let x = coordinated_to (found_of (find_highest_non_run_level_of p asked)) asked in
      step (suspended_of p c x.resolved e) (written_to d x) (suspend_out p x.resolved told)

  -- the states along the whole path
  abbrev along : CompositeState
  along = local_states_of t.parents d.states p.max.0 c

  abbrev running : Domains
  running = set_running_of t.parents p.max.0 c.parent.0 cpu d

  -- Finish
  abbrev pub finish_step : Step
  finish_step = step (finished_of p c) running (finish_out p along)

  -- Boot
  abbrev pub boot_step : Step
  boot_step = step (booted_of c) running (boot_out c along)
