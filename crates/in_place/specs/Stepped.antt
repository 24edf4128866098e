-- What a call makes of what it reads: the record of the CPU that it names, and the rows of the domains. The rules are those of the calls.
use Rattle.std.specs.Prelude.{ℕ, Bool, cond, ltb, Ok}
use Rattle.model.specs.declared.answer.Notice.{Notice}
use Rattle.model.specs.declared.answer.Notice.TheVariants as notice
use Rattle.model.specs.declared.answer.Step.{Step}
use Rattle.model.specs.declared.board.Tree.{Tree}
use Rattle.model.specs.declared.code.Refusal.TheVariants as code
use Rattle.model.specs.declared.cpu.CpuPowerNode.{CpuPowerNode}
use Rattle.model.specs.declared.cpu.EntryPoint.{EntryPoint}
use Rattle.model.specs.declared.state.Domains.{Domains}
use Rattle.model.specs.declared.state.SuspendMode.{SuspendMode}
use Rattle.model.specs.declared.states.CompositeState.{CompositeState}
use Rattle.model.specs.declared.states.Platform.{Platform}
use Rattle.model.specs.Answer.{must, not_entered_out}
use Rattle.model.specs.Calls.{boot_code, finish_code, mode_code, on_code, runningb, suspend_code, system_suspend_code}
use Rattle.model.specs.Composite.{all_run, find_highest_non_run_level_of, found_of}
use Rattle.model.specs.Coordinate.{written_to}
use Rattle.model.specs.Numbers.{Code, acceptedb, answer_of, usableb}
use Rattle.model.specs.Steps.{boot_step, coordinated_to, enter_step, finish_step, off_step, pended_of, suspended_of}
use Rattle.in_place.specs.declared.Stepped.{Stepped}

-- what a call gives, and the domains after it
pub record Outcome : Type 0 where
  pub stepped : Stepped
  pub domains : Domains

abbrev pub outcome : Stepped → Domains → Outcome
outcome x d = record { stepped = x; domains = d }

abbrev pub stepped : Code → CpuPowerNode → CompositeState → Stepped
stepped k node handed = record { code = k; node = node; states = handed }

-- 0 acts, and any other number leaves the record as it was and hands nothing out
unfoldable pub stepped_of : Code → (was becomes : CpuPowerNode) → CompositeState → Stepped
stepped_of k was becomes handed = cond (acceptedb k) (stepped (Ok tt) becomes handed) (stepped k was all_run)

-- nor does it change the domains
unfoldable pub decided_on : Code → CpuPowerNode → Domains → Step → Outcome
decided_on k node d x = outcome (stepped_of k node x.node x.out.states) (cond (acceptedb k) x.domains d)

-- after 102 every call first: 103
abbrev pub cpu_code : (count cpu : ℕ) → Code → Code
cpu_code count cpu k = must (ltb cpu count) code.NoCaller k

-- then 104, not for boot and finish
abbrev pub caller_code : (count caller : ℕ) → CpuPowerNode → Code → Code
caller_code count caller by k = cpu_code count caller (must (runningb by) code.NotRunning k)

-- On, by a caller's record and the target's
abbrev pub on_in : (count caller : ℕ) → CpuPowerNode → (target : ℕ) → CpuPowerNode → EntryPoint → Bool → ℕ → Stepped
on_in count caller by target node e good answer =
    stepped_of (caller_code count caller by
    (on_code (usableb answer) (ltb target count) good node.affinity_info (answer_of answer)))
    node (pended_of node e) all_run

-- Set mode: its code alone
abbrev pub mode_in : (count caller : ℕ) → CpuPowerNode → (feature : Bool) → (now wanted : SuspendMode) → (last all : Bool) → Code
mode_in count caller by feature now wanted last all = caller_code count caller by (mode_code feature now wanted last all)

module _ (t : Tree) (p : Platform) (cpu : ℕ) (node : CpuPowerNode) (d : Domains) where
  -- Off
  abbrev pub off_in : ℕ → Outcome
  off_in answer = decided_on (caller_code t.cpu_count cpu node (answer_of answer)) node d (off_step t d p cpu node)

  -- a suspend is entered
  abbrev pub entered_in : CompositeState → EntryPoint → Outcome
  entered_in asked e =
      let x = coordinated_to t d p cpu node (found_of (find_highest_non_run_level_of p asked)) asked in
      outcome (stepped (Ok tt) (suspended_of p node x.resolved e) x.resolved) (written_to d x)

  -- with an interrupt pending it is not, and nothing changes
  abbrev pub enter_in : Bool → CompositeState → EntryPoint → Notice → Step
  enter_in pending asked e told =
      cond pending (record { node = node; domains = d; out = not_entered_out }) (enter_step t d p cpu node asked e told)

  -- Suspend
  abbrev pub suspend_in : SuspendMode → Bool → EntryPoint → CompositeState → Outcome
  suspend_in m pending e asked =
      decided_on (caller_code t.cpu_count cpu node (suspend_code p m asked)) node d
      (enter_in pending asked e (notice.SpmToldSuspend e))

  -- System suspend
  abbrev pub system_suspend_in : SuspendMode → (feature last pending good : Bool) → EntryPoint → CompositeState → Outcome
  system_suspend_in m feature last pending good e asked =
      decided_on (caller_code t.cpu_count cpu node (system_suspend_code p m feature last good asked)) node d
      (enter_in pending asked e (notice.SpmToldSystemSuspend e))

  -- Finish
  abbrev pub finish_in : Outcome
  finish_in = decided_on (cpu_code t.cpu_count cpu (finish_code node)) node d (finish_step t d p cpu node)

  -- Boot
  abbrev pub boot_in : Outcome
  boot_in = decided_on (cpu_code t.cpu_count cpu (boot_code p node)) node d (boot_step t d p cpu node)
