-- Finish and boot: their outcomes and their rules.
use mathlib.Core.Bool.{true, false}
use mathlib.Core.Path.{◌≡◌, refl, ◌∙◌}
use Rattle.std.specs.Prelude.{Ok, Err}
use Rattle.model.specs.declared.answer.CallAnswer.{CallAnswer}
use Rattle.model.specs.declared.call.Call.TheVariants as call
use Rattle.model.specs.declared.code.Refusal.TheVariants as code
use Rattle.model.specs.declared.cpu.CpuPowerNode.{CpuPowerNode}
use Rattle.model.specs.declared.sorts.CpuNumber.{CpuNumber}
use Rattle.model.specs.declared.state.State.{State}
use Rattle.model.specs.Answer.{decided, accepted, refused}
use Rattle.model.specs.Calls.{call_of, acted, cpu_suspend_finish_of, finish_dueb, handle_cpu_boot_of, boot_dueb}
use Rattle.model.specs.State.{platform_at, cpu_at, states_along, up_with}
use Rattle.model.specs.Steps.{finish_step, finished_of, finish_out, boot_step, booted_of, boot_out}
use Rattle.call_laws.proofs.Answer.{OfRefusals, must_rule, last_rule}
use Rattle.call_laws.proofs.Caller.{Known, known_on, known_rule}

module _ (s : State) (cpu : CpuNumber) where
  abbrev node : CpuPowerNode
  node = cpu_at s cpu.0

  abbrev pub finish_done : CallAnswer
  finish_done = acted s cpu.0 (finish_step s.tree s.domains (platform_at s))

  abbrev pub boot_done : CallAnswer
  boot_done = acted s cpu.0 (boot_step s.tree s.domains (platform_at s))

  -- the states along the path go out, and the CPU comes up
  pub finish_up : finish_done
      ≡ accepted (finish_out (platform_at s) (states_along s cpu.0)) (up_with s cpu.0 (finished_of (platform_at s) node))
  finish_up = refl

  pub boot_up : boot_done
      ≡ accepted (boot_out node (states_along s cpu.0)) (up_with s cpu.0 (booted_of node))
  boot_up = refl

  module _ (r : Known s cpu.0) where
    pub finish_not_due : finish_dueb node ≡ false → call_of s (call.Finish cpu) ≡ refused s (Err code.NotDue)
    unfolding cpu_suspend_finish_of decided
    finish_not_due h = known_on s cpu.0 _ finish_done r ∙ simp h

    pub finish_accepted : finish_dueb node ≡ true → call_of s (call.Finish cpu) ≡ finish_done
    unfolding cpu_suspend_finish_of decided
    finish_accepted h = known_on s cpu.0 _ finish_done r ∙ simp h

    pub boot_not_due : boot_dueb (platform_at s) node ≡ false → call_of s (call.Boot cpu) ≡ refused s (Err code.NotDue)
    unfolding handle_cpu_boot_of decided
    boot_not_due h = known_on s cpu.0 _ boot_done r ∙ simp h

    pub boot_accepted : boot_dueb (platform_at s) node ≡ true → call_of s (call.Boot cpu) ≡ boot_done
    unfolding handle_cpu_boot_of decided
    boot_accepted h = known_on s cpu.0 _ boot_done r ∙ simp h

  pub record FinishAccepted : Type 0 where
    pub known : Known s cpu.0
    pub due : finish_dueb node ≡ true

  pub finish_rule : (P : CallAnswer → Type 0) → OfRefusals P s → (FinishAccepted → P finish_done) →
      P (call_of s (call.Finish cpu))
  unfolding cpu_suspend_finish_of
  finish_rule P refusal acts =
      known_rule P s finish_done refusal cpu.0 _
      (λ r. must_rule P s finish_done refusal (finish_dueb node) code.NotDue _
      (λ a. last_rule P s finish_done refusal (Ok tt) (λ _. acts (record { known = r; due = a }))))

  pub record BootAccepted : Type 0 where
    pub known : Known s cpu.0
    pub due : boot_dueb (platform_at s) node ≡ true

  pub boot_rule : (P : CallAnswer → Type 0) → OfRefusals P s → (BootAccepted → P boot_done) → P (call_of s (call.Boot cpu))
  unfolding handle_cpu_boot_of
  boot_rule P refusal acts =
      known_rule P s boot_done refusal cpu.0 _
      (λ r. must_rule P s boot_done refusal (boot_dueb (platform_at s) node) code.NotDue _
      (λ a. last_rule P s boot_done refusal (Ok tt) (λ _. acts (record { known = r; due = a }))))
