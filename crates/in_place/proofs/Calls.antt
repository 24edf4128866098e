-- What the calls do here is what they do to a whole state.
use Prim.Native.Nat.{ℕ}
use mathlib.Core.Bool.{Bool, true, false, cond}
use mathlib.Core.Path.{◌≡◌, refl, sym, ap, ◌∙◌}
use lib.Dec.{ltb}
use lib.ListN.{set}
use lib.Seq.{set-get_or}
use Rattle.call_laws.proofs.Answer.{is_accepted}
use Rattle.model.specs.declared.answer.CallAnswer.{CallAnswer}
use Rattle.model.specs.declared.answer.Notice.{Notice}
use Rattle.model.specs.declared.answer.Notice.TheVariants as notice
use Rattle.model.specs.declared.answer.Step.{Step}
use Rattle.model.specs.declared.cpu.CpuPowerNode.{CpuPowerNode}
use Rattle.model.specs.declared.cpu.EntryPoint.{EntryPoint}
use Rattle.model.specs.declared.sorts.CpuNumber.{CpuNumber}
use Rattle.model.specs.declared.state.Domains.{Domains}
use Rattle.model.specs.declared.state.State.{State}
use Rattle.model.specs.declared.state.SuspendMode.{SuspendMode}
use Rattle.model.specs.declared.states.CompositeState.{CompositeState}
use Rattle.model.specs.Answer.{accepted, decided, nothing_out, not_entered_out}
use Rattle.model.specs.Calls.{acted, cpu_off_of, cpu_on_of, cpu_suspend_finish_of, cpu_suspend_start_of, entered, for_caller, handle_cpu_boot_of, on_code}
use Rattle.model.specs.Calls.{set_suspend_mode_of, system_suspend_of, unless_pending}
use Rattle.model.specs.Numbers.{Code, acceptedb, answer_of, usableb}
use Rattle.model.specs.State.{cpu_at, cpu_count_of, no_cpu, platform_at, state_of, with_mode}
use Rattle.model.specs.StateQuery.{all_onb, others_offb}
use Rattle.model.specs.Steps.{boot_step, finish_step, off_step, pended_of}
use Rattle.in_place.specs.Stepped.{Outcome, boot_in, decided_on, enter_in, finish_in, mode_in, off_in, on_in, outcome, stepped_of, suspend_in}
use Rattle.in_place.specs.Stepped.{system_suspend_in}

-- an answer gives this outcome for a CPU: the code, the states that go out, and the state with that record and those domains
pub record Gives (s : State) (c : ℕ) (a : CallAnswer) (x : Outcome) : Type 0 where
  pub code : a.code ≡ x.stepped.code
  pub states : a.out.states ≡ x.stepped.states
  pub state : a.state ≡ state_of s.board s.tree (set s.cpus c x.stepped.node) x.domains s.mode

-- a choice between two that are the same
same : {A : Type 0} {x : A} (b : Bool) → cond b x x ≡ x
same true = refl
same false = refl

module _ (s : State) (c : ℕ) where
  -- a record that is stored where it stands
  kept_record : s ≡ state_of s.board s.tree (set s.cpus c (cpu_at s c)) s.domains s.mode
  kept_record = simp (set-get_or s.cpus c no_cpu)

  module _ (k : Code) (does : ℕ → CpuPowerNode → Step) where
    decided_by : (b : Bool) → acceptedb k ≡ b →
        Gives s c (decided s k (acted s c does)) (decided_on k (cpu_at s c) s.domains (does c (cpu_at s c)))
    unfolding decided decided_on stepped_of
    decided_by true h = record { code = simp h; states = simp h; state = simp h }
    decided_by false h = record { code = simp h; states = simp h; state = simp h kept_record }

    -- what is decided of a state is what is decided here
    pub decided_gives : Gives s c (decided s k (acted s c does)) (decided_on k (cpu_at s c) s.domains (does c (cpu_at s c)))
    decided_gives = decided_by (acceptedb k) refl

  -- Off
  pub off_gives : (answer : ℕ) →
      Gives s c (cpu_off_of s (record { 0 = c }) answer) (off_in s.tree (platform_at s) c (cpu_at s c) s.domains answer)
  unfolding cpu_off_of
  off_gives answer = decided_gives _ (off_step s.tree s.domains (platform_at s))

  -- Finish
  pub finish_gives : Gives s c (cpu_suspend_finish_of s (record { 0 = c })) (finish_in s.tree (platform_at s) c (cpu_at s c) s.domains)
  unfolding cpu_suspend_finish_of
  finish_gives = decided_gives _ (finish_step s.tree s.domains (platform_at s))

  -- Boot
  pub boot_gives : Gives s c (handle_cpu_boot_of s (record { 0 = c })) (boot_in s.tree (platform_at s) c (cpu_at s c) s.domains)
  unfolding handle_cpu_boot_of
  boot_gives = decided_gives _ (boot_step s.tree s.domains (platform_at s))

  -- a suspend that is not entered stores the record where it stands
  module _ (pending : Bool) (asked : CompositeState) (e : EntryPoint) (told : Notice) where
    abbrev enters : ℕ → CpuPowerNode → Step
    enters cpu node = enter_in s.tree (platform_at s) cpu node s.domains pending asked e told

    unless_by : (b : Bool) → pending ≡ b → unless_pending s pending (entered s c asked e told) ≡ acted s c enters
    unless_by true h = simp h (ap (accepted not_entered_out) kept_record)
    unless_by false h = simp h

    unless_gives : (k : Code) →
        Gives s c (decided s k (unless_pending s pending (entered s c asked e told)))
        (decided_on k (cpu_at s c) s.domains (enters c (cpu_at s c)))
    unless_gives k =
        rw (unless_by pending refl) (decided_gives k enters)

  -- Suspend
  pub suspend_gives : (pending : Bool) (e : EntryPoint) (asked : CompositeState) →
      Gives s c (cpu_suspend_start_of s (record { 0 = c }) pending e asked)
      (suspend_in s.tree (platform_at s) c (cpu_at s c) s.domains s.mode pending e asked)
  unfolding cpu_suspend_start_of
  suspend_gives pending e asked = unless_gives pending asked e (notice.SpmToldSuspend e) _

  -- System suspend
  pub system_suspend_gives : (feature pending good : Bool) (e : EntryPoint) (asked : CompositeState) →
      Gives s c (system_suspend_of s (record { 0 = c }) feature pending good e asked)
      (system_suspend_in s.tree (platform_at s) c (cpu_at s c) s.domains s.mode feature (others_offb s c) pending good e asked)
  unfolding system_suspend_of
  system_suspend_gives feature pending good e asked = unless_gives pending asked e (notice.SpmToldSystemSuspend e) _

  -- On, whose target it is
  module _ (caller : CpuNumber) (e : EntryPoint) (good : Bool) (answer : ℕ) where
    abbrev pends : ℕ → CpuPowerNode → Step
    pends _ node = record { node = pended_of node e; domains = s.domains; out = nothing_out }

    abbrev on_code_in : Code
    on_code_in =
        for_caller s caller.0
        (on_code (usableb answer) (ltb c (cpu_count_of s)) good (cpu_at s c).affinity_info (answer_of answer))

    pub on_gives : Gives s c (cpu_on_of s caller (record { 0 = c }) e good answer)
        (outcome (on_in (cpu_count_of s) caller.0 (cpu_at s caller.0) c (cpu_at s c) e good answer) s.domains)
    unfolding cpu_on_of decided_on
    on_gives =
        let g = decided_gives on_code_in pends in
        let x = on_in (cpu_count_of s) caller.0 (cpu_at s caller.0) c (cpu_at s c) e good answer in
        record {
          code = g.code;
          states = g.states;
          state = g.state
              ∙ ap (λ (d : Domains). state_of s.board s.tree (set s.cpus c x.node) d s.mode) (same (acceptedb on_code_in));
        }

-- what a code decides, where 0 sets the mode
pub record SetsMode (s : State) (a : CallAnswer) (wanted : SuspendMode) (k : Code) : Type 0 where
  pub code : a.code ≡ k
  pub state : a.state ≡ cond (acceptedb k) (with_mode s wanted) s

module _ (s : State) (wanted : SuspendMode) where
  mode_by : (k : Code) (b : Bool) → acceptedb k ≡ b → SetsMode s (decided s k (accepted nothing_out (with_mode s wanted))) wanted k
  unfolding decided
  mode_by k true h = record { code = simp h (sym (is_accepted k h)); state = simp h }
  mode_by k false h = record { code = simp h; state = simp h }

  -- Set mode
  pub mode_gives : (caller : CpuNumber) (feature : Bool) →
      SetsMode s (set_suspend_mode_of s caller feature wanted) wanted
      (mode_in (cpu_count_of s) caller.0 (cpu_at s caller.0) feature s.mode wanted (others_offb s caller.0) (all_onb s))
  unfolding set_suspend_mode_of
  mode_gives caller feature = mode_by _ _ refl
