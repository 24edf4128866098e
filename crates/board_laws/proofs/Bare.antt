-- Of the tree the calls read how many CPUs there are, the parents and the spans of CPUs, and nothing else.
use Prim.Native.Nat.{ℕ, zero, suc}
use mathlib.Core.Bool.{Bool, cond}
use mathlib.Core.Path.{◌≡◌, refl, ap, ◌∙◌}
use Rattle.in_place.specs.Stepped.{caller_code, decided_on, enter_in, off_in, suspend_in, system_suspend_in}
use Rattle.model.specs.Answer.{not_entered_out}
use Rattle.model.specs.Calls.{suspend_code, system_suspend_code}
use Rattle.model.specs.Composite.{all_off, find_highest_non_run_level_of, found_of}
use Rattle.model.specs.Coordinate.{Coordinated, level_coordinated_of, levels_coordinated_of, written_to}
use Rattle.model.specs.Numbers.{answer_of}
use Rattle.model.specs.States.{off_of}
use Rattle.model.specs.Steps.{coordinated_to, off_out, suspend_out, suspended_of, turned_off}
use Rattle.model.specs.Tree.{no_row}
use Rattle.model.specs.declared.answer.Notice.{Notice}
use Rattle.model.specs.declared.answer.Notice.TheVariants as notice
use Rattle.model.specs.declared.answer.Step.{Step}
use Rattle.model.specs.declared.board.Tree.{Tree}
use Rattle.model.specs.declared.cpu.CpuPowerNode.{CpuPowerNode}
use Rattle.model.specs.declared.cpu.EntryPoint.{EntryPoint}
use Rattle.model.specs.declared.state.Domains.{Domains}
use Rattle.model.specs.declared.state.SuspendMode.{SuspendMode}
use Rattle.model.specs.declared.states.CompositeState.{CompositeState}
use Rattle.model.specs.declared.states.Platform.{Platform}

-- a tree with that alone
abbrev pub bare_of : Tree → Tree
bare_of t = record {
  domain_count = 0;
  cpu_count = t.cpu_count;
  parents = t.parents;
  cpu_starts = t.cpu_starts;
  cpu_ends = t.cpu_ends;
  child_starts = no_row;
  child_ends = no_row;
}

module _ (t : Tree) where
  module _ (off first cpu upto : ℕ) where
    -- a level is coordinated alike
    level_bare : (level : ℕ) (x : Coordinated) →
        level_coordinated_of (bare_of t) off first cpu upto level x ≡ level_coordinated_of t off first cpu upto level x
    unfolding level_coordinated_of
    level_bare level x = refl

    -- and so are all
    levels_bare : (n : ℕ) (x : Coordinated) →
        levels_coordinated_of (bare_of t) off first cpu upto n x ≡ levels_coordinated_of t off first cpu upto n x
    unfolding levels_coordinated_of
    levels_bare zero x = refl
    levels_bare (suc n) x =
        ap (level_coordinated_of (bare_of t) off first cpu upto (suc n)) (levels_bare n x)
        ∙ level_bare (suc n) (levels_coordinated_of t off first cpu upto n x)

  module _ (p : Platform) (cpu : ℕ) (node : CpuPowerNode) (d : Domains) where
    -- coordinate makes the same of a request
    pub coordinate_bare : (upto : ℕ) (asked : CompositeState) →
        coordinated_to (bare_of t) d p cpu node upto asked ≡ coordinated_to t d p cpu node upto asked
    coordinate_bare upto asked = levels_bare (off_of p) node.parent.0 cpu upto upto _

    -- Off
    pub off_bare : (answer : ℕ) → off_in (bare_of t) p cpu node d answer ≡ off_in t p cpu node d answer
    off_bare answer =
        ap (λ (x : Coordinated). decided_on (caller_code t.cpu_count cpu node (answer_of answer)) node d
        (record { node = turned_off p node; domains = written_to d x; out = off_out p x.resolved }))
        (coordinate_bare p.max.0 (all_off p))

    -- a suspend, entered or not
    enter_bare : (pending : Bool) (asked : CompositeState) (e : EntryPoint) (told : Notice) →
        enter_in (bare_of t) p cpu node d pending asked e told ≡ enter_in t p cpu node d pending asked e told
    enter_bare pending asked e told =
        ap (λ (x : Coordinated). cond {A = Step} pending (record { node = node; domains = d; out = not_entered_out })
        (record { node = suspended_of p node x.resolved e; domains = written_to d x; out = suspend_out p x.resolved told }))
        (coordinate_bare (found_of (find_highest_non_run_level_of p asked)) asked)

    -- Suspend
    pub suspend_bare : (m : SuspendMode) (pending : Bool) (e : EntryPoint) (asked : CompositeState) →
        suspend_in (bare_of t) p cpu node d m pending e asked ≡ suspend_in t p cpu node d m pending e asked
    suspend_bare m pending e asked =
        ap (decided_on (caller_code t.cpu_count cpu node (suspend_code p m asked)) node d)
        (enter_bare pending asked e (notice.SpmToldSuspend e))

    -- System suspend
    pub system_suspend_bare : (m : SuspendMode) (feature last pending good : Bool) (e : EntryPoint) (asked : CompositeState) →
        system_suspend_in (bare_of t) p cpu node d m feature last pending good e asked
        ≡ system_suspend_in t p cpu node d m feature last pending good e asked
    system_suspend_bare m feature last pending good e asked =
        ap (decided_on (caller_code t.cpu_count cpu node (system_suspend_code p m feature last good asked)) node d)
        (enter_bare pending asked e (notice.SpmToldSystemSuspend e))
