-- What a call gives is what is decided.
use Prim.Native.Nat.{ℕ}
use mathlib.Core.Bool.{Bool, true, false}
use mathlib.Core.List.{List}
use mathlib.Core.Path.{◌≡◌, sym, ◌∙◌}
use Rattle.std.specs.Prelude.{Ok}
use Rattle.model.specs.declared.answer.Notice.{Notice}
use Rattle.model.specs.declared.answer.Step.{Step}
use Rattle.model.specs.declared.board.Tree.{Tree}
use Rattle.model.specs.declared.cpu.CpuPowerNode.{CpuPowerNode}
use Rattle.model.specs.declared.cpu.EntryPoint.{EntryPoint}
use Rattle.model.specs.declared.state.Domains.{Domains}
use Rattle.model.specs.declared.states.CompositeState.{CompositeState}
use Rattle.model.specs.declared.states.Platform.{Platform}
use Rattle.model.specs.Composite.{all_run, find_highest_non_run_level_of, found_of}
use Rattle.model.specs.Coordinate.{Coordinated}
use Rattle.model.specs.Numbers.{Code, acceptedb}
use Rattle.model.specs.Steps.{coordinated_to}
use Rattle.in_place.specs.Stepped.{Outcome, decided_on, enter_in, entered_in, outcome, stepped, stepped_of}
use Rattle.in_place.proofs.Handed.{suspend_states}

-- an acceptance, part by part
pub parts : {n n' : CpuPowerNode} {s s' : CompositeState} {d d' : Domains} → n ≡ n' → s ≡ s' → d ≡ d' →
    outcome (stepped (Ok tt) n s) d ≡ outcome (stepped (Ok tt) n' s') d'
parts hn hs hd = rw (hn, hs, hd)

-- the rows with what coordinate wrote, and the suspend states, which it does not touch
abbrev rows_with : List ℕ → Coordinated → Domains
rows_with suspends x = record { states = x.states; requests = x.requests; suspends = suspends; copies = x.copies }

-- an acceptance with what coordinate wrote; the record follows from what it resolved
pub written : (suspends : List ℕ) (f : CompositeState → CpuPowerNode) {n : CpuPowerNode} {x y : Coordinated} → n ≡ f x.resolved → x ≡ y →
    outcome (stepped (Ok tt) n x.resolved) (rows_with suspends x)
    ≡ outcome (stepped (Ok tt) (f y.resolved) y.resolved) (rows_with suspends y)
written suspends f hn hx = rw (hn, hx)

module _ (t : Tree) (p : Platform) (cpu : ℕ) (node : CpuPowerNode) (d : Domains) (asked : CompositeState) (e : EntryPoint) (told : Notice) where
  abbrev taken : Step → Outcome
  taken x = outcome (stepped (Ok tt) x.node x.out.states) x.domains

  -- with an interrupt pending nothing changes
  pub stays : {pending : Bool} → pending ≡ true → {states : CompositeState} → states ≡ all_run →
      outcome (stepped (Ok tt) node states) d ≡ taken (enter_in t p cpu node d pending asked e told)
  stays hp hs = simp (hp, hs)

  -- a suspend that is entered
  pub entered : {pending : Bool} → pending ≡ false → {y : Outcome} → y ≡ entered_in t p cpu node d asked e →
      y ≡ taken (enter_in t p cpu node d pending asked e told)
  entered hp hy = hy ∙ simp (hp, suspend_states (coordinated_to t d p cpu node (found_of (find_highest_non_run_level_of p asked)) asked).resolved p told)

module _ {k : Code} (m : Code) {b : Bool} (hk : k ≡ m) (hb : b ≡ acceptedb k) where
  accepted_as : {v : Bool} → b ≡ v → acceptedb m ≡ v
  accepted_as h = rw (sym hk) (sym hb ∙ h)

  -- an acceptance, of the record alone
  pub done_stepped : (was becomes : CpuPowerNode) (handed : CompositeState) → b ≡ true → {node : CpuPowerNode} {states : CompositeState} →
      node ≡ becomes → states ≡ handed → stepped (Ok tt) node states ≡ stepped_of m was becomes handed
  unfolding stepped_of
  done_stepped was becomes handed h hn hs = simp (accepted_as h, hn, hs)

  -- a refusal
  pub refused_stepped : (was becomes : CpuPowerNode) (handed : CompositeState) → b ≡ false → {states : CompositeState} →
      states ≡ all_run → stepped k was states ≡ stepped_of m was becomes handed
  unfolding stepped_of
  refused_stepped was becomes handed h hs = simp (accepted_as h, hk, hs)

  module _ (node : CpuPowerNode) (d : Domains) (x : Step) where
    -- an acceptance, with the domains
    pub done_on : b ≡ true → {y : Outcome} → y ≡ outcome (stepped (Ok tt) x.node x.out.states) x.domains →
        y ≡ decided_on m node d x
    unfolding decided_on stepped_of
    done_on h hy = hy ∙ simp (accepted_as h)

    -- a refusal
    pub refused_on : b ≡ false → {states : CompositeState} → states ≡ all_run → outcome (stepped k node states) d ≡ decided_on m node d x
    unfolding decided_on stepped_of
    refused_on h hs = simp (accepted_as h, hk, hs)
