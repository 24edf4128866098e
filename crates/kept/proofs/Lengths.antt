-- The tables keep their lengths.
use Prim.Native.Nat.{ℕ, zero, suc}
use mathlib.Core.List.{List}
use mathlib.Core.Path.{◌≡◌, refl, ◌∙◌}
use lib.Dec.{ltb}
use lib.ListN.{length, length-set, set}
use Rattle.basics.proofs.Tests.{cond_rule}
use Rattle.model.specs.Coordinate.{written_to}
use Rattle.model.specs.declared.cpu.CpuPowerNode.{CpuPowerNode}
use Rattle.model.specs.declared.state.Domains.{Domains}
use Rattle.model.specs.declared.state.State.{State}
use Rattle.model.specs.declared.states.CompositeState.{CompositeState}
use Rattle.model.specs.declared.board.Tree.{Tree}
use Rattle.model.specs.declared.states.Platform.{Platform}
use Rattle.model.specs.Node.{no_suspend_state}
use Rattle.model.specs.Path.{above_of, levels_running_of, set_running_of}
use Rattle.model.specs.States.{run, off_of}
use Rattle.model.specs.Steps.{coordinated_to}
use Rattle.sound_laws.proofs.Coordinated.{length_states, length_requests, length_copies, length_set_level}
use Rattle.sound_laws.proofs.Moved.{moved_to}
use Rattle.kept.specs.Lengths.{Lengths}

-- rows are as long as others
pub record AsLong (a b : Domains) : Type 0 where
  pub states : length a.states ≡ length b.states
  pub requests : length a.requests ≡ length b.requests
  pub suspends : length a.suspends ≡ length b.suspends
  pub copies : length a.copies ≡ length b.copies

pub as_long : (a : Domains) → AsLong a a
as_long a = record { states = refl; requests = refl; suspends = refl; copies = refl }

-- set_running
running_long : (parents : List ℕ) (max first cpu n : ℕ) (x : Domains) → AsLong (levels_running_of parents max first cpu n x) x
unfolding levels_running_of
running_long parents max first cpu zero x = as_long x
running_long parents max first cpu (suc n) x =
    let before = running_long parents max first cpu n x in
    let now = levels_running_of parents max first cpu n x in
    let d = above_of parents first n in
    record {
      states = simp length-set before.states;
      requests = length_set_level now.requests (suc n) cpu run ∙ before.requests;
      suspends = length_set_level now.suspends (suc n) cpu no_suspend_state ∙ before.suspends;
      copies = cond_rule (λ (row : List ℕ). length row ≡ length x.copies) (ltb (suc n) max) {x = set now.copies d run} {y = now.copies}
          (λ _. simp length-set before.copies) (λ _. before.copies);
    }

pub up_long : (parents : List ℕ) (max first cpu : ℕ) (x : Domains) → AsLong (set_running_of parents max first cpu x) x
up_long parents max first cpu x = running_long parents max first cpu max x

-- coordinate
pub down_long : (t : Tree) (d : Domains) (p : Platform) (cpu : ℕ) (c : CpuPowerNode) (upto : ℕ) (asked : CompositeState) →
    AsLong (written_to d (coordinated_to t d p cpu c upto asked)) d
down_long t d p cpu c upto asked = record {
  states = length_states t (off_of p) c.parent.0 cpu upto d asked upto;
  requests = length_requests t (off_of p) c.parent.0 cpu upto d asked upto;
  suspends = refl;
  copies = length_copies t (off_of p) c.parent.0 cpu upto d asked upto;
}

-- a CPU moves
pub moved_lengths : (s : State) (c : ℕ) (r : CpuPowerNode) (d : Domains) → Lengths s → AsLong d s.domains → Lengths (moved_to s c r d)
moved_lengths s c r d h e = record {
  cpus = simp length-set h.cpus;
  states = e.states ∙ h.states;
  requests = e.requests ∙ h.requests;
  suspends = e.suspends ∙ h.suspends;
  copies = e.copies ∙ h.copies;
}
