-- The board of a script that starts: it is acceptable, and the script starts fresh on it.
use Prim.Native.Nat.{ℕ}
use mathlib.Core.Bool.{true, true≢false}
use mathlib.Core.List.{List}
use mathlib.Core.Path.{◌≡◌, refl, sym, ap}
use Rattle.std.specs.Prelude.{Ok}
use Rattle.basics.proofs.Tests.{by}
use Rattle.model.specs.Fresh.{fresh_of}
use Rattle.model.specs.Numbers.{acceptedb}
use Rattle.model.specs.Topology.{boardb}
use Rattle.model.specs.declared.code.Refusal.TheVariants as code
use Rattle.model.specs.declared.sorts.CpuNumber.{CpuNumber}
use Rattle.model.specs.declared.states.Platform.{Platform}
use Rattle.script.specs.Record.{read_board_of}
use Rattle.script.specs.Run.{topology_in, start_with, start_of}
use Rattle.std.specs.Prelude.{Option, None, Some}
use Rattle.script.specs.declared.record.BoardRecord.{BoardRecord}
use Rattle.script.specs.declared.run.Start.{Start}
use Rattle.script_laws.proofs.Start.{start_fresh}
use Rattle.script_demand.specs.Board.{BoardIn}

fresh_accepted : (p : Platform) (primary : CpuNumber) (t : List ℕ) → (fresh_of p primary t).code ≡ Ok tt →
    boardb p primary t ≡ true
unfolding fresh_of
fresh_accepted p primary t h =
    by (boardb p primary t) (λ e. e) (λ e. absurd (true≢false (sym (ap acceptedb (simp e at h)))))

-- a script that starts has such a board
pub board_in_lem : (l : List ℕ) → (start_of l).code ≡ Ok tt → BoardIn l
unfolding start_of
board_in_lem l h = said (read_board_of l) refl h
  where
    said : (x : Option BoardRecord) → read_board_of l ≡ x → (start_with x l).code ≡ Ok tt → BoardIn l
    said (Some b) e h = record {
      platform = b.platform;
      primary = b.primary;
      next = b.next;
      says = e;
      accepted = fresh_accepted b.platform b.primary (topology_in b.next l) h;
    }
    said None e h = absurd (true≢false (sym (ap acceptedb h)))

-- and starts fresh on it
pub board_fresh : (l : List ℕ) (b : BoardIn l) →
    (start_of l).state ≡ (fresh_of b.platform b.primary (topology_in b.next l)).state
board_fresh l b = ap (λ (x : Start). x.state) (start_fresh l _ b.says)
