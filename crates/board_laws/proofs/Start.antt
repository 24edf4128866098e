-- After a start that gives 0 the fresh state lies in the rows; so the theorems hold of every board that only the exported calls change.
use Prim.Native.Nat.{ℕ, ◌<◌}
use mathlib.Core.Bool.{Bool, true, false}
use mathlib.Core.List.{List}
use mathlib.Core.Path.{◌≡◌, refl, sym, ap, subst, ◌∙◌}
use native.Mathlib.Omega.{arith}
use lib.IntN.{ℤ, pos}
use lib.ListN.{get_or, length}
use Rattle.basics.proofs.Tests.{by}
use Rattle.board_calls.specs.Start.{BoardRows, start_on, start_rows}
use Rattle.board_laws.specs.Made.{LiesIn, Run}
use Rattle.board_laws.proofs.Keeps.{Reached, run_keeps}
use Rattle.cpu_table.proofs.Rows.{rows_lengths, table_of_rows}
use Rattle.demand3.proofs.Demand3.{demand_3}
use Rattle.history.specs.History.{history_of}
use Rattle.history.specs.Under.{shallowest_of}
use Rattle.kept.proofs.Fresh.{fresh_kept}
use Rattle.model.specs.Fresh.{fresh_of}
use Rattle.model.specs.Limits.{cpu_limit}
use Rattle.model.specs.Topology.{boardb, domains_of}
use Rattle.model.specs.declared.call.Call.{Call}
use Rattle.model.specs.declared.sorts.CpuNumber.{CpuNumber}
use Rattle.model.specs.declared.state.Domains.{Domains}
use Rattle.model.specs.declared.state.State.{State}
use Rattle.model.specs.declared.state.SuspendMode.TheVariants as mode
use Rattle.model.specs.declared.states.Platform.{Platform}

-- 101 is not 0
other : pos 101 ≡ pos 0 → ⊥
other e = let z : ◌≡◌ {A = ℕ} 0 1 = cc in omega arith

-- a state that is platform-coordinated lies in the rows of a start
pub rows_lie : (s : State) → s.mode ≡ mode.PlatformCoordinated → length s.cpus ≡ cpu_limit → LiesIn s (start_rows s)
rows_lie s m n = record {
  platform = refl;
  count = refl;
  mode = sym m;
  over = refl;
  from = refl;
  to = refl;
  rows = refl;
  records = table_of_rows s.cpus n;
  lengths = rows_lengths s.cpus cpu_limit;
  long = refl;
}

module _ (p : Platform) (primary : CpuNumber) (t : List ℕ) where
  -- the fresh state is platform-coordinated
  fresh_mode : (b : Bool) → boardb p primary t ≡ b → (fresh_of p primary t).state.mode ≡ mode.PlatformCoordinated
  unfolding fresh_of
  fresh_mode true h = simp h
  fresh_mode false h = simp h

  module _ (r : BoardRows) where
    -- a board that is not acceptable is 101, and no row changes
    pub start_refused : boardb p primary t ≡ false →
        ((start_on r (fresh_of p primary t)).number ≡ pos 101) × ((start_on r (fresh_of p primary t)).rows ≡ r)
    unfolding fresh_of
    start_refused h = (simp h, simp h)

    -- so 0 says that it is acceptable
    pub start_accepted : (start_on r (fresh_of p primary t)).number ≡ pos 0 → boardb p primary t ≡ true
    start_accepted z = by (boardb p primary t) (λ h. h) (λ h. absurd (other (sym (start_refused h).0 ∙ z)))

    -- an acceptable one is 0
    pub start_zero : boardb p primary t ≡ true → (start_on r (fresh_of p primary t)).number ≡ pos 0
    unfolding fresh_of
    start_zero h = simp h

    -- the rows of a start that is accepted
    start_rows_lem : boardb p primary t ≡ true → (start_on r (fresh_of p primary t)).rows ≡ start_rows (fresh_of p primary t).state
    unfolding fresh_of
    start_rows_lem h = simp h

    -- then the fresh state lies in the rows
    pub started_lies : boardb p primary t ≡ true → LiesIn (fresh_of p primary t).state (start_on r (fresh_of p primary t)).rows
    started_lies h =
        subst (LiesIn (fresh_of p primary t).state) (sym (start_rows_lem h))
        (rows_lie (fresh_of p primary t).state (fresh_mode (boardb p primary t) refl) (fresh_kept p primary t h).lengths.cpus)

    module _ (zero : (start_on r (fresh_of p primary t)).number ≡ pos 0) {ks : List Call} {ns : List ℤ} {after : BoardRows}
        (run : Run (start_on r (fresh_of p primary t)).rows ks ns after) where
      -- after a start that gives 0 and any calls the rows hold the state that the calls come to from the fresh one, and it is sound
      pub board_reached : Reached (fresh_of p primary t).state ks ns after
      board_reached = let h = start_accepted zero in run_keeps (fresh_kept p primary t h) (started_lies h) run

      -- and in the row of states each domain has the shallowest of what the CPUs under it stand for
      pub board_demand_3 : (k : ℕ) → k < domains_of t p.max.0 →
          get_or after.domains.states k 0 ≡ shallowest_of p primary t (history_of (fresh_of p primary t).state ks) k
      board_demand_3 k is =
          ap (λ (d : Domains). get_or d.states k 0) board_reached.state.rows
          ∙ demand_3 p primary t (start_accepted zero) ks k is
