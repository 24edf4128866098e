-- The start of a script.
use Prim.Native.Nat.{ℕ, ◌≤◌}
use mathlib.Core.Bool.{◌&&◌, and-eq-true_iff}
use mathlib.Core.List.{List}
use mathlib.Core.Path.{◌≡◌, refl}
use native.Mathlib.Omega.{arith}
use borrow.Author.Tests.{leb-true}
use lib.Dec.{leb}
use lib.ListN.{length}
use Rattle.std.specs.Prelude.{Err}
use Rattle.basics.proofs.Tests.{by}
use Rattle.model.specs.Fresh.{no_state, fresh_of}
use Rattle.model.specs.Limits.{highest_max, state_limit}
use Rattle.model.specs.State.{max_at}
use Rattle.model.specs.States.{off_of, betweenb, platformb}
use Rattle.model.specs.Topology.{topologyb, boardb}
use Rattle.model.specs.declared.code.Refusal.TheVariants as code
use Rattle.model.specs.declared.sorts.CpuNumber.{CpuNumber}
use Rattle.model.specs.declared.states.Platform.{Platform}
use Rattle.std.specs.Prelude.{Option, None, Some}
use Rattle.script.specs.declared.record.BoardRecord.{BoardRecord}
use Rattle.script.specs.Record.{read_board_of}
use Rattle.script.specs.Run.{topology_in, start_at, start_with, start_of}
use Rattle.script_laws.proofs.Record.{board_within}

module _ (l : List ℕ) where
  -- 108: no board
  pub start_malformed : read_board_of l ≡ None → start_of l ≡ record { code = Err code.Malformed; next = 0; state = no_state }
  unfolding start_of
  start_malformed g = simp g

  -- fresh on the board, or 101
  pub start_fresh : (b : BoardRecord) → read_board_of l ≡ Some b →
      start_of l ≡ start_at b.next (fresh_of b.platform b.primary (topology_in b.next l))
  unfolding start_of
  start_fresh b g = simp g

-- the first event stands within the input or at its end
pub start_within : (l : List ℕ) → (start_of l).next ≤ length l
unfolding start_of
start_within l = read (read_board_of l) refl
  where
    read : (x : Option BoardRecord) → read_board_of l ≡ x → (start_with x l).next ≤ length l
    read (Some b) e = (board_within l b e).1
    read None e = omega arith

-- a fresh state has at most the highest MAX, that of zeros too
fresh_max : (p : Platform) (primary : CpuNumber) (t : List ℕ) → max_at (fresh_of p primary t).state ≤ highest_max
unfolding fresh_of
fresh_max p primary t =
    by (boardb p primary t)
    (λ e.
    let same : max_at (fresh_of p primary t).state ≡ p.max.0 = simp e in
    let platform = ((and-eq-true_iff (platformb p) (topologyb t p.max.0 primary.0)).0 e).0 in
    let levels = betweenb 1 p.max.0 highest_max in
    let states = betweenb 2 p.states state_limit in
    let both = ((and-eq-true_iff (levels && states) (betweenb 1 p.down (off_of p))).0 platform).0 in
    let between = ((and-eq-true_iff levels states).0 both).0 in
    let low = leb-true p.max.0 highest_max ((and-eq-true_iff (leb 1 p.max.0) (leb p.max.0 highest_max)).0 between).1 in
    omega (arith, same, low))
    (λ e. let same : max_at (fresh_of p primary t).state ≡ 0 = simp e in omega (arith, same))

pub start_max : (l : List ℕ) → max_at (start_of l).state ≤ highest_max
unfolding start_of
start_max l = read (read_board_of l)
  where
    read : (x : Option BoardRecord) → max_at (start_with x l).state ≤ highest_max
    read (Some b) = fresh_max b.platform b.primary (topology_in b.next l)
    read None = omega arith
