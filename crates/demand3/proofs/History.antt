-- Along a history: every state is sound and of the same board, and each CPU asks for what it stands for.
use Prim.Native.Nat.{ℕ, ◌<◌, ◌≤◌}
use mathlib.Core.Bool.{Bool, cond, not, ◌&&◌}
use mathlib.Core.List.{List, [], ◌∷◌}
use mathlib.Core.Path.{◌≡◌, ap, ◌∙◌}
use native.Mathlib.Omega.{arith}
use Rattle.basics.proofs.Tests.{by}
use Rattle.history.specs.History.{Done, done_of, state_after, history_of}
use Rattle.history.specs.Standing.{runs, is_off, itsb, stands_after_accepted, stands_after, standing_from}
use Rattle.call_laws.proofs.Board.{call_same_board}
use Rattle.kept.proofs.Kept.{call_keeps}
use Rattle.kept.specs.Lengths.{SoundRecord}
use Rattle.model.specs.Calls.{call_of}
use Rattle.model.specs.Composite.{state_at}
use Rattle.model.specs.Numbers.{acceptedb}
use Rattle.model.specs.State.{asked_of, cpu_count_of, max_at}
use Rattle.model.specs.declared.board.Board.{Board}
use Rattle.model.specs.declared.board.Tree.{Tree}
use Rattle.model.specs.declared.call.Call.{Call}
use Rattle.model.specs.declared.call.Call.TheVariants as call
use Rattle.model.specs.declared.state.State.{State}
use Rattle.model.specs.declared.states.Platform.{Platform}

-- a sound record of a board
pub record Of (b : Board) (u : Tree) (s : State) : Type 0 where
  pub kept : SoundRecord s
  pub board : s.board ≡ b
  pub tree : s.tree ≡ u

-- a choice at a level
chosen_at : (b : Bool) (f x y : ℕ → ℕ) (l : ℕ) → x l ≡ y l → cond b f x l ≡ cond b f y l
chosen_at b f x y l e = by b (λ t. simp t) (λ t. simp t e)

module _ (p : Platform) (c : ℕ) where
  -- what a CPU stands for after a call at a level follows from what it stood for there
  accepted_at : (k : Call) (x y : ℕ → ℕ) (l : ℕ) → x l ≡ y l → stands_after_accepted p c k x l ≡ stands_after_accepted p c k y l
  accepted_at (call.On caller target e good answer) x y l h = h
  accepted_at (call.Off caller answer) x y l h = chosen_at (itsb p c caller) (is_off p) x y l h
  accepted_at (call.Suspend caller pending e asked) x y l h = chosen_at (itsb p c caller && not pending) (state_at asked) x y l h
  accepted_at (call.Finish cpu) x y l h = chosen_at (itsb p c cpu) runs x y l h
  accepted_at (call.Boot cpu) x y l h = chosen_at (itsb p c cpu) runs x y l h
  accepted_at (call.SystemSuspend caller feature pending good e asked) x y l h =
      chosen_at (itsb p c caller && not pending) (state_at asked) x y l h
  accepted_at (call.SetMode caller feature wanted) x y l h = h

  pub stands_at : (d : Done) (x y : ℕ → ℕ) (l : ℕ) → x l ≡ y l → stands_after p c d x l ≡ stands_after p c d y l
  stands_at d x y l h = by (acceptedb d.code) (λ t. simp t (accepted_at d.call x y l h)) (λ t. simp t h)

module _ (b : Board) (u : Tree) where
  -- a call leaves a sound record of the board
  pub call_of_lem : (s : State) → Of b u s → (k : Call) → Of b u (call_of s k).state
  call_of_lem s o k = record {
    kept = (call_keeps s o.kept k).whole;
    board = (call_same_board s k).board ∙ o.board;
    tree = (call_same_board s k).tree ∙ o.tree;
  }

  -- and so do the calls of a history
  pub history_of_lem : (ks : List Call) (s : State) → Of b u s → Of b u (state_after s ks)
  unfolding state_after
  history_of_lem [] s o = o
  history_of_lem (k ∷ ks) s o = history_of_lem ks (call_of s k).state (call_of_lem s o k)

  module _ (c : ℕ) (is : c < u.cpu_count) where
    -- a call leaves a CPU asking for what it stands for
    call_stands : (s : State) → Of b u s → (k : Call) (x : ℕ → ℕ) (l : ℕ) → l ≤ b.platform.max.0 →
        state_at (asked_of s c) l ≡ x l →
        state_at (asked_of (call_of s k).state c) l ≡ stands_after b.platform c (done_of s k) x l
    call_stands s o k x l h e =
        let is' : c < cpu_count_of s = omega (arith, ap (λ (z : Tree). z.cpu_count) o.tree) in
        let h' : l ≤ max_at s = omega (arith, ap (λ (z : Board). z.platform.max.0) o.board) in
        (call_keeps s o.kept k).asks c l is' h'
        ∙ ap (λ (z : Board). stands_after z.platform c (done_of s k) (state_at (asked_of s c)) l) o.board
        ∙ stands_at b.platform c (done_of s k) (state_at (asked_of s c)) x l e

    -- after a history it asks for what it stands for
    pub asks_stand : (ks : List Call) (s : State) (x : ℕ → ℕ) → Of b u s →
        ((l : ℕ) → l ≤ b.platform.max.0 → state_at (asked_of s c) l ≡ x l) →
        (l : ℕ) → l ≤ b.platform.max.0 →
        state_at (asked_of (state_after s ks) c) l ≡ standing_from b.platform c (history_of s ks) x l
    unfolding state_after history_of standing_from
    asks_stand [] s x o e l h = e l h
    asks_stand (k ∷ ks) s x o e l h =
        asks_stand ks (call_of s k).state (stands_after b.platform c (done_of s k) x) (call_of_lem s o k)
        (λ n g. call_stands s o k x n g (e n g)) l h
