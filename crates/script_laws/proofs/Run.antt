-- Every outcome of a run, a law each.
use Prim.Native.Nat.{ℕ, zero, suc, ◌+◌, ◌-◌, ◌<◌, ◌≤◌}
use mathlib.Core.Bool.{cond}
use mathlib.Core.List.{List}
use mathlib.Core.Path.{◌≡◌, ◌∙◌}
use native.Mathlib.Omega.{arith}
use borrow.Author.Tests.{lt-ltb, le-ltb, eq-eqb, ne_eqb}
use lib.Dec.{ltb}
use lib.ListN.{length, drop}
use Rattle.std.specs.Prelude.{Ok, Err}
use Rattle.model.specs.State.{max_at}
use Rattle.model.specs.declared.call.Call.{Call}
use Rattle.model.specs.declared.code.Refusal.TheVariants as code
use Rattle.model.specs.declared.state.State.{State}
use Rattle.script.specs.declared.record.Read.TheVariants as read
use Rattle.script.specs.AnswerRecord.{answer_size}
use Rattle.script.specs.Record.{read_of}
use Rattle.script.specs.Run.{stopped, after, event_or, record_of_event, event_answer_of, run_of}
use Rattle.script_laws.proofs.Record.{read_end}

module _ (budget room : ℕ) (l : List ℕ) (k : ℕ) (s : State) where
  -- the clean end, whatever is left of the budget
  pub run_end : length l ≡ 0 → run_of (budget - k) room l k s ≡ stopped (Ok tt) k s
  unfolding run_of
  run_end h = by (budget - k)
    where
      by : (n : ℕ) → run_of n room l k s ≡ stopped (Ok tt) k s
      by zero = simp (eq-eqb _ _ h)
      by (suc n) = simp (read_end (max_at s) l h)

  -- 112: the budget is spent with bytes left
  pub run_spent : 0 < length l → budget ≤ k → run_of (budget - k) room l k s ≡ stopped (Err code.BudgetSpent) k s
  unfolding run_of
  run_spent h b =
      let z : budget - k ≡ 0 = omega arith in
      let n : (length l ≡ 0) → ⊥ = λ e. omega (arith, e, h) in
      simp (z, ne_eqb _ _ n)

  module _ (b : k < budget) where
    run_read : run_of (budget - k) room l k s ≡ event_or (read_of (max_at s) l) (λ closing. stopped closing k s) (λ c next.
        cond (ltb room answer_size) (stopped (Err code.NoRoom) k s)
        (after (record_of_event (k + 1) (event_answer_of s c))
        (run_of (budget - (k + 1)) (room - answer_size) (drop next l) (k + 1) (event_answer_of s c).state)))
    unfolding run_of
    run_read = let z : budget - k ≡ suc (budget - (k + 1)) = omega arith in simp z

    -- 108
    pub run_malformed : read_of (max_at s) l ≡ read.Malformed → run_of (budget - k) room l k s ≡ stopped (Err code.Malformed) k s
    run_malformed g = run_read ∙ simp g

    module _ (c : Call) (next : ℕ) (g : read_of (max_at s) l ≡ read.Event c next) where
      -- 110: the event is not taken
      pub run_full : room < answer_size → run_of (budget - k) room l k s ≡ stopped (Err code.NoRoom) k s
      run_full m = run_read ∙ simp (g, lt-ltb _ _ m)

      -- the call, and its answer record
      pub run_go : answer_size ≤ room →
          run_of (budget - k) room l k s ≡ after (record_of_event (k + 1) (event_answer_of s c))
          (run_of (budget - (k + 1)) (room - answer_size) (drop next l) (k + 1) (event_answer_of s c).state)
      run_go m = run_read ∙ simp (g, le-ltb _ _ m)
