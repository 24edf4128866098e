-- What a CPU stands for at each level, from 0 up, worked out from a history alone: RUN since it last came up, the states of the
-- suspend that it last entered, OFF if it is off, pending or never started.
use Rattle.std.specs.Prelude.{ℕ, Bool, cond, not, ◌&&◌, List, [], ◌∷◌, eqb}
use Rattle.model.specs.Composite.{state_at}
use Rattle.model.specs.Numbers.{acceptedb}
use Rattle.model.specs.States.{run, off_of}
use Rattle.model.specs.declared.call.Call.{Call}
use Rattle.model.specs.declared.call.Call.TheVariants as call
use Rattle.model.specs.declared.sorts.CpuNumber.{CpuNumber}
use Rattle.model.specs.declared.states.Platform.{Platform}
use Rattle.history.specs.History.{Done}

-- RUN at every level
abbrev pub runs : ℕ → ℕ
runs level = run

module _ (p : Platform) where
  -- OFF at every level
  abbrev pub is_off : ℕ → ℕ
  is_off level = off_of p

  module _ (c : ℕ) where
    -- the number is CPU c's
    abbrev pub itsb : CpuNumber → Bool
    itsb cpu = eqb c cpu.0

    -- what CPU c stands for after an accepted call, where it stood for x
    abbrev pub stands_after_accepted : Call → (ℕ → ℕ) → ℕ → ℕ
    stands_after_accepted (call.On caller target e good answer) x = x
    stands_after_accepted (call.Off caller answer) x = cond (itsb caller) is_off x
    stands_after_accepted (call.Suspend caller pending e asked) x = cond (itsb caller && not pending) (state_at asked) x
    stands_after_accepted (call.Finish cpu) x = cond (itsb cpu) runs x
    stands_after_accepted (call.Boot cpu) x = cond (itsb cpu) runs x
    stands_after_accepted (call.SystemSuspend caller feature pending good e asked) x =
        cond (itsb caller && not pending) (state_at asked) x
    stands_after_accepted (call.SetMode caller feature wanted) x = x

    -- a refused call leaves it
    abbrev pub stands_after : Done → (ℕ → ℕ) → ℕ → ℕ
    stands_after d x = cond (acceptedb d.code) (stands_after_accepted d.call x) x

    -- after a history, where it stood for x before
    unfoldable pub standing_from : List Done → (ℕ → ℕ) → ℕ → ℕ
    standing_from [] x = x
    standing_from (d ∷ ds) x = standing_from ds (stands_after d x)

    -- at first the primary runs, and every other CPU is off
    abbrev pub stands_first : CpuNumber → ℕ → ℕ
    stands_first primary = cond (itsb primary) runs is_off

-- after a history of a board with this primary, by CPU and level
abbrev pub standing : Platform → CpuNumber → List Done → ℕ → ℕ → ℕ
standing p primary h c = standing_from p c h (stands_first p c primary)
