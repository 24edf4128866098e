-- What a call keeps.
use Rattle.std.specs.Prelude.{ℕ, ◌<◌, ◌≤◌, ◌≡◌}
use Rattle.history.specs.Standing.{stands_after}
use Rattle.model.specs.Composite.{state_at}
use Rattle.model.specs.State.{platform_at, max_at, cpu_count_of, asked_of}
use Rattle.model.specs.declared.answer.CallAnswer.{CallAnswer}
use Rattle.model.specs.declared.call.Call.{Call}
use Rattle.model.specs.declared.state.State.{State}
use Rattle.kept.specs.Left.{LeftAlone}
use Rattle.kept.specs.Lengths.{SoundRecord}

-- after the answer a to the call k in the state s
pub record Keeps (s : State) (k : Call) (a : CallAnswer) : Type 0 where
  -- the record is sound
  pub whole : SoundRecord a.state
  -- what the call does not name is as it was
  pub left : LeftAlone s k a.state
  -- each CPU asks for what the call makes it stand for
  pub asks : (i l : ℕ) → i < cpu_count_of s → l ≤ max_at s →
      state_at (asked_of a.state i) l ≡ stands_after (platform_at s) i (record { call = k; code = a.code }) (state_at (asked_of s i)) l
