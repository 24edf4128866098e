-- docs/REFERENCE.md, 'What a CPU stands for'. Histories: the calls that were made, in order, each with the code that it was answered with.
use Rattle.std.specs.Prelude.{List, [], ◌∷◌}
use Rattle.model.specs.Calls.{call_of}
use Rattle.model.specs.declared.call.Call.{Call}
use Rattle.model.specs.Numbers.{Code}
use Rattle.model.specs.declared.state.State.{State}

-- a call that was made: with the platform's answers, and the code
pub record Done : Type 0 where
  pub call : Call
  pub code : Code

-- a call as it is answered in a state
abbrev pub done_of : State → Call → Done
done_of s k = record { call = k; code = (call_of s k).code }

-- the state after these calls
unfoldable pub state_after : State → List Call → State
state_after s [] = s
state_after s (k ∷ ks) = state_after (call_of s k).state ks

-- each of these calls with its code, refused ones too
unfoldable pub history_of : State → List Call → List Done
history_of s [] = []
history_of s (k ∷ ks) = done_of s k ∷ history_of (call_of s k).state ks
