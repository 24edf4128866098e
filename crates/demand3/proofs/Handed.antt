-- The resolved states that an off, a suspend that is entered or a system suspend hands the platform are the stored ones along the
-- caller's path after the call: in every state that a board comes to.
use Prim.Native.Nat.{ℕ}
use mathlib.Core.Bool.{Bool, true, false}
use mathlib.Core.List.{List}
use mathlib.Core.Path.{◌≡◌, ap, ◌∙◌}
use Rattle.history.specs.History.{state_after}
use Rattle.kept.proofs.Handed as handed
use Rattle.model.specs.Calls.{call_of}
use Rattle.model.specs.Fresh.{fresh_of}
use Rattle.model.specs.Numbers.{acceptedb}
use Rattle.model.specs.State.{platform_at, states_along}
use Rattle.model.specs.Steps.{off_out, suspend_out}
use Rattle.model.specs.Topology.{boardb}
use Rattle.model.specs.declared.answer.CallAnswer.{CallAnswer}
use Rattle.model.specs.declared.answer.Notice.TheVariants as notice
use Rattle.model.specs.declared.call.Call.{Call}
use Rattle.model.specs.declared.call.Call.TheVariants as call
use Rattle.model.specs.declared.cpu.EntryPoint.{EntryPoint}
use Rattle.model.specs.declared.sorts.CpuNumber.{CpuNumber}
use Rattle.model.specs.declared.states.CompositeState.{CompositeState}
use Rattle.model.specs.declared.states.Platform.{Platform}
use Rattle.demand3.proofs.Demand3.{reached, reached_of}

module _ (p : Platform) (primary : CpuNumber) (t : List ℕ) (yes : boardb p primary t ≡ true) (calls : List Call) (caller : CpuNumber) where
  -- the answer to one more call
  abbrev next : Call → CallAnswer
  next = call_of (state_after (fresh_of p primary t).state calls)

  -- what is stored along the caller's path after it
  abbrev stored : Call → CompositeState
  stored k = states_along (next k).state caller.0

  same_platform : platform_at (state_after (fresh_of p primary t).state calls) ≡ p
  same_platform = (reached_of p primary t yes calls).platform

  pub off_handed : (answer : ℕ) → let k = call.Off caller answer in acceptedb (next k).code ≡ true → (next k).out ≡ off_out p (stored k)
  off_handed answer h =
      handed.off_handed _ (reached p primary t yes calls) caller answer h
      ∙ ap (λ (q : Platform). off_out q (stored (call.Off caller answer))) same_platform

  module _ (e : EntryPoint) (asked : CompositeState) where
    pub suspend_handed : let k = call.Suspend caller false e asked in
        acceptedb (next k).code ≡ true → (next k).out ≡ suspend_out p (stored k) (notice.SpmToldSuspend e)
    suspend_handed h =
        handed.suspend_handed _ (reached p primary t yes calls) caller e asked h
        ∙ ap (λ (q : Platform). suspend_out q (stored (call.Suspend caller false e asked)) (notice.SpmToldSuspend e)) same_platform

    pub system_suspend_handed : (feature good : Bool) → let k = call.SystemSuspend caller feature false good e asked in
        acceptedb (next k).code ≡ true → (next k).out ≡ suspend_out p (stored k) (notice.SpmToldSystemSuspend e)
    system_suspend_handed feature good h =
        let k = call.SystemSuspend caller feature false good e asked in
        handed.system_suspend_handed _ (reached p primary t yes calls) caller e asked feature good h
        ∙ ap (λ (q : Platform). suspend_out q (stored k) (notice.SpmToldSystemSuspend e)) same_platform
