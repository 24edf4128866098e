-- An event on rows is that event on the state that they stand for.
use Prim.Native.Nat.{ℕ}
use mathlib.Core.Bool.{Bool, true, false, cond}
use mathlib.Core.List.{List}
use mathlib.Core.Path.{◌≡◌, sym, ap, ◌∙◌}
use lib.Dec.{ltb}
use lib.ListN.{get_or}
use Rattle.std.specs.Prelude.{Err}
use Rattle.cpu_table.proofs.Records.{cpu_in_lem, stored_in_lem}
use Rattle.cpu_table.proofs.Walks.{all_on_in_lem, others_off_in_lem}
use Rattle.cpu_table.specs.CpuTable.{Lengths, cpu_in, cpus_in, stored_in}
use Rattle.cpu_table.specs.declared.CpuRows.{CpuRows}
use Rattle.in_place.proofs.AnyCall.{GivesAny, any_gives}
use Rattle.in_place.proofs.Parent.{call_parent}
use Rattle.in_place.specs.Any.{AnyOutcome, call_in, caller_of, with_domains}
use Rattle.in_place.specs.declared.any.Moved.{Moved}
use Rattle.model.specs.declared.answer.CallAnswer.{CallAnswer}
use Rattle.model.specs.declared.board.Board.{Board}
use Rattle.model.specs.declared.board.Tree.{Tree}
use Rattle.model.specs.declared.call.Call.{Call}
use Rattle.model.specs.Numbers.{Code}
use Rattle.model.specs.declared.code.Refusal.TheVariants as code
use Rattle.model.specs.declared.cpu.CpuPowerNode.{CpuPowerNode}
use Rattle.model.specs.declared.sorts.CpuNumber.{CpuNumber}
use Rattle.model.specs.declared.state.Domains.{Domains}
use Rattle.model.specs.declared.state.State.{State}
use Rattle.model.specs.declared.state.SuspendMode.{SuspendMode}
use Rattle.model.specs.declared.states.CompositeState.{CompositeState}
use Rattle.model.specs.Calls.{body_of}
use Rattle.model.specs.Path.{local_states_of}
use Rattle.model.specs.State.{cpu_at, cpu_count_of, no_cpu, state_of}
use Rattle.script.specs.AnswerRecord.{named_of, no_cpu_states, shown_of}
use Rattle.script.specs.Run.{event_answer_as, event_gives}
use Rattle.script_run.specs.Rows.{event_answer, state_in}

-- the states that are shown of the CPU that an event names
pub shows : (board : Board) (tree : Tree) {cpus : CpuRows} (l : Lengths cpus) (d : Domains) (m : SuspendMode) (k : Call) {cpu : CpuNumber}
    {node : CpuPowerNode} {shown : CompositeState} → cpu ≡ named_of k → node ≡ cpu_in cpus cpu.0 →
    shown ≡ cond (ltb cpu.0 tree.cpu_count) (local_states_of tree.parents d.states board.platform.max.0 node) no_cpu_states →
    shown ≡ shown_of (state_in board tree cpus d m) (named_of k)
shows board tree {cpus} l d m k {cpu} hk hn hw =
    let states : CpuPowerNode → CompositeState = local_states_of tree.parents d.states board.platform.max.0 in
    hw ∙ ap (λ (n : CpuPowerNode). cond (ltb cpu.0 tree.cpu_count) (states n) no_cpu_states) (hn ∙ sym (cpu_in_lem l cpu.0))
    ∙ ap (λ (q : CpuNumber). cond (ltb q.0 tree.cpu_count) (states (get_or (cpus_in cpus) q.0 no_cpu)) no_cpu_states) hk

module _ (board : Board) (tree : Tree) (cpus : CpuRows) (l : Lengths cpus) (d : Domains) (m : SuspendMode) (k : Call) where
  abbrev s : State
  s = state_in board tree cpus d m

  abbrev c : ℕ
  c = (named_of k).0

  -- what the rows have of the CPUs that the call reads is what the state has
  abbrev in_rows : CpuPowerNode → CpuPowerNode → AnyOutcome
  in_rows by node = call_in tree board.platform m cpus.affinities by node d k

  same_answer : (a : CallAnswer) {q : Code} {s' : State} → a.code ≡ q → a.state ≡ s' →
      event_gives k a ≡ event_answer q (shown_of s' (named_of k)) s'
  same_answer a hq hs = rw (hq, hs)

  -- the call is taken
  module _ {by node : CpuPowerNode} {x : Moved} {d' : Domains} {cpus' : CpuRows}
      (hb : by ≡ cpu_in cpus (caller_of k).0) (hn : node ≡ cpu_in cpus c) (hx : with_domains x d' ≡ in_rows by node)
      (hc : cpus' ≡ stored_in cpus c x.node) where
    same_outcome : with_domains x d' ≡ in_rows (cpu_in cpus (caller_of k).0) (cpu_in cpus c)
    same_outcome = hx ∙ ap (in_rows by) hn ∙ ap (λ (y : CpuPowerNode). in_rows y (cpu_in cpus c)) hb

    -- what the call does to the state
    gives : GivesAny s k (body_of s k) (with_domains x d')
    gives =
        rw (same_outcome
        ∙ ap (in_rows (cpu_in cpus (caller_of k).0)) (sym (cpu_in_lem l c))
        ∙ ap (λ (y : CpuPowerNode). in_rows y (cpu_at s c)) (sym (cpu_in_lem l (caller_of k).0)))
        (any_gives s cpus.affinities (others_off_in_lem cpus l.affinities (cpu_count_of s)) (all_on_in_lem cpus l.affinities (cpu_count_of s)) k)

    kept_parent : x.node.parent ≡ (cpu_in cpus c).parent
    kept_parent =
        ap (λ (o : AnyOutcome). o.moved.node.parent) same_outcome
        ∙ call_parent tree board.platform m cpus.affinities (cpu_in cpus (caller_of k).0) (cpu_in cpus c) d k

    -- and the rows after it stand for the state after it
    next_state : (body_of s k).state ≡ state_in board tree cpus' d' x.mode
    next_state =
        gives.state
        ∙ ap (λ (t : List CpuPowerNode). state_of board tree t d' x.mode)
        (sym (stored_in_lem l c x.node kept_parent) ∙ ap cpus_in (sym hc))

    pub event_taken : {sound : Bool} → sound ≡ true → {shown : CompositeState} → shown ≡ shown_of (state_in board tree cpus' d' x.mode) (named_of k) →
        event_answer x.code shown (state_in board tree cpus' d' x.mode) ≡ event_answer_as sound s k
    unfolding event_answer_as
    event_taken hs hw = rw (hs, hw) (sym (same_answer (body_of s k) gives.code next_state))

  -- 102
  pub event_unsound : {sound : Bool} → sound ≡ false → {shown : CompositeState} → shown ≡ shown_of s (named_of k) →
      event_answer (Err code.NotSound) shown s ≡ event_answer_as sound s k
  unfolding event_answer_as
  event_unsound hs hw = rw (hs, hw)
