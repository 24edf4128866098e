-- Demand 3 from a script's bytes: after each event that its run takes, and in what its answer records show.
use Prim.Native.Nat.{ℕ, ◌+◌, ◌*◌, ◌≤◌}
use mathlib.Core.List.{List, [], ◌∷◌, ◌++◌}
use mathlib.Core.Path.{◌≡◌, sym, ap, ◌∙◌}
use native.Mathlib.Omega.{arith}
use lib.ListN.{length, take, drop}
use Rattle.std.specs.Prelude.{Ok}
use Rattle.demand3.proofs.Board.{SoundOf}
use Rattle.demand3.proofs.Demand3.{reached, reached_of, demand}
use Rattle.demand3.specs.Demand.{Demand3}
use Rattle.history.specs.History.{state_after, history_of}
use Rattle.kept.specs.Lengths.{SoundRecord}
use Rattle.model.specs.Calls.{call_of}
use Rattle.model.specs.State.{max_at}
use Rattle.model.specs.declared.call.Call.{Call}
use Rattle.model.specs.declared.code.Refusal.TheVariants as code
use Rattle.model.specs.declared.state.State.{State}
use Rattle.model.specs.declared.states.Platform.{Platform}
use Rattle.script.specs.AnswerRecord.{answer_size, named_of, shown_of, answer_bytes}
use Rattle.script.specs.Run.{topology_in, start_of, record_of_event, event_answer_of}
use Rattle.script_demand.proofs.Board.{board_fresh, board_in_lem}
use Rattle.script_demand.proofs.First.{taken_first}
use Rattle.script_demand.proofs.Records.{state_next, record_at}
use Rattle.script_demand.proofs.Shown.{shown_stands}
use Rattle.script_demand.proofs.Taken.{MadeBy, run_made}
use Rattle.script_demand.specs.Board.{BoardIn}
use Rattle.script_demand.specs.Shown.{shown_by}
use Rattle.script_demand.specs.Taken.{records_of, script_calls, script_run}

-- a script that starts: its first record is a board that is acceptable
module _ (l : List ℕ) (b : BoardIn l) where
  abbrev p : Platform
  p = b.platform

  abbrev t : List ℕ
  t = topology_in b.next l

  abbrev start : State
  start = (start_of l).state

  -- after any calls the state is sound
  sound_after : (ks : List Call) → SoundRecord (state_after start ks)
  sound_after ks = rw (board_fresh l b) (reached p b.primary t b.accepted ks)

  of_after : (ks : List Call) → SoundOf p t (state_after start ks)
  of_after ks = rw (board_fresh l b) (reached_of p b.primary t b.accepted ks)

  -- and is as demand 3 asks
  demand_after : (ks : List Call) → Demand3 p b.primary t (history_of start ks) (state_after start ks)
  demand_after ks = rw (board_fresh l b) (demand p b.primary t b.accepted ks)

  module _ (budget room : ℕ) where
    -- the calls that the run takes from the bytes
    abbrev calls : List Call
    calls = script_calls budget room l

    made : MadeBy 0 start calls (script_run budget room l)
    made = run_made budget room (drop (start_of l).next l) 0 start

    -- it takes as many events as it takes calls
    pub script_events : (script_run budget room l).answer.events ≡ length (script_calls budget room l)
    script_events = omega (arith, made.events)

    -- with a budget of n it ends in the state after the first n of them
    pub event_state : (n : ℕ) → n ≤ budget →
        (script_run n room l).answer.state ≡ state_after (start_of l).state (take n (script_calls budget room l))
    event_state n h =
        (run_made n room (drop (start_of l).next l) 0 start).state
        ∙ ap (state_after start) (taken_first n budget room (max_at start) (drop (start_of l).next l) h)

    -- after each event the state is sound
    pub event_sound : (n : ℕ) → SoundRecord (state_after (start_of l).state (take n (script_calls budget room l)))
    event_sound n = sound_after (take n calls)

    -- and as demand 3 asks
    pub event_demand_3 : (n : ℕ) →
        Demand3 b.platform b.primary (topology_in b.next l)
        (history_of (start_of l).state (take n (script_calls budget room l)))
        (state_after (start_of l).state (take n (script_calls budget room l)))
    event_demand_3 n = demand_after (take n calls)

    -- so is the state in which the run ends
    pub script_demand_3 :
        Demand3 b.platform b.primary (topology_in b.next l)
        (history_of (start_of l).state (script_calls budget room l)) (script_run budget room l).answer.state
    script_demand_3 = rw made.state (demand_after calls)

    -- each answer record has the call's code, and shows what the CPUs stand for after it, by the history alone
    pub event_record : (before : List Call) (k : Call) (rest : List Call) → script_calls budget room l ≡ before ++ (k ∷ rest) →
        take answer_size (drop (answer_size * length before) (script_run budget room l).bytes)
        ≡ answer_bytes (length before + 1) (call_of (state_after (start_of l).state before) k).code
        (shown_by b.platform b.primary (topology_in b.next l) (history_of (start_of l).state (before ++ (k ∷ []))) (named_of k))
    unfolding event_answer_of
    event_record before k rest e =
        let z : 0 + length before + 1 ≡ length before + 1 = omega arith in
        let ks = before ++ (k ∷ []) in
        let at = length before + 1 in
        let gave = (call_of (state_after start before) k).code in
        ap (λ (m : List ℕ). take answer_size (drop (answer_size * length before) m)) (made.bytes ∙ ap (records_of 0 start) e)
        ∙ record_at before k rest 0 start
        ∙ ap (λ (n : ℕ). record_of_event n (event_answer_of (state_after start before) k)) z
        ∙ ap (λ (s : State). answer_bytes at gave (shown_of s (named_of k))) (sym (state_next before k start))
        ∙ ap (answer_bytes at gave)
        (shown_stands p b.primary t (history_of start ks) (state_after start ks) (of_after ks) (demand_after ks) (named_of k))

-- from the bytes alone: where a script starts, the state after each event that its run takes is as demand 3 asks
pub bytes_demand_3 : (l : List ℕ) (starts : (start_of l).code ≡ Ok tt) (budget room n : ℕ) → n ≤ budget →
    let b = board_in_lem l starts in
    Demand3 b.platform b.primary (topology_in b.next l)
    (history_of (start_of l).state (take n (script_calls budget room l))) (script_run n room l).answer.state
bytes_demand_3 l starts budget room n h =
    let b = board_in_lem l starts in
    rw (event_state l b budget room n h) (event_demand_3 l b budget room n)
