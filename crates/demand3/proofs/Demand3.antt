-- Demand 3: after any history of any accepted board the stored state of each domain is the shallowest of what the CPUs under it stand
-- for, by the history alone.
use Prim.Native.Nat.{ℕ, suc, ◌<◌, ◌≤◌}
use mathlib.Core.Bool.{true, false}
use mathlib.Core.List.{List}
use mathlib.Core.Path.{◌≡◌, sym, ap, ◌∙◌}
use native.Mathlib.Omega.{arith}
use borrow.Author.Tests.{eq-eqb, ltb-true}
use lib.ListN.{take}
use Rattle.history.specs.History.{Done, state_after, history_of}
use Rattle.history.specs.Standing.{standing, stands_first}
use Rattle.history.specs.Under.{underb, shallowest_of}
use Rattle.kept.proofs.Fresh.{fresh_kept}
use Rattle.kept.specs.Lengths.{SoundRecord}
use Rattle.minimum.proofs.Minimum.{Counted, Met, minimum_met, minimum_same}
use Rattle.model.proofs.Spans.{in_span}
use Rattle.model.specs.Calls.{runningb}
use Rattle.model.specs.Composite.{state_at}
use Rattle.model.specs.Fresh.{board_of, fresh_of}
use Rattle.model.specs.State.{platform_at, cpu_count_of, cpu_at, asked_of, domain_state_at, request_at}
use Rattle.model.specs.States.{run, off_of, kind_of, deeperb}
use Rattle.model.specs.Topology.{domains_of, cpus_of, topb, parent_of, over_of, level_of, boardb}
use Rattle.model.specs.Tree.{tree_of, cpu_span_of}
use Rattle.model.specs.declared.board.Board.{Board}
use Rattle.model.specs.declared.board.Tree.{Tree}
use Rattle.model.specs.declared.call.Call.{Call}
use Rattle.model.specs.declared.sorts.CpuNumber.{CpuNumber}
use Rattle.model.specs.declared.state.State.{State}
use Rattle.model.specs.declared.states.Platform.{Platform}
use Rattle.topology_laws.proofs.Paths.{has_level}
use Rattle.topology_laws.proofs.Spans.{span_over, span_inside}
use Rattle.demand3.specs.Demand.{Demand3}
use Rattle.demand3.proofs.Board.{SoundOf, minimum_of_lem, no_deeper_than_domain_of, no_deeper_than_cpu_of, over_running_of, run_runs_of}
use Rattle.demand3.proofs.Deeper.{asks_request}
use Rattle.demand3.proofs.Fresh.{fits, fresh_board, fresh_tree, fresh_topology, fresh_cpus, fresh_asks}
use Rattle.demand3.proofs.History.{Of, history_of_lem, asks_stand}

module _ (p : Platform) (primary : CpuNumber) (t : List ℕ) (yes : boardb p primary t ≡ true) (calls : List Call) where
  abbrev max : ℕ
  max = p.max.0

  abbrev fresh : State
  fresh = (fresh_of p primary t).state

  -- the state after the calls, and their history
  abbrev s : State
  s = state_after fresh calls

  abbrev h : List Done
  h = history_of fresh calls

  start : Of (board_of p primary t) (tree_of t max) fresh
  start = record {
    kept = fresh_kept p primary t yes;
    board = fresh_board p primary t yes;
    tree = fresh_tree p primary t yes;
  }

  last : Of (board_of p primary t) (tree_of t max) s
  last = history_of_lem (board_of p primary t) (tree_of t max) calls fresh start

  -- every state of every run is sound
  pub reached : SoundRecord (state_after (fresh_of p primary t).state calls)
  reached = last.kept

  -- and of the same board
  pub reached_of : SoundOf p t (state_after (fresh_of p primary t).state calls)
  reached_of = record {
    sound = reached.sound;
    platform = ap (λ (b : Board). b.platform) last.board;
    topology =
        ap (λ (b : Board). take (suc s.tree.domain_count) b.topology) last.board
        ∙ ap (λ (u : Tree). take (suc u.domain_count) (board_of p primary t).topology) last.tree
        ∙ fresh_topology p primary t yes;
  }

  -- each CPU asks for what it stands for
  stands : (c l : ℕ) → c < cpus_of t max → l ≤ max → state_at (asked_of s c) l ≡ standing p primary h c l
  stands c l is b =
      asks_stand (board_of p primary t) (tree_of t max) c (omega (arith, fresh_cpus p primary t yes)) calls fresh
      (stands_first p c primary) start (λ n g. fresh_asks p primary t yes c n is g) l b

  -- its stored state is what it stands for at level 0
  pub cpu_stands : (c : ℕ) → c < cpus_of t max → (cpu_at s c).local_state ≡ standing p primary h c 0
  cpu_stands c is = stands c 0 is (omega arith)

  -- and its stored requests are what it stands for above
  pub request_stands : (c l : ℕ) → c < cpus_of t max → 1 ≤ l → l ≤ max → request_at s l c ≡ standing p primary h c l
  request_stands c l is a b =
      let m = ap (λ (x : Platform). x.max.0) reached_of.platform in
      sym (asks_request s reached.sound c l a (omega (arith, m))) ∙ stands c l is b

  -- each domain has the shallowest state of those that the CPUs under it stand for
  pub demand_3 : (k : ℕ) → k < domains_of t max → domain_state_at s k ≡ shallowest_of p primary t h k
  demand_3 k is =
      let level = level_of t max k in
      let levels = has_level (fits p primary t yes) k is in
      let under = underb t max k in
      let n = cpus_of t max in
      minimum_of_lem p t s reached_of k is
      ∙ minimum_same n n under under (request_at s level) (λ (c : ℕ). standing p primary h c level) (off_of p)
      (record { counted = λ i c. c; same = λ i c. request_stands i level c.below levels.0 levels.1 })
      (record { counted = λ i c. c; same = λ i c. sym (request_stands i level c.below levels.0 levels.1) })

  -- there is a CPU under each domain, and one of them stands for the domain's state
  pub some_cpu : (k : ℕ) → k < domains_of t max →
      Met (cpus_of t max) (underb t max k) (λ c. standing p primary h c (level_of t max k)) (domain_state_at s k)
  some_cpu k is =
      let a = fits p primary t yes in
      let level = level_of t max k in
      let levels = has_level a k is in
      let span = cpu_span_of t max k in
      let inside = span_inside a k is in
      let c = span.start in
      let cpu : span.start < cpus_of t max = omega (arith, inside.0, inside.1) in
      let counted : Counted (cpus_of t max) (underb t max k) span.start = record {
        below = cpu;
        is = eq-eqb _ _ (span_over a k is c cpu (in_span span c (omega arith) inside.0));
      } in
      let m = ap (λ (x : Platform). x.max.0) reached_of.platform in
      let states = ap (λ (x : Platform). x.states) reached_of.platform in
      let exists : c < cpu_count_of s = omega (arith, cpu, ap (λ (u : Tree). u.cpu_count) last.tree, fresh_cpus p primary t yes) in
      let range = ltb-true (state_at (asked_of s c) level) (platform_at s).states ((reached.sound.cpus c exists).in_range level (omega (arith, m, levels.1))) in
      rw (demand_3 k is)
      (minimum_met (underb t max k) (λ (i : ℕ). standing p primary h i level) (off_of p) (cpus_of t max) c counted
      (omega (arith, range, states, stands c level cpu levels.1)))

  -- each domain over a running CPU runs
  pub over_running : (c level : ℕ) → c < cpus_of t max → runningb (cpu_at s c) ≡ true → 1 ≤ level → level ≤ max →
      domain_state_at s (over_of t max level c) ≡ run
  over_running = over_running_of p t s reached_of

  -- and each domain over a CPU that stands for RUN
  pub over_standing : (c level : ℕ) → c < cpus_of t max → standing p primary h c 0 ≡ run → 1 ≤ level → level ≤ max →
      domain_state_at s (over_of t max level c) ≡ run
  over_standing c level is e = over_running c level is (run_runs_of p t s reached_of c is (cpu_stands c is ∙ e))

  -- no domain is of a deeper kind than a domain directly below it
  pub no_deeper_than_domain : (k : ℕ) → k < domains_of t max → topb t k ≡ false →
      deeperb (kind_of p (domain_state_at s (parent_of t k))) (kind_of p (domain_state_at s k)) ≡ false
  no_deeper_than_domain = no_deeper_than_domain_of p t s reached_of

  -- nor than a CPU directly below it
  pub no_deeper_than_cpu : (c : ℕ) → c < cpus_of t max →
      deeperb (kind_of p (domain_state_at s (over_of t max 1 c))) (kind_of p (cpu_at s c).local_state) ≡ false
  no_deeper_than_cpu = no_deeper_than_cpu_of p t s reached_of

  -- all of it
  pub demand : Demand3 p primary t (history_of (fresh_of p primary t).state calls) (state_after (fresh_of p primary t).state calls)
  demand = record {
    cpu_stands = cpu_stands;
    request_stands = request_stands;
    shallowest = demand_3;
    over_running = over_running;
    over_standing = over_standing;
    no_deeper_than_domain = no_deeper_than_domain;
    no_deeper_than_cpu = no_deeper_than_cpu;
  }
