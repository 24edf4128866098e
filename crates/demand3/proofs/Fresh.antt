-- The fresh state: its board, its tree, and what each CPU asks for in it.
use Prim.Native.Nat.{ℕ, suc, ◌<◌, ◌≤◌}
use mathlib.Core.Bool.{true, false, and-eq-true_iff}
use mathlib.Core.List.{List}
use mathlib.Core.Path.{◌≡◌, refl, ap, ◌∙◌}
use native.Mathlib.Omega.{arith}
use borrow.Author.Tests.{eqb-true, eqb-false}
use lib.Dec.{eqb}
use lib.ListN.{get_or, length, take}
use lib.Seq.{get_or-set_same, get_or-set_other}
use Rattle.basics.proofs.Tests.{by}
use Rattle.history.specs.Standing.{stands_first}
use Rattle.model.proofs.Tables.{length_table, table_at}
use Rattle.model.specs.Composite.{state_at}
use Rattle.model.specs.Cpu.{new_of, onb}
use Rattle.model.specs.Fresh.{board_of, cpus_off_of, running_of, all_off_of, brought_up, fresh_of}
use Rattle.model.specs.Limits.{cpu_limit}
use Rattle.model.specs.Sound.{Sound}
use Rattle.model.specs.State.{no_cpu, max_at, cpu_count_of, cpu_at, asked_of}
use Rattle.model.specs.States.{run, off_of, platformb}
use Rattle.model.specs.Topology.{domains_of, cpus_of, topologyb, boardb}
use Rattle.model.specs.Tree.{tree_of, cpu_parents_of}
use Rattle.model.specs.declared.board.Board.{Board}
use Rattle.model.specs.declared.board.Tree.{Tree}
use Rattle.model.specs.declared.cpu.CpuPowerNode.{CpuPowerNode}
use Rattle.model.specs.declared.sorts.CpuNumber.{CpuNumber}
use Rattle.model.specs.declared.state.State.{State}
use Rattle.model.specs.declared.states.Platform.{Platform}
use Rattle.sound_laws.proofs.Fresh.{fresh_sound, topology_stored}
use Rattle.topology_laws.proofs.Accepted.{Accepted, accepted}

module _ (p : Platform) (primary : CpuNumber) (t : List ℕ) (yes : boardb p primary t ≡ true) where
  abbrev max : ℕ
  max = p.max.0

  abbrev fresh : State
  fresh = (fresh_of p primary t).state

  -- its topology is acceptable
  pub fits : Accepted t max primary.0
  fits = accepted t max primary.0 ((and-eq-true_iff (platformb p) (topologyb t max primary.0)).0 yes).1

  fresh_is : (fresh_of p primary t).state ≡ brought_up (all_off_of p primary t) primary.0
  unfolding fresh_of
  fresh_is = simp yes

  pub fresh_board : (fresh_of p primary t).state.board ≡ board_of p primary t
  fresh_board = ap (λ (s : State). s.board) fresh_is

  pub fresh_tree : (fresh_of p primary t).state.tree ≡ tree_of t max
  fresh_tree = ap (λ (s : State). s.tree) fresh_is

  -- the topology is what is stored of it
  pub fresh_topology : take (suc (tree_of t max).domain_count) (board_of p primary t).topology ≡ t
  unfolding tree_of
  fresh_topology = topology_stored t (domains_of t max) fits.long fits.few

  pub fresh_cpus : (tree_of t max).cpu_count ≡ cpus_of t max
  unfolding tree_of
  fresh_cpus = refl

  -- the primary is On and RUN, and the others are Off
  wide : length (cpus_off_of p t) ≡ cpu_limit
  wide = length_table cpu_limit no_cpu (λ (i : ℕ). new_of (record { 0 = get_or (cpu_parents_of t max) i 0 }) (off_of p)) (cpus_of t max)

  primary_is : cpu_at fresh primary.0 ≡ running_of (cpu_at (all_off_of p primary t) primary.0)
  primary_is =
      ap (λ (s : State). cpu_at s primary.0) fresh_is
      ∙ get_or-set_same (cpus_off_of p t) primary.0 (running_of (cpu_at (all_off_of p primary t) primary.0)) no_cpu
      (omega (arith, wide, fits.exists, fits.fit))

  other_is : (c : ℕ) → c < cpus_of t max → (c ≡ primary.0 → ⊥) →
      cpu_at fresh c ≡ new_of (record { 0 = get_or (cpu_parents_of t max) c 0 }) (off_of p)
  other_is c h n =
      ap (λ (s : State). cpu_at s c) fresh_is
      ∙ get_or-set_other (cpus_off_of p t) primary.0 c (running_of (cpu_at (all_off_of p primary t) primary.0)) no_cpu n
      ∙ table_at cpu_limit no_cpu (λ (i : ℕ). new_of (record { 0 = get_or (cpu_parents_of t max) i 0 }) (off_of p)) (cpus_of t max) c no_cpu h
      (omega (arith, fits.fit))

  -- at first each CPU asks for what it stands for
  pub fresh_asks : (c l : ℕ) → c < cpus_of t max → l ≤ max → state_at (asked_of fresh c) l ≡ stands_first p c primary l
  fresh_asks c l h b =
      let sound : Sound fresh = fresh_sound p primary t yes in
      let is : c < cpu_count_of fresh = omega (arith, ap (λ (u : Tree). u.cpu_count) fresh_tree, fresh_cpus) in
      let high : l ≤ max_at fresh = omega (arith, ap (λ (x : Board). x.platform.max.0) fresh_board) in
      by (eqb c primary.0)
      (λ e.
      let own = ap (cpu_at fresh) (eqb-true c primary.0 e) ∙ primary_is in
      let on : onb (cpu_at fresh c).affinity_info ≡ true = ap (λ (r : CpuPowerNode). onb r.affinity_info) own in
      let runs : (cpu_at fresh c).local_state ≡ run = ap (λ (r : CpuPowerNode). r.local_state) own in
      simp e ((sound.cpus c is).running on runs l high))
      (λ e.
      let own = other_is c h (eqb-false c primary.0 e) in
      let off : onb (cpu_at fresh c).affinity_info ≡ false = ap (λ (r : CpuPowerNode). onb r.affinity_info) own in
      simp e ((sound.cpus c is).off off l high ∙ ap (λ (x : Board). off_of x.platform) fresh_board))
