-- The parts of the fresh state make it.
use Prim.Native.Nat.{ℕ}
use mathlib.Core.Bool.{Bool, true, false, cond}
use mathlib.Core.List.{List}
use mathlib.Core.Path.{◌≡◌, sym, ap, ◌∙◌}
use lib.Dec.{eqb}
use lib.ListN.{get_or, length}
use Rattle.std.specs.Prelude.{Ok, Err}
use Rattle.model.specs.declared.board.Tree.{Tree}
use Rattle.model.specs.declared.board.TreeAnswer.{TreeAnswer}
use Rattle.model.specs.declared.code.Refusal.TheVariants as code
use Rattle.model.specs.declared.cpu.CpuPowerNode.{CpuPowerNode}
use Rattle.model.specs.declared.sorts.CpuNumber.{CpuNumber}
use Rattle.model.specs.declared.state.FreshAnswer.{FreshAnswer}
use Rattle.model.specs.declared.state.State.{State}
use Rattle.model.specs.declared.state.SuspendMode.TheVariants as mode
use Rattle.model.specs.declared.states.Platform.{Platform}
use Rattle.model.specs.Cpu.{new_of}
use Rattle.model.specs.Fresh.{all_off_of, brought_up, fresh_of, no_state}
use Rattle.model.specs.Limits.{cpu_limit, entry_limit}
use Rattle.model.specs.Node.{no_suspend_state}
use Rattle.model.specs.Numbers.{acceptedb}
use Rattle.model.specs.State.{no_cpu, state_of}
use Rattle.model.specs.States.{off_of}
use Rattle.model.specs.Table.{table_of, domain_row_of, levels_filled_of}
use Rattle.model.specs.Topology.{boardb}
use Rattle.model.specs.Tree.{no_parent, tree_of, cpu_parents_of, tree_answer_of}
use Rattle.topology_laws.proofs.Answer.{is_answered, answered_no}

module _ (p : Platform) (primary : CpuNumber) (t : List ℕ) where
  -- what the answer about the board says of it
  pub board_yes : (made : TreeAnswer) (b : Bool) → made ≡ tree_answer_of p primary t → b ≡ acceptedb made.code → b ≡ true →
      boardb p primary t ≡ true
  board_yes made b is said true-is = (is_answered p primary t).to (ap (λ (x : TreeAnswer). acceptedb x.code) (sym is) ∙ sym said ∙ true-is)

  pub board_no : (made : TreeAnswer) (b : Bool) → made ≡ tree_answer_of p primary t → b ≡ acceptedb made.code → b ≡ false →
      boardb p primary t ≡ false
  board_no made b is said false-is = answered_no p primary t (ap (λ (x : TreeAnswer). acceptedb x.code) (sym is) ∙ sym said ∙ false-is)

  -- the rows of a state in which all is off
  pub off_is : (tree : Tree) (parents row states requests suspends copies : List ℕ) (cpus : List CpuPowerNode) (off : ℕ) →
      tree ≡ tree_of t p.max.0 → parents ≡ cpu_parents_of t p.max.0 → off ≡ off_of p →
      row ≡ table_of entry_limit 0 (λ i. get_or t i 0) (length t) →
      cpus ≡ table_of cpu_limit no_cpu (λ c. new_of (record { 0 = get_or parents c 0 }) off) tree.cpu_count →
      states ≡ domain_row_of (λ _. off) tree.domain_count →
      requests ≡ levels_filled_of off tree.cpu_count p.max.0 →
      suspends ≡ levels_filled_of no_suspend_state tree.cpu_count p.max.0 →
      copies ≡ domain_row_of (λ k. cond (eqb (get_or tree.parents k 0) no_parent) 0 off) tree.domain_count →
      state_of (record { platform = p; primary = primary; topology = row }) tree cpus
      (record { states = states; requests = requests; suspends = suspends; copies = copies }) mode.PlatformCoordinated
      ≡ all_off_of p primary t
  unfolding tree_of
  off_is tree parents row states requests suspends copies cpus off is above o r c s q u k = rw (r, c, s, q, u, k, above, o, is)

  -- the answer where the board is acceptable
  pub fresh_yes : (s state : State) → boardb p primary t ≡ true → s ≡ all_off_of p primary t → state ≡ brought_up s primary.0 →
      ◌≡◌ {A = FreshAnswer} (record { code = Ok tt; state = state }) (fresh_of p primary t)
  unfolding fresh_of
  fresh_yes s state h e f = rw (f, e, h)

  -- and where it is not
  pub fresh_no : (state : State) → boardb p primary t ≡ false → state ≡ no_state →
      ◌≡◌ {A = FreshAnswer} (record { code = Err code.BadBoard; state = state }) (fresh_of p primary t)
  unfolding fresh_of
  fresh_no state h e = rw (e, h)
