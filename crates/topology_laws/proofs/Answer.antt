-- The answer about a board: what it holds, and what it says of the board.
use Prim.Native.Nat.{ℕ}
use mathlib.Core.Bool.{true, false, true≢false}
use mathlib.Core.List.{List}
use mathlib.Core.Path.{◌≡◌, sym, ◌∙◌}
use Rattle.std.specs.Prelude.{Ok}
use Rattle.basics.proofs.Is.{Is}
use Rattle.basics.proofs.Tests.{by}
use Rattle.model.specs.declared.board.TreeAnswer.{TreeAnswer}
use Rattle.model.specs.declared.code.Refusal.TheVariants as code
use Rattle.model.specs.declared.sorts.CpuNumber.{CpuNumber}
use Rattle.model.specs.declared.states.Platform.{Platform}
use Rattle.model.specs.Numbers.{acceptedb}
use Rattle.model.specs.Topology.{boardb}
use Rattle.model.specs.Tree.{tree_of, cpu_parents_of, tree_answer_of}

module _ (p : Platform) (primary : CpuNumber) (t : List ℕ) where
  -- the tree of a board that is acceptable
  abbrev pub made_of : TreeAnswer
  made_of = record { code = Ok tt; tree = tree_of t p.max.0; cpu_parents = cpu_parents_of t p.max.0 }

  pub answer_made : boardb p primary t ≡ true → tree_answer_of p primary t ≡ made_of
  unfolding tree_answer_of
  answer_made h = simp h

  -- the answer says accepted exactly if the board is acceptable
  pub is_answered : Is (acceptedb (tree_answer_of p primary t).code) (boardb p primary t ≡ true)
  unfolding tree_answer_of
  is_answered = record {
    to = λ h. by (boardb p primary t) (λ e. e) (λ e. absurd (true≢false (sym h ∙ simp e)));
    from = λ h. simp h;
  }

  -- where it does not, the board is not
  pub answered_no : acceptedb (tree_answer_of p primary t).code ≡ false → boardb p primary t ≡ false
  answered_no h = by (boardb p primary t) (λ e. absurd (true≢false (sym (is_answered.from e) ∙ h))) (λ e. e)
