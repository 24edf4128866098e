-- What is built of rows is the tree, and what is answered is the answer.
use Prim.Native.Nat.{ℕ}
use mathlib.Core.Bool.{true, false}
use mathlib.Core.List.{List}
use mathlib.Core.Path.{◌≡◌, ap}
use lib.ListN.{replicate}
use Rattle.std.specs.Prelude.{Ok, Err}
use Rattle.model.specs.declared.board.Tree.{Tree}
use Rattle.model.specs.declared.board.TreeAnswer.{TreeAnswer}
use Rattle.model.specs.declared.code.Refusal.TheVariants as code
use Rattle.model.specs.declared.sorts.CpuNumber.{CpuNumber}
use Rattle.model.specs.declared.states.Platform.{Platform}
use Rattle.model.specs.Assign.{SpanRows, span_rows, all_assigned_of}
use Rattle.model.specs.Limits.{cpu_limit}
use Rattle.model.specs.Table.{domain_row_of}
use Rattle.model.specs.Topology.{domains_of, cpus_of, boardb}
use Rattle.model.specs.Tree.{parent_byte_of, child_span_of, tree_of, cpu_parents_of, no_tree, tree_answer_of}
use Rattle.built.proofs.Built.{no_spans, spans_built}
use Rattle.topology_laws.proofs.Accepted.{Accepted}

-- the rows that are built are the tree's
pub tree_is : (t : List ℕ) (max : ℕ) (a : Accepted t max 0) (domains cpus : ℕ) (parents starts ends firsts lasts : List ℕ) →
    domains ≡ domains_of t max → cpus ≡ cpus_of t max → parents ≡ domain_row_of (parent_byte_of t) (domains_of t max) →
    span_rows starts ends ≡ all_assigned_of t max parents (cpus_of t max) no_spans →
    firsts ≡ domain_row_of (λ k. (child_span_of t max k).start) (domains_of t max) →
    lasts ≡ domain_row_of (λ k. (child_span_of t max k).end) (domains_of t max) →
    ◌≡◌ {A = Tree} (record {
      domain_count = domains;
      cpu_count = cpus;
      parents = parents;
      cpu_starts = starts;
      cpu_ends = ends;
      child_starts = firsts;
      child_ends = lasts;
    }) (tree_of t max)
unfolding tree_of
tree_is t max a domains cpus parents starts ends firsts lasts d c p s f l =
    let built : span_rows starts ends ≡ span_rows (tree_of t max).cpu_starts (tree_of t max).cpu_ends = rw (s, p) (spans_built a) in
    rw (f, l, ap (λ (r : SpanRows). r.starts) built, ap (λ (r : SpanRows). r.ends) built, p, d, c)

module _ (p : Platform) (primary : CpuNumber) (t : List ℕ) where
  -- the answer where the board is acceptable
  pub answer_is : (tree : Tree) (parents : List ℕ) → boardb p primary t ≡ true → tree ≡ tree_of t p.max.0 →
      parents ≡ cpu_parents_of t p.max.0 →
      ◌≡◌ {A = TreeAnswer} (record { code = Ok tt; tree = tree; cpu_parents = parents }) (tree_answer_of p primary t)
  unfolding tree_answer_of
  answer_is tree parents good is row = rw (row, is, good)

  -- and where it is not
  pub refusal_is : (tree : Tree) → boardb p primary t ≡ false → tree ≡ no_tree →
      ◌≡◌ {A = TreeAnswer} (record { code = Err code.BadBoard; tree = tree; cpu_parents = replicate cpu_limit 0 }) (tree_answer_of p primary t)
  unfolding tree_answer_of
  refusal_is tree bad is = rw (is, bad)
