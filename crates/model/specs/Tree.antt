-- docs/REFERENCE.md, 'The tree'.
use Rattle.std.specs.Prelude.{ℕ, suc, ◌-◌, cond, List, eqb, get_or, replicate, Ok, Err}
use Rattle.model.specs.declared.board.Tree.{Tree}
use Rattle.model.specs.declared.board.TreeAnswer.{TreeAnswer}
use Rattle.model.specs.declared.code.Refusal.TheVariants as code
use Rattle.model.specs.declared.node.Span.{Span}
use Rattle.model.specs.declared.sorts.CpuNumber.{CpuNumber}
use Rattle.model.specs.declared.states.Platform.{Platform}
use Rattle.model.specs.Limits.{cpu_limit, domain_limit}
use Rattle.model.specs.Span.{empty_span}
use Rattle.model.specs.Table.{domain_row_of, cpu_row_of}
use Rattle.model.specs.Topology.{start_of, down_of, domains_of, cpus_of, topb, parent_of, level_of, cpu_node_of, boardb}

-- the byte where a domain has no parent
abbrev pub no_parent : ℕ
no_parent = 255

module _ (t : List ℕ) where
  -- the byte of a domain's parent
  abbrev pub parent_byte_of : ℕ → ℕ
  parent_byte_of k = cond (topb t k) no_parent (parent_of t k)

  module _ (max : ℕ) where
    -- the CPUs under domain k are the nodes as many levels below it as its level says
    abbrev pub cpu_span_of : ℕ → Span
    cpu_span_of k = record {
      start = down_of t (level_of t max k) k - domains_of t max;
      end = down_of t (level_of t max k) (suc k) - domains_of t max;
    }

    -- the domains directly below domain k: its children, but below a level-1 domain are CPUs alone
    abbrev pub child_span_of : ℕ → Span
    child_span_of k = cond (eqb (level_of t max k) 1) empty_span (record { start = start_of t k; end = start_of t (suc k) })

    -- the tree that the topology describes
    unfoldable pub tree_of : Tree
    tree_of = record {
      domain_count = domains_of t max;
      cpu_count = cpus_of t max;
      parents = domain_row_of parent_byte_of (domains_of t max);
      cpu_starts = domain_row_of (λ k. (cpu_span_of k).start) (domains_of t max);
      cpu_ends = domain_row_of (λ k. (cpu_span_of k).end) (domains_of t max);
      child_starts = domain_row_of (λ k. (child_span_of k).start) (domains_of t max);
      child_ends = domain_row_of (λ k. (child_span_of k).end) (domains_of t max);
    }

    -- the domain directly above each CPU
    unfoldable pub cpu_parents_of : List ℕ
    cpu_parents_of = cpu_row_of (λ c. parent_of t (cpu_node_of t max c)) (cpus_of t max)

-- a row of domains of which there is none
abbrev pub no_row : List ℕ
no_row = replicate domain_limit 0

-- no tree
abbrev pub no_tree : Tree
no_tree = record {
  domain_count = 0;
  cpu_count = 0;
  parents = no_row;
  cpu_starts = no_row;
  cpu_ends = no_row;
  child_starts = no_row;
  child_ends = no_row;
}

-- the tree of a board that is acceptable; of another 101, and no tree
unfoldable pub tree_answer_of : Platform → CpuNumber → List ℕ → TreeAnswer
tree_answer_of p primary t =
    cond (boardb p primary t)
    (record { code = Ok tt; tree = tree_of t p.max.0; cpu_parents = cpu_parents_of t p.max.0 })
    (record { code = Err code.BadBoard; tree = no_tree; cpu_parents = replicate cpu_limit 0 })

-- the stored span of the CPUs under domain k
abbrev pub cpu_span_at : Tree → ℕ → Span
cpu_span_at tree k = record { start = get_or tree.cpu_starts k 0; end = get_or tree.cpu_ends k 0 }

-- the stored span of the domains directly below domain k
abbrev pub child_span_at : Tree → ℕ → Span
child_span_at tree k = record { start = get_or tree.child_starts k 0; end = get_or tree.child_ends k 0 }

-- the stored byte of domain k's parent
abbrev pub parent_at : Tree → ℕ → ℕ
parent_at tree k = get_or tree.parents k 0
