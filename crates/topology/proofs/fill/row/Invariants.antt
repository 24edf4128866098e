use Rattle.std.proofs.Common.{◌≡◌, ℕ}
use Rattle.model.specs.Table.{table_of}
use Rattle.topology.proofs.fill.row.Given as goal

-- the places passed are set
abbrev pub invariant-loop-k : goal.invariant-loop-k
invariant-loop-k g l = (b : ℕ → ℕ) → ((k x : ℕ) → goal.F-post g l.fn.byte k x → x ≡ b k) → l.row ≡ table_of g.row.N 0 b l.k
