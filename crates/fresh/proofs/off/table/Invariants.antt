use Rattle.std.proofs.Common.{◌≡◌, ℕ}
use Rattle.model.specs.Table.{table_of}
use Rattle.fresh.proofs.off.table.Given as goal

-- the places passed are used
abbrev pub invariant-loop-k : goal.invariant-loop-k
invariant-loop-k g l =
    (e : ℕ → g.row.T.Denot) → ((k : ℕ) (x : g.row.T.Denot) → goal.F-post g l.fn.entry k x → x ≡ e k)
    → l.table ≡ table_of g.row.N l.fn.nothing e l.k
