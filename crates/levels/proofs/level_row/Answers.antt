use Rattle.std.proofs.Common.{ℕ, ◌+◌, ◌≡◌, ◌∙◌, ap, get_or, List, replicate, arith, refl}
use mathlib.Core.Path.{fun_ext}
use Rattle.model.specs.Limits.{cpu_limit}
use Rattle.model.specs.Table.{filled_of}
use Rattle.model.proofs.Tables.{filled_none, filled_turn}
use Rattle.levels.proofs.Part.{start_at_lem}
use Rattle.levels.proofs.level_row.Goals as goal

-- what stands so many places past a start
abbrev past : List ℕ → ℕ → ℕ → ℕ
past row from i = get_or row (from + i) 0

pub loop-i-init : goal.loop-i-init
loop-i-init c = filled_none (past c.args.row.now c.place-from.result) 0 (replicate cpu_limit 0)

pub loop-i-preserved : goal.loop-i-preserved
loop-i-preserved c =
    filled_turn (past c.args.row.now c.place-from.result) (replicate cpu_limit 0) c.loop-i.i c.loop-i.x-items _ c.at.result c.loop-i.invariant
    c.at.ensures refl

pub returns : goal.returns
returns c =
    let z : c.loop-i.i ≡ cpu_limit = omega arith in
    let at = fun_ext (start_at_lem c.args.row.now c.args.level.0 c.place-from.result c.place-from.ensures) in
    c.loop-i.invariant ∙ ap (λ (n : ℕ). filled_of (past c.args.row.now c.place-from.result) 0 n (replicate cpu_limit 0)) z
    ∙ ap (λ (f : ℕ → ℕ). filled_of f 0 cpu_limit (replicate cpu_limit 0)) at
