-- The first i pass, whatever the law takes.
use Rattle.std.proofs.Common.{Bool, true, List, get_or, ◌<◌, ◌≡◌, ℕ}
use Rattle.lend.specs.Callee.{Gives, GivesAt}
use Rattle.lend.specs.Walk.{SaysEveryWith}
use Rattle.lend.proofs.every_with.every_with.Given as goal

abbrev pub invariant-loop-i : goal.invariant-loop-i
invariant-loop-i g l =
    (d : _) (p : _ → ℕ → _ → Bool) (w : List _ → ℕ → _ → Bool) → SaysEveryWith d p w
    → ((i : ℕ) → i < l.n → GivesAt (λ s r. goal.A-post g l.at s i r) l.s (get_or l.s i d))
    → ((i : ℕ) → i < l.n → Gives (goal.T-post g l.test (get_or l.s i d) i l.x) (p (get_or l.s i d) i l.x))
    → w l.s l.i l.x ≡ true
