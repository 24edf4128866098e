-- The tests of a topology: which of them refuse it, and that the levels are filled follows from the others.
use Prim.Native.Nat.{ℕ, suc, ◌+◌, ◌<◌, ◌≤◌}
use mathlib.Core.Bool.{true, false, ◌&&◌, and-false}
use mathlib.Core.List.{List}
use mathlib.Core.Path.{◌≡◌}
use native.Mathlib.Omega.{arith}
use borrow.Author.Tests.{eqb-true, ne_eqb, le-leb, lt-leb}
use lib.Dec.{leb, ltb, eqb}
use lib.ListN.{length}
use Rattle.basics.proofs.Tests.{by, below_or}
use Rattle.model.specs.Limits.{cpu_limit, domain_limit, entry_limit}
use Rattle.model.specs.Topology.{total_of, entriesb, domains_of, cpus_of, topologyb}
use Rattle.topology_laws.proofs.Accepted.{Accepted, accepted}
use Rattle.topology_laws.proofs.Levels.{down_inside, level_mono, filled_follows}

-- the domains are among the nodes
pub domains_inside : (t : List ℕ) (levels : ℕ) → domains_of t levels ≤ total_of t
domains_inside t levels = omega (arith, level_mono t levels (suc levels) (omega arith), down_inside t levels 0)

module _ (t : List ℕ) (max primary : ℕ) where
  -- too many domains
  pub many_domains : domain_limit < domains_of t max → topologyb t max primary ≡ false
  unfolding topologyb
  many_domains h = simp (lt-leb (domains_of t max) domain_limit h, and-false)

  -- too many entries
  pub many_entries : entry_limit < length t → topologyb t max primary ≡ false
  unfolding topologyb
  many_entries h =
      below_or domain_limit (domains_of t max) many_domains
      (λ few. simp (ne_eqb (length t) (1 + domains_of t max) (λ e. omega arith), and-false))

  -- the tests that are left
  pub tests_left : domains_of t max ≤ domain_limit →
      topologyb t max primary
      ≡ (entriesb t && eqb (length t) (1 + domains_of t max) && leb (cpus_of t max) cpu_limit && ltb primary (cpus_of t max))
  unfolding topologyb
  tests_left h =
      by (entriesb t)
      (λ e. by (eqb (length t) (1 + domains_of t max))
      (λ l. let long : length t ≡ suc (domains_of t max) = omega (arith, eqb-true (length t) (1 + domains_of t max) l) in
      simp (e, l, filled_follows t max e long, le-leb (domains_of t max) domain_limit h))
      (λ l. simp (l, and-false)))
      (λ e. simp e)

  -- a topology that is acceptable with this primary CPU is so with CPU 0
  pub accepted_first : topologyb t max primary ≡ true → Accepted t max 0
  accepted_first h =
      let a = accepted t max primary h in
      record {
        entries = a.entries;
        long = a.long;
        few = a.few;
        fit = a.fit;
        exists = omega (arith, a.exists);
        filled = a.filled;
      }
