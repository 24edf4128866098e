-- What an acceptable topology has.
use Prim.Native.Nat.{ℕ, suc, ◌+◌, ◌<◌, ◌≤◌}
use mathlib.Core.Bool.{true, ◌&&◌, and-eq-true_iff}
use mathlib.Core.List.{List}
use mathlib.Core.Path.{◌≡◌}
use native.Mathlib.Omega.{arith}
use borrow.Author.Tests.{ltb-true, leb-true, eqb-true, lt-ltb, le-leb, eq-eqb}
use lib.Dec.{leb, ltb, eqb}
use lib.ListN.{length}
use Rattle.model.proofs.Below.{every_at}
use Rattle.model.specs.Limits.{cpu_limit, domain_limit}
use Rattle.model.specs.Topology.{entriesb, domains_of, cpus_of, filledb, topologyb}
use Rattle.topology_laws.proofs.Levels.{filled_test}

-- every entry is at least 1, the length is 1 + domains, domains and CPUs are within their limits, the primary CPU exists, and the
-- levels are filled
pub record Accepted (t : List ℕ) (max primary : ℕ) : Type 0 where
  pub entries : entriesb t ≡ true
  pub long : length t ≡ suc (domains_of t max)
  pub few : domains_of t max ≤ domain_limit
  pub fit : cpus_of t max ≤ cpu_limit
  pub exists : primary < cpus_of t max
  pub filled : (above : ℕ) → above < max → domains_of t above < domains_of t (suc above)

module _ (t : List ℕ) (max primary : ℕ) where
  -- a topology that passes the test has all this
  pub accepted : topologyb t max primary ≡ true → Accepted t max primary
  unfolding topologyb
  accepted h =
      let a = (and-eq-true_iff _ (ltb primary (cpus_of t max))).0 h in
      let b = (and-eq-true_iff _ (leb (cpus_of t max) cpu_limit)).0 a.0 in
      let c = (and-eq-true_iff _ (leb (domains_of t max) domain_limit)).0 b.0 in
      let d = (and-eq-true_iff (entriesb t && filledb t max) (eqb (length t) (1 + domains_of t max))).0 c.0 in
      let e = (and-eq-true_iff (entriesb t) (filledb t max)).0 d.0 in
      record {
        entries = e.0;
        long = omega (arith, eqb-true (length t) (1 + domains_of t max) d.1);
        few = leb-true (domains_of t max) domain_limit c.1;
        fit = leb-true (cpus_of t max) cpu_limit b.1;
        exists = ltb-true primary (cpus_of t max) a.1;
        filled = λ above k.
            let test = every_at (λ (i : ℕ). ltb (domains_of t i) (domains_of t (suc i))) max above e.1 k in
            ltb-true (domains_of t above) (domains_of t (suc above)) test;
      }

  -- and one that has it passes
  pub accepted_test : Accepted t max primary → topologyb t max primary ≡ true
  unfolding topologyb
  accepted_test a =
      let filled = filled_test t max a.filled in
      let long = eq-eqb (length t) (1 + domains_of t max) (omega (arith, a.long)) in
      let few = le-leb (domains_of t max) domain_limit a.few in
      let fit = le-leb (cpus_of t max) cpu_limit a.fit in
      let exists = lt-ltb primary (cpus_of t max) a.exists in
      rw (a.entries, filled, long, few, fit, exists)
