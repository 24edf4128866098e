use Rattle.std.proofs.Common.{◌≤◌, arith, rules, sym, ◌∙◌}
use Rattle.model.specs.Limits.{domain_limit}
use Rattle.model.specs.Topology.{domains_of}
use Rattle.topology.proofs.Acceptance.{accepted_first, many_domains, many_entries, tests_left}
use Rattle.topology.proofs.accept.Topology.new.Goals as goal

pub returns-in_err-entries-clause-tested : goal.returns-in_err-entries-clause-tested
returns-in_err-entries-clause-tested c =
    let a = c.args in
    rw c.from_residual.ensures (sym (many_entries a.list.now a.max a.primary (search rules)))

pub returns-then-domains-gt-DOMAINS-clause-tested : goal.returns-then-domains-gt-DOMAINS-clause-tested
returns-then-domains-gt-DOMAINS-clause-tested c =
    let a = c.args in
    let e = c.in_ok-entries in
    rw (← e.ensures.kept) (sym (many_domains e.entries a.max a.primary (omega (arith, c.domains-domains.ensures))))

pub invariant_of-result : goal.invariant_of-result
invariant_of-result c =
    let a = c.args in
    let e = c.in_ok-entries.entries in
    let few : domains_of e a.max ≤ domain_limit = omega (arith, c.domains-domains.ensures) in
    let good = simp (c.none_is_zero.ensures, c.len.ensures, c.cpus-cpus.ensures, c.domains-domains.ensures) at c.if-none_is_zero-len.true in
    accepted_first e a.max a.primary (tests_left e a.max a.primary few ∙ good)

pub returns-then-none_is_zero-len-clause-tested : goal.returns-then-none_is_zero-len-clause-tested
returns-then-none_is_zero-len-clause-tested c =
    let a = c.args in
    let e = c.in_ok-entries.entries in
    let few : domains_of e a.max ≤ domain_limit = omega (arith, c.domains-domains.ensures) in
    let good = simp (c.none_is_zero.ensures, c.len.ensures, c.cpus-cpus.ensures, c.domains-domains.ensures) at c.if-none_is_zero-len.true in
    rw (← c.in_ok-entries.ensures.kept) (sym (tests_left e a.max a.primary few ∙ good))

pub returns-clause-tested : goal.returns-clause-tested
returns-clause-tested c =
    let a = c.args in
    let e = c.in_ok-entries.entries in
    let few : domains_of e a.max ≤ domain_limit = omega (arith, c.domains-domains.ensures) in
    let bad = simp (c.none_is_zero.ensures, c.len.ensures, c.cpus-cpus.ensures, c.domains-domains.ensures) at c.if-none_is_zero-len.false in
    rw (← c.in_ok-entries.ensures.kept) (sym (tests_left e a.max a.primary few ∙ bad))
