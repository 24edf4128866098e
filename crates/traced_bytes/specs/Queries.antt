-- docs/REFERENCE.md, 'A request and its reply': the answers of the queries, a byte each.
use Rattle.std.specs.Prelude.{ℕ, Bool, cond, not, ◌&&◌, eqb, ltb, Result, Ok, Err, Option, None, Some}
use Rattle.model.specs.Numbers.{acceptedb}
use Rattle.model.specs.Path.{level_at}
use Rattle.model.specs.Query.{get_osi_minimal_allowed_state_without_core_of}
use Rattle.model.specs.State.{cpu_count_of, domain_count_of, max_at, off_at}
use Rattle.model.specs.StateQuery.{are_all_cpus_on_of, is_last_cpu_of, is_last_cpu_to_idle_at_power_level_of, node_at}
use Rattle.model.specs.Tree.{no_parent, parent_at}
use Rattle.model.specs.declared.code.Refusal.{Refusal}
use Rattle.model.specs.declared.sorts.DomainNumber.{DomainNumber}
use Rattle.model.specs.declared.state.State.{State}
use Rattle.traced_bytes.specs.Bytes.{code_byte, flag_byte}

-- the answer, or the number of the refusal
abbrev pub test_byte : Result Bool Refusal → ℕ
test_byte (Ok holds) = flag_byte holds
test_byte (Err r) = code_byte (Err r)

abbrev pub state_byte : Result ℕ Refusal → ℕ
state_byte (Ok state) = state
state_byte (Err r) = code_byte (Err r)

module _ (s : State) where
  -- are_all_cpus_on
  abbrev pub all_on_byte : ℕ
  all_on_byte = test_byte (are_all_cpus_on_of s)

  -- is_last_cpu, 0 where there is no such CPU
  abbrev pub last_byte : ℕ → ℕ
  last_byte c = cond (ltb c (cpu_count_of s)) (test_byte (is_last_cpu_of s (record { 0 = c }))) 0

  -- is_last_cpu_to_idle_at_power_level, 0 where there is no such CPU
  abbrev pub last_to_idle_byte : ℕ → ℕ → ℕ
  last_to_idle_byte c level =
      cond (ltb c (cpu_count_of s)) (test_byte (is_last_cpu_to_idle_at_power_level_of s (record { 0 = c }) (record { 0 = level }))) 0

  -- get_osi_minimal_allowed_state_without_core of domain k's record
  abbrev pub asked_node : ℕ → ℕ → Option DomainNumber → ℕ
  asked_node k c x =
      state_byte
      (get_osi_minimal_allowed_state_without_core_of (node_at s (level_at s.tree.parents (max_at s) k) k) (record { 0 = c }) x (off_at s))

  -- asked with no child, 0 where there is no such domain or CPU
  abbrev pub allowed_byte : ℕ → ℕ → ℕ
  allowed_byte k c = cond (ltb k (domain_count_of s) && ltb c (cpu_count_of s)) (asked_node k c None) 0

  -- domain k has a parent
  abbrev pub belowb : ℕ → Bool
  belowb k = ltb k (domain_count_of s) && not (eqb (parent_at s.tree k) no_parent)

  -- asked of domain k's parent with domain k given, 0 where there is none
  abbrev pub beside_byte : ℕ → ℕ → ℕ
  beside_byte k c =
      cond (belowb k && ltb c (cpu_count_of s)) (asked_node (parent_at s.tree k) c (Some (record { 0 = k }))) 0
