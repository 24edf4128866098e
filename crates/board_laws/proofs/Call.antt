-- What a call makes of the rows lies as what it makes of the state.
use Prim.Native.Nat.{ℕ}
use mathlib.Core.Bool.{Bool, true, false, true≢false}
use mathlib.Core.List.{List}
use mathlib.Core.Path.{◌≡◌, refl, sym, ap, subst, ◌∙◌}
use lib.ListN.{get_or, set}
use lib.Seq.{set-get_or}
use Rattle.basics.proofs.Tests.{by}
use Rattle.board_calls.specs.Board.{called, call_on, platform_on, record_kept, states_kept, tree_on}
use Rattle.board_laws.specs.Lies.{CallLies, Lies}
use Rattle.board_laws.proofs.Bare.{bare_of}
use Rattle.cpu_table.proofs.Records.{cpu_in_lem, stored_in_lem, stored_lengths}
use Rattle.cpu_table.specs.CpuTable.{Lengths, cpu_in, cpus_in}
use Rattle.cpu_table.specs.declared.CpuRows.{CpuRows}
use Rattle.in_place.proofs.Calls.{Gives}
use Rattle.in_place.specs.Stepped.{Outcome, decided_on, stepped_of}
use Rattle.in_place.specs.declared.Stepped.{Stepped}
use Rattle.model.specs.Numbers.{Code, acceptedb, number_of}
use Rattle.model.specs.State.{cpu_at, no_cpu, platform_at, state_of}
use Rattle.model.specs.declared.answer.CallAnswer.{CallAnswer}
use Rattle.model.specs.declared.answer.Step.{Step}
use Rattle.model.specs.declared.board.Tree.{Tree}
use Rattle.model.specs.declared.cpu.CpuPowerNode.{CpuPowerNode}
use Rattle.model.specs.declared.state.Domains.{Domains}
use Rattle.model.specs.declared.state.State.{State}
use Rattle.model.specs.declared.states.CompositeState.{CompositeState}
use Rattle.model.specs.declared.states.Platform.{Platform}

-- the same of parts that are the same
of_parts : (f : Tree → Platform → CpuPowerNode → Domains → Outcome) {t t' : Tree} {p p' : Platform} {n n' : CpuPowerNode} {d d' : Domains} →
    t ≡ t' → p ≡ p' → n ≡ n' → d ≡ d' → f t p n d ≡ f t' p' n' d'
of_parts f ht hp hn hd = rw (ht, hp, hn, hd)

-- a call leaves a record's parent, and all of it if it is refused
pub record Leaves (was : CpuPowerNode) (x : Stepped) : Type 0 where
  pub parent : x.node.parent ≡ was.parent
  pub refused : acceptedb x.code ≡ false → x.node ≡ was

module _ (k : Code) (was : CpuPowerNode) where
  leaves_by : (becomes : CpuPowerNode) (handed : CompositeState) (b : Bool) → acceptedb k ≡ b → becomes.parent ≡ was.parent →
      Leaves was (stepped_of k was becomes handed)
  unfolding stepped_of
  leaves_by becomes handed true h e = record { parent = simp h e; refused = simp h (λ z. absurd (true≢false z)) }
  leaves_by becomes handed false h e = record { parent = simp h; refused = λ _. simp h }

  -- so it is with what a code decides
  pub step_leaves : (becomes : CpuPowerNode) (handed : CompositeState) → becomes.parent ≡ was.parent →
      Leaves was (stepped_of k was becomes handed)
  step_leaves becomes handed = leaves_by becomes handed (acceptedb k) refl

  pub decided_leaves : (d : Domains) (x : Step) → x.node.parent ≡ was.parent → Leaves was (decided_on k was d x).stepped
  unfolding decided_on
  decided_leaves d x = step_leaves x.node x.out.states

module _ {s : State} {board parents starts ends : List ℕ} {domains : Domains} {cpus : CpuRows}
    (l : Lies s board parents starts ends domains cpus) where
  -- the record that is read is that of the state
  pub record_read : (c : ℕ) → cpu_in cpus c ≡ cpu_at s c
  record_read c = sym (cpu_in_lem l.lengths c) ∙ ap (λ (r : List CpuPowerNode). get_or r c no_cpu) l.records

  -- and so is the tree
  pub tree_read : tree_on board parents starts ends ≡ bare_of s.tree
  tree_read = rw (l.count, l.over, l.from, l.to)

  -- what is read of the rows is what is read of the state
  parts_read : (c : ℕ) (f : Tree → Platform → CpuPowerNode → Domains → Outcome) →
      f (tree_on board parents starts ends) (platform_on board) (cpu_in cpus c) domains ≡ f (bare_of s.tree) (platform_at s) (cpu_at s c) s.domains
  parts_read c f = of_parts f tree_read l.platform (record_read c) l.rows

  module _ (c : ℕ) (x : Stepped) (leaves : Leaves (cpu_at s c) x) where
    -- the record that is kept stands among those of the state
    kept_records : cpus_in (record_kept cpus c x) ≡ set s.cpus c x.node
    kept_records =
        by (acceptedb x.code)
        (λ h. simp h (stored_in_lem l.lengths c x.node (leaves.parent ∙ ap (λ (r : CpuPowerNode). r.parent) (sym (record_read c)))
        ∙ ap (λ (r : List CpuPowerNode). set r c x.node) l.records))
        (λ h. simp (h, leaves.refused h) (l.records ∙ sym (set-get_or s.cpus c no_cpu)))

    kept_lengths : Lengths (record_kept cpus c x)
    kept_lengths = by (acceptedb x.code) (λ h. simp h (stored_lengths l.lengths c x.node)) (λ h. simp h l.lengths)

    -- with other domains
    pub kept_lies : (d : Domains) →
        Lies (state_of s.board s.tree (set s.cpus c x.node) d s.mode) board parents starts ends d (record_kept cpus c x)
    kept_lies d = record {
      platform = l.platform;
      count = l.count;
      mode = l.mode;
      over = l.over;
      from = l.from;
      to = l.to;
      rows = refl;
      records = kept_records;
      lengths = kept_lengths;
      long = l.long;
    }

  module _ (c : ℕ) {a : CallAnswer} {x : Outcome} (g : Gives s c a x) (leaves : Leaves (cpu_at s c) x.stepped) where
    -- an outcome that the call on the state gives
    pub given_lies : (handed : List ℕ) →
        CallLies a board parents starts ends handed
        (called (number_of x.stepped.code) x.domains (record_kept cpus c x.stepped) (states_kept handed x.stepped))
    given_lies handed = record {
      number = ap number_of (sym g.code);
      state = rw g.state (kept_lies c x.stepped leaves x.domains);
      states = rw (g.code, g.states);
    }

    -- so it is with a call on the rows that comes to that outcome
    pub call_lies : (handed : List ℕ) (f : Tree → Platform → CpuPowerNode → Domains → Outcome) →
        f (bare_of s.tree) (platform_at s) (cpu_at s c) s.domains ≡ x →
        CallLies a board parents starts ends handed
        (call_on domains cpus handed c (λ node d. f (tree_on board parents starts ends) (platform_on board) node d))
    call_lies handed f e =
        subst (λ (y : Outcome). CallLies a board parents starts ends handed
        (called (number_of y.stepped.code) y.domains (record_kept cpus c y.stepped) (states_kept handed y.stepped)))
        (sym (parts_read c f ∙ e)) (given_lies handed)
