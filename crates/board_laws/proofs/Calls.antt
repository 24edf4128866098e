-- Each of the exported calls does to the rows what the call does to the state that lies in them.
use Prim.Native.Nat.{ℕ}
use mathlib.Core.Bool.{Bool}
use mathlib.Core.List.{List, []}
use mathlib.Core.Path.{◌≡◌, refl, sym, ap, subst, ◌∙◌}
use native.Mathlib.Omega.{arith}
use lib.ListN.{get_or, length-set, set}
use lib.Seq.{get_or-set_other, get_or-set_same}
use Rattle.basics.proofs.Tests.{by, cond_rule}
use Rattle.board_calls.specs.Board.{call_on, count_on, mode_on, mode_set, platform_on, tree_on, turn_on}
use Rattle.board_laws.specs.Lies.{CallLies, Lies, ModeLies, OnLies}
use Rattle.board_laws.proofs.Bare.{off_bare, suspend_bare, system_suspend_bare}
use Rattle.board_laws.proofs.Call.{call_lies, decided_leaves, kept_lies, record_read, step_leaves}
use Rattle.cpu_table.proofs.Walks.{all_on_in_lem, others_off_in_lem}
use Rattle.cpu_table.specs.CpuTable.{all_on_bytes, cpu_in, others_off_bytes}
use Rattle.cpu_table.specs.declared.CpuRows.{CpuRows}
use Rattle.image.specs.Image.{mode_in}
use Rattle.in_place.proofs.Calls.{boot_gives, finish_gives, mode_gives, off_gives, on_gives, suspend_gives, system_suspend_gives}
use Rattle.in_place.specs.Stepped.{boot_in, enter_in, finish_in, mode_in as mode_code_in, off_in, on_in, suspend_in, system_suspend_in}
use Rattle.in_place.specs.declared.Stepped.{Stepped}
use Rattle.model.specs.Calls.{cpu_off_of, cpu_on_of, cpu_suspend_finish_of, cpu_suspend_start_of, handle_cpu_boot_of, set_suspend_mode_of, system_suspend_of}
use Rattle.model.specs.Numbers.{Code, acceptedb, number_of}
use Rattle.model.specs.State.{cpu_at, cpu_count_of, platform_at, with_mode}
use Rattle.model.specs.StateQuery.{all_on_in, all_onb, others_off_in, others_offb}
use Rattle.model.specs.declared.answer.Notice.{Notice}
use Rattle.model.specs.declared.answer.Step.{Step}
use Rattle.model.specs.declared.cpu.CpuPowerNode.{CpuPowerNode}
use Rattle.model.specs.declared.cpu.EntryPoint.{EntryPoint}
use Rattle.model.specs.declared.state.Domains.{Domains}
use Rattle.model.specs.declared.state.State.{State}
use Rattle.model.specs.declared.state.SuspendMode.{SuspendMode}
use Rattle.model.specs.declared.states.CompositeState.{CompositeState}

module _ {s : State} {board parents starts ends : List ℕ} {domains : Domains} {cpus : CpuRows}
    (l : Lies s board parents starts ends domains cpus) (c : ℕ) (handed : List ℕ) where
  -- Off
  pub off_lies : (answer : ℕ) →
      CallLies (cpu_off_of s (record { 0 = c }) answer) board parents starts ends handed
      (call_on domains cpus handed c (λ node d. off_in (tree_on board parents starts ends) (platform_on board) c node d answer))
  off_lies answer =
      call_lies l c (off_gives s c answer) (decided_leaves _ (cpu_at s c) s.domains _ refl) handed
      (λ t p node d. off_in t p c node d answer) (off_bare s.tree (platform_at s) c (cpu_at s c) s.domains answer)

  -- Finish
  pub finish_lies :
      CallLies (cpu_suspend_finish_of s (record { 0 = c })) board parents starts ends handed
      (call_on domains cpus handed c (λ node d. finish_in (tree_on board parents starts ends) (platform_on board) c node d))
  finish_lies =
      call_lies l c (finish_gives s c) (decided_leaves _ (cpu_at s c) s.domains _ refl) handed
      (λ t p node d. finish_in t p c node d) refl

  -- Boot
  pub boot_lies :
      CallLies (handle_cpu_boot_of s (record { 0 = c })) board parents starts ends handed
      (call_on domains cpus handed c (λ node d. boot_in (tree_on board parents starts ends) (platform_on board) c node d))
  boot_lies =
      call_lies l c (boot_gives s c) (decided_leaves _ (cpu_at s c) s.domains _ refl) handed
      (λ t p node d. boot_in t p c node d) refl

  -- a suspend, entered or not, leaves the parent
  enter_parent : (pending : Bool) (asked : CompositeState) (e : EntryPoint) (told : Notice) →
      (enter_in s.tree (platform_at s) c (cpu_at s c) s.domains pending asked e told).node.parent ≡ (cpu_at s c).parent
  enter_parent pending asked e told = cond_rule (λ (x : Step). x.node.parent ≡ (cpu_at s c).parent) pending (λ _. refl) (λ _. refl)

  -- Suspend
  pub suspend_lies : (pending : Bool) (e : EntryPoint) (asked : CompositeState) →
      CallLies (cpu_suspend_start_of s (record { 0 = c }) pending e asked) board parents starts ends handed
      (call_on domains cpus handed c
      (λ node d. suspend_in (tree_on board parents starts ends) (platform_on board) c node d (mode_on board) pending e asked))
  suspend_lies pending e asked =
      call_lies l c (suspend_gives s c pending e asked)
      (decided_leaves _ (cpu_at s c) s.domains _ (enter_parent pending asked e _)) handed
      (λ t p node d. suspend_in t p c node d (mode_on board) pending e asked)
      (suspend_bare s.tree (platform_at s) c (cpu_at s c) s.domains (mode_on board) pending e asked
      ∙ ap (λ (m : SuspendMode). suspend_in s.tree (platform_at s) c (cpu_at s c) s.domains m pending e asked) l.mode)

  -- every other CPU is Off in the rows as in the state
  others_read : others_off_bytes cpus.affinities (count_on board) c ≡ others_offb s c
  others_read =
      others_off_in_lem cpus l.lengths.affinities (count_on board) c
      ∙ ap (λ (r : List CpuPowerNode). others_off_in r (count_on board) c) l.records ∙ ap (λ (n : ℕ). others_off_in s.cpus n c) l.count

  -- System suspend
  pub system_suspend_lies : (feature pending good : Bool) (e : EntryPoint) (asked : CompositeState) →
      CallLies (system_suspend_of s (record { 0 = c }) feature pending good e asked) board parents starts ends handed
      (call_on domains cpus handed c
      (λ node d. system_suspend_in (tree_on board parents starts ends) (platform_on board) c node d (mode_on board) feature
      (others_off_bytes cpus.affinities (count_on board) c) pending good e asked))
  system_suspend_lies feature pending good e asked =
      let last = others_off_bytes cpus.affinities (count_on board) c in
      call_lies l c (system_suspend_gives s c feature pending good e asked)
      (decided_leaves _ (cpu_at s c) s.domains _ (enter_parent pending asked e _)) handed
      (λ t p node d. system_suspend_in t p c node d (mode_on board) feature last pending good e asked)
      (system_suspend_bare s.tree (platform_at s) c (cpu_at s c) s.domains (mode_on board) feature last pending good e asked
      ∙ ap (λ (m : SuspendMode). system_suspend_in s.tree (platform_at s) c (cpu_at s c) s.domains m feature last pending good e asked)
      l.mode
      ∙ ap (λ (b : Bool). system_suspend_in s.tree (platform_at s) c (cpu_at s c) s.domains s.mode feature b pending good e asked)
      others_read)

-- the same of parts that are the same
of_on : (f : ℕ → (by node : CpuPowerNode) → Stepped) {n n' : ℕ} {by by' node node' : CpuPowerNode} → n ≡ n' → by ≡ by' → node ≡ node' →
    f n by node ≡ f n' by' node'
of_on f hn hb hm = rw (hn, hb, hm)

of_mode : (f : ℕ → CpuPowerNode → SuspendMode → (last all : Bool) → Code) {n n' : ℕ} {by by' : CpuPowerNode} {m m' : SuspendMode}
    {last last' all all' : Bool} → n ≡ n' → by ≡ by' → m ≡ m' → last ≡ last' → all ≡ all' → f n by m last all ≡ f n' by' m' last' all'
of_mode f hn hb hm hl ha = rw (hn, hb, hm, hl, ha)

module _ {s : State} {board parents starts ends : List ℕ} {domains : Domains} {cpus : CpuRows}
    (l : Lies s board parents starts ends domains cpus) (c : ℕ) where
  -- On, by a caller and a target
  pub on_lies : (target : ℕ) (e : EntryPoint) (good : Bool) (answer : ℕ) →
      OnLies (cpu_on_of s (record { 0 = c }) (record { 0 = target }) e good answer) board parents starts ends domains
      (turn_on cpus target (on_in (count_on board) c (cpu_in cpus c) target (cpu_in cpus target) e good answer))
  on_lies target e good answer =
      let g = on_gives s target (record { 0 = c }) e good answer in
      let x = on_in (cpu_count_of s) c (cpu_at s c) target (cpu_at s target) e good answer in
      let z : on_in (count_on board) c (cpu_in cpus c) target (cpu_in cpus target) e good answer ≡ x =
      of_on (λ n by node. on_in n c by target node e good answer) l.count (record_read l c) (record_read l target) in
      subst (λ (y : Stepped). OnLies (cpu_on_of s (record { 0 = c }) (record { 0 = target }) e good answer) board parents starts ends domains
      (turn_on cpus target y)) (sym z)
      (record {
        number = ap number_of (sym g.code);
        state = rw (g.state, l.rows) (kept_lies l target x (step_leaves _ (cpu_at s target) _ _ refl) s.domains);
      })

  -- every CPU is On in the rows as in the state
  all_read : all_on_bytes cpus.affinities (count_on board) ≡ all_onb s
  all_read =
      all_on_in_lem cpus l.lengths.affinities (count_on board)
      ∙ ap (λ (r : List CpuPowerNode). all_on_in r (count_on board)) l.records ∙ ap (all_on_in s.cpus) l.count

  -- the board's row after another mode is stored there
  mode_lies : (mode : ℕ) → Lies (with_mode s (mode_in mode)) (set board 4 mode) parents starts ends domains cpus
  mode_lies mode =
      let other : (i : ℕ) → (i ≡ 4 → ⊥) → get_or (set board 4 mode) i 0 ≡ get_or board i 0 = λ i h. get_or-set_other board 4 i mode 0 h in
      record {
        platform = rw (other 0 (λ z. omega arith), other 1 (λ z. omega arith), other 2 (λ z. omega arith)) l.platform;
        count = rw (other 3 (λ z. omega arith)) l.count;
        mode = ap mode_in (get_or-set_same board 4 mode 0 (omega (arith, l.long)));
        over = l.over;
        from = l.from;
        to = l.to;
        rows = l.rows;
        records = l.records;
        lengths = l.lengths;
        long = length-set board 4 mode ∙ l.long;
      }

  -- Set mode
  pub set_mode_lies : (feature : Bool) (mode : ℕ) →
      ModeLies (set_suspend_mode_of s (record { 0 = c }) feature (mode_in mode)) parents starts ends domains cpus
      (mode_set board mode (mode_code_in (count_on board) c (cpu_in cpus c) feature (mode_on board) (mode_in mode)
      (others_off_bytes cpus.affinities (count_on board) c) (all_on_bytes cpus.affinities (count_on board))))
  set_mode_lies feature mode =
      let a = set_suspend_mode_of s (record { 0 = c }) feature (mode_in mode) in
      let g = mode_gives s (mode_in mode) (record { 0 = c }) feature in
      let k = mode_code_in (cpu_count_of s) c (cpu_at s c) feature s.mode (mode_in mode) (others_offb s c) (all_onb s) in
      let z : mode_code_in (count_on board) c (cpu_in cpus c) feature (mode_on board) (mode_in mode)
      (others_off_bytes cpus.affinities (count_on board) c) (all_on_bytes cpus.affinities (count_on board)) ≡ k =
      of_mode (λ n by m last all. mode_code_in n c by feature m (mode_in mode) last all)
      l.count (record_read l c) l.mode (others_read l c []) all_read in
      subst (λ (y : Code). ModeLies a parents starts ends domains cpus (mode_set board mode y)) (sym z)
      (record {
        number = ap number_of (sym g.code);
        state = rw g.state
            (by (acceptedb k)
            (λ h. simp h (mode_lies mode))
            (λ h. simp h l));
      })
