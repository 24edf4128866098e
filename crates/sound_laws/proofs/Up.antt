-- A CPU that comes up, with set_running along its path, leaves a sound state sound.
use Rattle.std.specs.Prelude.{None}
use Prim.Native.Nat.{ℕ, zero, suc, ◌<◌, ◌≤◌}
use mathlib.Core.Bool.{true, false, true≢false}
use mathlib.Core.List.{List}
use mathlib.Core.Logic.{inl, inr, ⊎_elim}
use mathlib.Core.Path.{◌≡◌, refl, sym, ap, ◌∙◌}
use native.Mathlib.Omega.{arith}
use lib.ListN.{get_or, length}
use Rattle.minimum.proofs.Minimum.{minimum_run}
use Rattle.model.proofs.Spans.{span_in_lem}
use Rattle.model.specs.Cpu.{onb}
use Rattle.model.specs.declared.cpu.AffinityInfo.TheVariants as affinity
use Rattle.model.specs.declared.cpu.CpuPowerNode.{CpuPowerNode}
use Rattle.model.specs.declared.sorts.DomainNumber.{DomainNumber}
use Rattle.model.specs.declared.state.Domains.{Domains}
use Rattle.model.specs.declared.state.State.{State}
use Rattle.model.specs.Composite.{state_at}
use Rattle.model.specs.Limits.{cpu_limit}
use Rattle.model.specs.Path.{above_of, set_running_of}
use Rattle.model.specs.Sound.{Sound}
use Rattle.model.specs.Span.{in_spanb}
use Rattle.model.specs.State.{asked_in, platform_at, max_at, off_at, cpu_count_of, cpu_at, up_with}
use Rattle.model.specs.States.{run, in_rangeb}
use Rattle.model.specs.Table.{at_level}
use Rattle.model.specs.Tree.{parent_at, cpu_span_at}
use Rattle.sound_laws.proofs.Levels.{asked_in_at}
use Rattle.sound_laws.proofs.Moved.{MayAsk, Moves, over_at, cpus_few, in_range_to_off, moved_sound}
use Rattle.sound_laws.proofs.Reflect.{board_max}
use Rattle.sound_laws.proofs.Running.{state_run, state_kept, copy_either, request_run, request_kept, suspends_kept}
use Rattle.sound_laws.proofs.Stored.{on_path, path_not_top}

-- a CPU's record as it comes up: under the same domain, On and RUN, with no entry
pub record ComesUp (s : State) (c : ℕ) (r : CpuPowerNode) : Type 0 where
  pub is_cpu : c < cpu_count_of s
  pub slot : c < length s.cpus
  pub under : r.parent ≡ (cpu_at s c).parent
  pub on : r.affinity_info ≡ affinity.On
  pub runs : r.local_state ≡ run
  pub no_entry : r.entry_point ≡ None

module _ (s : State) (sound : Sound s) (c : ℕ) (r : CpuPowerNode) (up : ComesUp s c r) where
  abbrev parents : List ℕ
  parents = s.tree.parents

  abbrev max : ℕ
  max = max_at s

  abbrev first : ℕ
  first = r.parent.0

  abbrev rows : Domains
  rows = set_running_of parents max first c s.domains

  in_limit : c < cpu_limit
  in_limit = omega (arith, up.is_cpu, cpus_few s sound)

  -- the path starts where the CPU's path started
  same_over : (n : ℕ) → over_at s c n ≡ above_of parents first n
  same_over n = ap (λ (d : DomainNumber). above_of parents d.0 n) (sym up.under)

  -- it asks for RUN at every level
  own_request : (l : ℕ) → 1 ≤ l → l ≤ max → at_level rows.requests l c ≡ run
  own_request l a b = request_run parents max first c s.domains in_limit max l a b

  own_asked : (l : ℕ) → l ≤ max → state_at (asked_in rows.requests r c) l ≡ run
  own_asked zero h = up.runs
  own_asked (suc l) h =
      asked_in_at rows.requests r c (suc l) (omega arith) (omega (arith, board_max s sound.fits.accepted))
      ∙ own_request (suc l) (omega arith) h

  may_run : MayAsk s r (λ _. run)
  may_run = record {
    in_range = λ _ _. in_range_to_off s sound run (omega arith);
    off = λ o. absurd (true≢false (sym (ap onb up.on) ∙ o));
    running = λ _ _ _ _. refl;
    suspended = λ _ n. absurd (n refl);
    entry = simp (up.no_entry, up.on, up.runs);
  }

  -- the domains over it run, and so is their minimum
  pub up_moves : Moves s c r rows (λ _. run)
  up_moves = record {
    is_cpu = up.is_cpu;
    slot = up.slot;
    under = up.under;
    own = own_asked;
    may = may_run;
    kept = λ level i a b n. request_kept parents max first c s.domains in_limit max level i a b n;
    suspends = suspends_kept parents max first c s.domains in_limit max (λ l a b. (sound.cpus c up.is_cpu).no_suspend l a b);
    over = λ n b.
        let k = over_at s c n in
        let span = cpu_span_at s.tree (over_at s c n) in
        let o = on_path s sound.fits c n up.is_cpu b in
        ap (λ (j : ℕ). get_or rows.states j 0) (same_over n) ∙ state_run parents max first c s.domains max n b
        ∙ sym (minimum_run (in_spanb span) (at_level rows.requests (suc n)) (off_at s) span.end c
        (record { below = (span_in_lem span c o.spans).1; is = o.spans }) (own_request (suc n) (omega arith) (omega arith)));
    beside = λ k off. state_kept parents max first c s.domains max k (λ j b z. off j b (z ∙ sym (same_over j)));
    copies = λ k.
        ⊎_elim inl
        (λ q. let z : k ≡ over_at s c q.0 = q.2 ∙ sym (same_over q.0) in
        inr (record {
          in_range = ap (in_rangeb (platform_at s)) q.3 ∙ in_range_to_off s sound run (omega arith);
          domain = omega (arith, z, (on_path s sound.fits c q.0 up.is_cpu (omega (arith, q.1))).domain);
          not_top = λ e. path_not_top s sound.fits c q.0 up.is_cpu q.1 (ap (parent_at s.tree) (sym z) ∙ e);
        }))
        (copy_either parents max first c s.domains max k);
  }

  -- the state is sound after it
  pub up_sound : Sound (up_with s c r)
  up_sound = moved_sound s sound c r rows (λ _. run) up_moves
