-- What each accepted call does is a move of the CPU that it names.
use Rattle.std.specs.Prelude.{None}
use Prim.Native.Nat.{ℕ, zero, suc, ◌<◌, ◌≤◌}
use mathlib.Core.Bool.{true, false, not, true≢false, and-eq-true_iff}
use mathlib.Core.Logic.{inl}
use mathlib.Core.Path.{◌≡◌, refl, sym, ap, ◌∙◌}
use native.Mathlib.Omega.{arith}
use borrow.Author.Tests.{eqb-true, le-leb, lt-leb}
use lib.Dec.{eqb}
use Rattle.basics.proofs.Tests.{by}
use Rattle.model.specs.Calls.{runningb, finish_dueb}
use Rattle.model.specs.Composite.{all_off, cpu_level_state_of, find_highest_non_run_level_of, found_of, is_valid_suspend_requestb, state_at}
use Rattle.model.specs.Coordinate.{Coordinated}
use Rattle.model.specs.Cpu.{heldb, onb}
use Rattle.model.specs.declared.cpu.AffinityInfo.{AffinityInfo}
use Rattle.model.specs.declared.cpu.AffinityInfo.TheVariants as affinity
use Rattle.model.specs.declared.cpu.CpuPowerNode.{CpuPowerNode}
use Rattle.model.specs.declared.cpu.EntryPoint.{EntryPoint}
use Rattle.model.specs.declared.state.State.{State}
use Rattle.model.specs.declared.states.CompositeState.{CompositeState}
use Rattle.model.specs.declared.states.Platform.{Platform}
use Rattle.model.specs.Limits.{cpu_limit, highest_max}
use Rattle.model.specs.Path.{set_running_of}
use Rattle.model.specs.Sound.{entry_dueb}
use Rattle.model.specs.Span.{span_minimum_of}
use Rattle.model.specs.State.{platform_at, max_at, off_at, cpu_count_of, cpu_at, asked_of, request_at}
use Rattle.model.specs.States.{run, off_of, downb, kind_of, depth_of}
use Rattle.model.specs.Steps.{booted_of, coordinated_to, finished_of, pended_of, suspended_of, turned_off}
use Rattle.model.specs.Tree.{cpu_span_at}
use Rattle.sound_laws.proofs.Coordinated.{resolved_not_reached}
use Rattle.sound_laws.proofs.CpuSlot.{none_is, on_is}
use Rattle.sound_laws.proofs.Levels.{Valid, is_valid}
use Rattle.sound_laws.proofs.Moved.{Moves, cpus_few, in_range_to_off, over_at}
use Rattle.sound_laws.proofs.Reflect.{board_max}
use Rattle.sound_laws.proofs.Stored.{on_path}
use Rattle.sound_laws.proofs.Up.{ComesUp, up_moves}
use Rattle.state_laws.proofs.Requests.{HighestAffected, valid_highest}
use Rattle.kept.specs.Lengths.{SoundRecord}
use Rattle.kept.proofs.Down.{GoesDown}

module _ (s : State) (whole : SoundRecord s) (c : ℕ) (is_cpu : c < cpu_count_of s) where
  abbrev p : Platform
  p = platform_at s

  abbrev node : CpuPowerNode
  node = cpu_at s c

  low : max_at s ≤ highest_max
  low = board_max s whole.sound.fits.accepted

  in_limit : c < cpu_limit
  in_limit = omega (arith, is_cpu, cpus_few s whole.sound)

  -- On: the target asks for what it asked for, OFF
  pub on_moves : node.affinity_info ≡ affinity.Off → (e : EntryPoint) →
      Moves s c (pended_of node e) s.domains (state_at (asked_of s c))
  on_moves off e =
      let cpu = whole.sound.cpus c is_cpu in
      record {
        is_cpu = is_cpu;
        slot = omega (arith, whole.lengths.cpus, in_limit);
        under = refl;
        own = λ level h. refl;
        may = record {
          in_range = cpu.in_range;
          off = λ _. cpu.off (ap onb off);
          running = λ o. absurd (true≢false (sym o));
          suspended = λ o. absurd (true≢false (sym o));
          entry = refl;
        };
        kept = λ level i a b n. refl;
        suspends = refl;
        over = λ n b.
            let o = on_path s whole.sound.fits c n is_cpu b in
            (whole.sound.domains (over_at s c n) o.domain).minimum
            ∙ ap (λ (l : ℕ). span_minimum_of (cpu_span_at s.tree (over_at s c n)) (request_at s l) (off_at s)) o.level;
        beside = λ k aside. refl;
        copies = λ k. inl refl;
      }

  -- a CPU that is on and holds no entry comes up
  comes_up : (r : CpuPowerNode) → r.parent ≡ node.parent → r.affinity_info ≡ affinity.On → r.local_state ≡ run →
      r.entry_point ≡ None → ComesUp s c r
  comes_up r under on runs none = record {
    is_cpu = is_cpu;
    slot = omega (arith, whole.lengths.cpus, in_limit);
    under = under;
    on = on;
    runs = runs;
    no_entry = none;
  }

  -- an entry that is not due is not held
  not_held : (a : AffinityInfo) (v : ℕ) → node.affinity_info ≡ a → node.local_state ≡ v → entry_dueb p a v ≡ false →
      heldb node.entry_point ≡ false
  not_held a v ha hv none =
      (whole.sound.cpus c is_cpu).entry ∙ ap (λ (b : AffinityInfo). entry_dueb p b node.local_state) ha ∙ ap (entry_dueb p a) hv ∙ none

  -- Finish: the CPU was On
  pub finish_moves : finish_dueb node ≡ true →
      Moves s c (finished_of p node) (set_running_of s.tree.parents (max_at s) node.parent.0 c s.domains) (λ _. run)
  finish_moves due =
      let on = on_is node.affinity_info ((and-eq-true_iff (onb node.affinity_info) _).0 due).0 in
      let none : (finished_of p node).entry_point ≡ None =
      by (downb p node.local_state)
      (λ e. simp e)
      (λ e. simp e (none_is node.entry_point (not_held affinity.On node.local_state on refl e))) in
      up_moves s whole.sound c (finished_of p node) (comes_up (finished_of p node) refl on refl none)

  -- Boot
  pub boot_moves :
      Moves s c (booted_of node) (set_running_of s.tree.parents (max_at s) node.parent.0 c s.domains) (λ _. run)
  boot_moves = up_moves s whole.sound c (booted_of node) (comes_up (booted_of node) refl refl refl refl)

  -- a running CPU
  module _ (running : runningb node ≡ true) where
    was : (onb node.affinity_info ≡ true) × (eqb node.local_state run ≡ true)
    was = (and-eq-true_iff (onb node.affinity_info) (eqb node.local_state run)).0 running

    -- holds no entry
    free : heldb node.entry_point ≡ false
    free = not_held affinity.On run (on_is node.affinity_info was.0) (eqb-true _ run was.1) refl

    -- Off: it asks for OFF at every level
    pub off_all : (l : ℕ) → l ≤ max_at s → state_at (all_off p) l ≡ off_of p
    off_all zero h = simp (le-leb 0 (max_at s) (omega arith))
    off_all (suc zero) h = simp (le-leb 1 (max_at s) (omega arith))
    off_all (suc (suc zero)) h = simp (le-leb 2 (max_at s) (omega arith))
    off_all (suc (suc (suc zero))) h = simp (le-leb 3 (max_at s) (omega arith))
    off_all (suc (suc (suc (suc l)))) h = absurd (omega (arith, low))

    off_above : (l : ℕ) → max_at s < l → state_at (all_off p) l ≡ run
    off_above zero h = absurd (omega arith)
    off_above (suc zero) h = simp (lt-leb 1 (max_at s) h)
    off_above (suc (suc zero)) h = simp (lt-leb 2 (max_at s) h)
    off_above (suc (suc (suc zero))) h = simp (lt-leb 3 (max_at s) h)
    off_above (suc (suc (suc (suc l)))) h = refl

    pub off_goes_down : GoesDown s c (turned_off p node) (all_off p) (max_at s)
    off_goes_down =
        let depth : ℕ → ℕ = λ v. depth_of (kind_of p v) in
        record {
          is_cpu = is_cpu;
          was_running = running;
          under = refl;
          state = sym (off_all 0 (omega arith));
          inside = omega arith;
          above = off_above;
          never = λ below h.
              omega (arith, ap depth (off_all (suc below) (omega arith)), ap depth (off_all below (omega arith)));
          may = record {
            in_range = λ level h. in_range_to_off s whole.sound _ (omega (arith, off_all level h));
            off = λ _. off_all;
            running = λ o. absurd (true≢false (sym o));
            suspended = λ o. absurd (true≢false (sym o));
            entry = free;
          };
        }

    -- Suspend: it asks for a valid request
    module _ (asked : CompositeState) (valid : is_valid_suspend_requestb p asked ≡ true) (e : EntryPoint) where
      abbrev upto : ℕ
      upto = found_of (find_highest_non_run_level_of p asked)

      abbrev x : Coordinated
      x = coordinated_to s.tree s.domains p c node upto asked

      facts : Valid p asked
      facts = (is_valid p asked).to valid

      highest : HighestAffected p asked upto
      highest = let h = valid_highest p asked valid in rw h.1 h.2

      own_state : cpu_level_state_of x.resolved ≡ state_at asked 0
      own_state =
          resolved_not_reached s.tree (off_of p) node.parent.0 c upto s.domains asked
          upto 0 (λ g. absurd (omega arith))

      pub enter_goes_down : GoesDown s c (suspended_of p node x.resolved e) asked upto
      enter_goes_down = record {
        is_cpu = is_cpu;
        was_running = running;
        under = refl;
        state = own_state;
        inside = highest.inside;
        above = highest.above;
        never = λ below h. facts.never.step below (omega (arith, low));
        may = record {
          in_range = λ level h. facts.range.low level (omega (arith, low)) h;
          off = λ o. absurd (true≢false (sym was.0 ∙ o));
          running = λ _ u. absurd (facts.down u);
          suspended = λ _ _ below h. facts.never.step below (omega (arith, low));
          entry =
              let on = on_is node.affinity_info was.0 in
              by (downb p (cpu_level_state_of x.resolved))
              (λ d. simp (d, on))
              (λ d. simp (d, on) free);
        };
      }
