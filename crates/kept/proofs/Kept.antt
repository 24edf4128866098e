-- Every call keeps a sound record sound.
use Prim.Native.Nat.{ℕ, ◌<◌, ◌≤◌}
use mathlib.Core.Bool.{Bool, true, false, cond, not, true≢false, ◌&&◌, and-eq-true_iff}
use mathlib.Core.Path.{◌≡◌, refl, sym, ap, ◌∙◌}
use borrow.Author.Tests.{eqb-true}
use lib.Dec.{eqb}
use Rattle.basics.proofs.Tests.{by}
use Rattle.call_laws.proofs.Caller.{call_unsound}
use Rattle.call_laws.proofs.Mode.{mode_rule}
use Rattle.call_laws.proofs.Off.{off_rule}
use Rattle.call_laws.proofs.On.{on_rule}
use Rattle.call_laws.proofs.Suspend.{suspend_rule}
use Rattle.call_laws.proofs.SystemSuspend.{system_suspend_rule}
use Rattle.call_laws.proofs.Wake.{boot_rule, finish_rule}
use Rattle.history.specs.Standing.{is_off, runs, stands_after_accepted}
use Rattle.model.specs.Calls.{call_of, entered, runningb}
use Rattle.model.specs.Composite.{all_off, find_highest_non_run_level_of, found_of, is_valid_suspend_requestb, state_at}
use Rattle.model.specs.declared.answer.CallAnswer.{CallAnswer}
use Rattle.model.specs.declared.answer.Notice.{Notice}
use Rattle.model.specs.declared.call.Call.{Call}
use Rattle.model.specs.declared.call.Call.TheVariants as call
use Rattle.model.specs.declared.cpu.EntryPoint.{EntryPoint}
use Rattle.model.specs.declared.state.State.{State}
use Rattle.model.specs.declared.state.SuspendMode.{SuspendMode}
use Rattle.model.specs.declared.states.CompositeState.{CompositeState}
use Rattle.model.specs.Sound.{Sound}
use Rattle.model.specs.SoundTest.{soundb}
use Rattle.model.specs.State.{platform_at, max_at, cpu_count_of, cpu_at, asked_of, with_mode}
use Rattle.script.specs.AnswerRecord.{named_of}
use Rattle.sound_laws.proofs.Reflect.{is_sound}
use Rattle.kept.specs.Keeps.{Keeps}
use Rattle.kept.specs.Lengths.{Lengths, SoundRecord}
use Rattle.kept.proofs.Down.{down_moves}
use Rattle.kept.proofs.Keeps.{refusal_keeps, nothing_keeps, moved_keeps}
use Rattle.kept.proofs.Lengths.{as_long, down_long, up_long}
use Rattle.kept.proofs.Steps.{boot_moves, enter_goes_down, finish_moves, off_all, off_goes_down, on_moves}

-- a choice between two by level is the choice at a level
chosen : (b : Bool) (x y : ℕ → ℕ) (l : ℕ) → cond b (x l) (y l) ≡ cond b x y l
chosen true x y l = refl
chosen false x y l = refl

-- a request that is not entered, and one that is
not_entered : (b pending : Bool) (x y : ℕ → ℕ) (l : ℕ) → pending ≡ true → y l ≡ cond (b && not pending) x y l
not_entered true pending x y l h = simp h
not_entered false pending x y l h = refl

is_entered : (b pending : Bool) (x y : ℕ → ℕ) (l : ℕ) → pending ≡ false → cond b (x l) (y l) ≡ cond (b && not pending) x y l
is_entered true pending x y l h = simp h
is_entered false pending x y l h = refl

-- the mode is no part of soundness
mode_sound : (s : State) (m : SuspendMode) → Sound s → Sound (with_mode s m)
unfolding soundb
mode_sound s m sound = (is_sound (with_mode s m)).to ((is_sound s).from sound)

module _ (s : State) (whole : SoundRecord s) where
  -- a suspend of either kind that is entered
  module _ (k : Call) (asked : CompositeState) (e : EntryPoint) (told : Notice) where
    entered_keeps : (named_of k).0 < cpu_count_of s → runningb (cpu_at s (named_of k).0) ≡ true →
        is_valid_suspend_requestb (platform_at s) asked ≡ true →
        ((i l : ℕ) → l ≤ max_at s → cond (eqb i (named_of k).0) (state_at asked l) (state_at (asked_of s i) l)
        ≡ stands_after_accepted (platform_at s) i k (state_at (asked_of s i)) l) →
        Keeps s k (entered s (named_of k).0 asked e told)
    entered_keeps exists running valid agree =
        let c = (named_of k).0 in
        let down = enter_goes_down s whole c exists running asked valid e in
        moved_keeps s whole k _ _ (state_at asked) (down_moves s whole c _ asked _ down) _
        (down_long s.tree s.domains (platform_at s) c (cpu_at s c) (found_of (find_highest_non_run_level_of (platform_at s) asked)) asked) agree

  pub call_keeps : (k : Call) → Keeps s k (call_of s k)
  call_keeps (call.On caller target e good answer) =
      let k = call.On caller target e good answer in
      on_rule s caller target e good answer (Keeps s k) (refusal_keeps s whole k)
      (λ f. moved_keeps s whole k _ _ _ (on_moves s whole target.0 f.exists f.off e) _ (as_long _)
      (λ i l b. by (eqb i target.0)
      (λ t. simp t (ap (λ (j : ℕ). state_at (asked_of s j) l) (sym (eqb-true i target.0 t))))
      (λ t. simp t)))
  call_keeps (call.Off caller answer) =
      let k = call.Off caller answer in
      let c = caller.0 in
      off_rule s caller answer (Keeps s k) (refusal_keeps s whole k)
      (λ f. let exists = f.caller_runs.known.exists in
      moved_keeps s whole k _ _ _ (down_moves s whole c _ (all_off (platform_at s)) (max_at s) (off_goes_down s whole c exists f.caller_runs.running)) _
      (down_long s.tree s.domains (platform_at s) c (cpu_at s c) (max_at s) (all_off (platform_at s)))
      (λ i l b. ap (λ (v : ℕ). cond (eqb i c) v (state_at (asked_of s i) l)) (off_all s whole c exists f.caller_runs.running l b)
      ∙ chosen (eqb i c) (is_off (platform_at s)) _ l))
  call_keeps (call.Suspend caller pending e asked) =
      let k = call.Suspend caller pending e asked in
      suspend_rule s caller pending e asked (Keeps s k) (refusal_keeps s whole k)
      (λ f h. nothing_keeps s whole k _ (λ i l. not_entered (eqb i caller.0) pending _ _ l h))
      (λ f h. entered_keeps k asked e _ f.caller_runs.known.exists f.caller_runs.running f.valid
      (λ i l b. is_entered (eqb i caller.0) pending _ _ l h))
  call_keeps (call.Finish cpu) =
      let k = call.Finish cpu in
      finish_rule s cpu (Keeps s k) (refusal_keeps s whole k)
      (λ f. moved_keeps s whole k _ _ _ (finish_moves s whole cpu.0 f.known.exists f.due) _
      (up_long s.tree.parents (max_at s) (cpu_at s cpu.0).parent.0 cpu.0 s.domains)
      (λ i l b. chosen (eqb i cpu.0) runs _ l))
  call_keeps (call.Boot cpu) =
      let k = call.Boot cpu in
      boot_rule s cpu (Keeps s k) (refusal_keeps s whole k)
      (λ f. moved_keeps s whole k _ _ _ (boot_moves s whole cpu.0 f.known.exists) _
      (up_long s.tree.parents (max_at s) (cpu_at s cpu.0).parent.0 cpu.0 s.domains)
      (λ i l b. chosen (eqb i cpu.0) runs _ l))
  call_keeps (call.SystemSuspend caller feature pending good e asked) =
      let k = call.SystemSuspend caller feature pending good e asked in
      system_suspend_rule s caller feature pending good e asked (Keeps s k) (refusal_keeps s whole k)
      (λ f h. nothing_keeps s whole k _ (λ i l. not_entered (eqb i caller.0) pending _ _ l h))
      (λ f h. entered_keeps k asked e _ f.caller_runs.known.exists f.caller_runs.running
      ((and-eq-true_iff (is_valid_suspend_requestb (platform_at s) asked) _).0 f.powers_down).0
      (λ i l b. is_entered (eqb i caller.0) pending _ _ l h))
  call_keeps (call.SetMode caller feature wanted) =
      let k = call.SetMode caller feature wanted in
      mode_rule s caller feature wanted (Keeps s k) (refusal_keeps s whole k)
      (λ f. record {
        whole = record {
          sound = mode_sound s wanted whole.sound;
          lengths = record {
            cpus = whole.lengths.cpus;
            states = whole.lengths.states;
            requests = whole.lengths.requests;
            suspends = whole.lengths.suspends;
            copies = whole.lengths.copies;
          };
        };
        left = record {
          board = refl;
          tree = refl;
          cpus = λ i n. refl;
          requests = λ level i a b n. refl;
          states = λ d n. refl;
          suspends = refl;
          mode = λ h. absurd (true≢false h);
        };
        asks = λ i l a b. refl;
      })

module _ (s : State) (lengths : Lengths s) (k : Call) where
  -- the tables keep their lengths, sound or not
  pub lengths_stay : Lengths (call_of s k).state
  lengths_stay =
      by (soundb s)
      (λ e. (call_keeps s (record { sound = (is_sound s).to e; lengths = lengths }) k).whole.lengths)
      (λ e. rw (call_unsound s k e) lengths)

  -- and what the test says stays
  pub sound_stays : soundb (call_of s k).state ≡ soundb s
  sound_stays =
      by (soundb s)
      (λ e. (is_sound (call_of s k).state).from (call_keeps s (record { sound = (is_sound s).to e; lengths = lengths }) k).whole.sound ∙ sym e)
      (λ e. ap (λ (a : CallAnswer). soundb a.state) (call_unsound s k e))
