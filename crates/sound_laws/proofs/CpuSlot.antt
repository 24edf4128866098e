-- What the test of a CPU's slot stands for.
use Rattle.std.specs.Prelude.{Option, None, Some}
use Prim.Native.Nat.{ℕ, zero, suc, ◌-◌, ◌<◌, ◌≤◌}
use mathlib.Core.Bool.{Bool, true, false, not, true≢false, ◌&&◌}
use mathlib.Core.List.{List}
use mathlib.Core.Path.{◌≡◌, refl, sym, ap, ◌∙◌}
use native.Mathlib.Omega.{arith}
use borrow.Author.Tests.{lt-ltb, le-ltb, ltb-true, ltb-false}
use lib.Dec.{ltb}
use lib.ListN.{get_or}
use Rattle.basics.proofs.Is.{Is, is_as, is_true, is_eq, is_not, is_both, is_if_lt, is_if_eq}
use Rattle.basics.proofs.Tests.{by}
use Rattle.model.specs.Cpu.{onb, heldb}
use Rattle.model.specs.declared.cpu.AffinityInfo.{AffinityInfo}
use Rattle.model.specs.declared.cpu.AffinityInfo.TheVariants as affinity
use Rattle.model.specs.declared.cpu.CpuPowerNode.{CpuPowerNode}
use Rattle.model.specs.declared.cpu.EntryPoint.{EntryPoint}
use Rattle.model.specs.declared.state.State.{State}
use Rattle.model.specs.declared.states.CompositeState.{CompositeState}
use Rattle.model.specs.declared.states.Platform.{Platform}
use Rattle.model.specs.Composite.{state_at, is_valid_suspend_requestb}
use Rattle.model.specs.Limits.{highest_max, levels}
use Rattle.model.specs.Node.{no_suspend_state}
use Rattle.model.specs.Sound.{entry_dueb, SoundCpu}
use Rattle.model.specs.SoundTest.{sameb, asksb, suspends_areb, cpu_usedb, cpu_unusedb, cpu_slot_isb, cpu_slotb}
use Rattle.model.specs.State.{no_cpu, platform_at, max_at, cpu_count_of, cpu_at, request_at, suspend_at, asked_of}
use Rattle.model.specs.States.{run, off_of}
use Rattle.model.proofs.Below.{is_every}
use Rattle.state_laws.proofs.States.{kind_running}
use Rattle.sound_laws.proofs.Levels.{LevelsAre, InRange, NeverDeepens, is_levels_are, is_in_range, is_valid, is_eq_cond, asked_at}

is_same : (a b : Bool) → Is (sameb a b) (a ≡ b)
is_same true true = record { to = λ _. refl; from = λ _. refl }
is_same true false = record { to = sym; from = sym }
is_same false true = record { to = λ h. h; from = λ h. h }
is_same false false = record { to = λ _. refl; from = λ _. refl }

-- what a CPU asks for, by its affinity
record Asks (p : Platform) (a : AffinityInfo) (asked : CompositeState) : Type 0 where
  pub off : onb a ≡ false → LevelsAre p asked (off_of p)
  pub running : onb a ≡ true → asked.level0 ≡ run → LevelsAre p asked run
  pub suspended : onb a ≡ true → (asked.level0 ≡ run → ⊥) → is_valid_suspend_requestb p asked ≡ true

is_asks : (p : Platform) (a : AffinityInfo) (asked : CompositeState) → Is (asksb p a asked) (Asks p a asked)
is_asks p affinity.On asked =
    is_as (is_if_eq asked.level0 run (is_levels_are p asked run) (is_true (is_valid_suspend_requestb p asked)))
    (λ q. record { off = λ e. absurd (true≢false e); running = λ _. q.0; suspended = λ _. q.1 })
    (λ r. (r.running refl, r.suspended refl))
is_asks p affinity.Off asked =
    is_as (is_levels_are p asked (off_of p))
    (λ q. record { off = λ _. q; running = λ e. absurd (true≢false (sym e)); suspended = λ e. absurd (true≢false (sym e)) })
    (λ r. r.off refl)
is_asks p affinity.OnPending asked =
    is_as (is_levels_are p asked (off_of p))
    (λ q. record { off = λ _. q; running = λ e. absurd (true≢false (sym e)); suspended = λ e. absurd (true≢false (sym e)) })
    (λ r. r.off refl)

-- the suspend states of a CPU: none up to level n, and 0 above
record SuspendsAre (s : State) (n c : ℕ) : Type 0 where
  pub none : (level : ℕ) → 1 ≤ level → level ≤ highest_max → level ≤ n → suspend_at s level c ≡ no_suspend_state
  pub zero : (level : ℕ) → 1 ≤ level → level ≤ highest_max → n < level → suspend_at s level c ≡ 0

is_suspends : (s : State) (n c : ℕ) → Is (suspends_areb s.domains.suspends n c) (SuspendsAre s n c)
is_suspends s n c =
    is_as (is_every highest_max (λ l. is_eq_cond (ltb l n) (suspend_at s (suc l) c) no_suspend_state 0))
    (λ q. record {
      none = λ level a b h. at level a ∙ (q (level - 1) (omega arith)).0 (lt-ltb (level - 1) n (omega arith));
      zero = λ level a b h. at level a ∙ (q (level - 1) (omega arith)).1 (le-ltb (level - 1) n (omega arith));
    })
    (λ r l b. (
      λ e. r.none (suc l) (omega arith) (omega arith) (omega (arith, ltb-true l n e)),
      λ e. r.zero (suc l) (omega arith) (omega arith) (omega (arith, ltb-false l n e)),
    ))
  where
    at : (level : ℕ) → 1 ≤ level → suspend_at s level c ≡ suspend_at s (suc (level - 1)) c
    at level a = let z : level ≡ suc (level - 1) = omega arith in ap (λ (l : ℕ). suspend_at s l c) z

-- a slot in use, of a CPU directly under this domain
pub record UsedCpu (s : State) (parent c : ℕ) : Type 0 where
  pub under : (cpu_at s c).parent.0 ≡ parent
  pub cpu : SoundCpu s c
  pub requests_above : (level : ℕ) → max_at s < level → level ≤ highest_max → request_at s level c ≡ 0
  pub suspends_above : (level : ℕ) → max_at s < level → level ≤ highest_max → suspend_at s level c ≡ 0

module _ (s : State) (low : max_at s ≤ highest_max) (parent c : ℕ) where
  abbrev p : Platform
  p = platform_at s

  abbrev asked : CompositeState
  asked = asked_of s c

  used_to : ((cpu_at s c).parent.0 ≡ parent) × InRange p asked → Asks p (cpu_at s c).affinity_info asked →
      heldb (cpu_at s c).entry_point ≡ entry_dueb p (cpu_at s c).affinity_info (cpu_at s c).local_state →
      SuspendsAre s (max_at s) c → UsedCpu s parent c
  used_to q a e n = record {
    under = q.0;
    cpu = record {
      in_range = λ level h. q.1.low level (omega arith) h;
      off = λ o level h. (a.off o).low level (omega arith) h;
      running = λ o r level h. (a.running o r).low level (omega arith) h;
      suspended = λ o d below h. ((is_valid p asked).to (a.suspended o d)).never.step below (omega arith);
      entry = e;
      no_suspend = λ level g h. n.none level g (omega arith) h;
    };
    requests_above = λ level g h. sym (asked_at s c level (omega arith) h) ∙ q.1.high level (omega arith) g;
    suspends_above = λ level g h. n.zero level (omega arith) h g;
  }

  -- above MAX a CPU asks for 0
  high : UsedCpu s parent c → (l : ℕ) → l < levels → max_at s < l → state_at asked l ≡ 0
  high u l b h = asked_at s c l (omega arith) (omega arith) ∙ u.requests_above l h (omega arith)

  range : UsedCpu s parent c → InRange p asked
  range u = record { low = λ l b h. u.cpu.in_range l h; high = high u }

  never : UsedCpu s parent c → onb (cpu_at s c).affinity_info ≡ true → (asked.level0 ≡ run → ⊥) → NeverDeepens p asked
  never u o d = record {
    step = λ below b.
        by (ltb below (max_at s))
        (λ t. u.cpu.suspended o d below (ltb-true below (max_at s) t))
        (λ t.
        let above = high u (suc below) (omega arith) (omega (arith, ltb-false below (max_at s) t)) in
        simp (kind_running p (state_at asked (suc below)) above) (omega arith));
  }

  used_from : UsedCpu s parent c → Asks p (cpu_at s c).affinity_info asked
  used_from u = record {
    off = λ o. record { low = λ l b h. u.cpu.off o l h; high = high u };
    running = λ o r. record { low = λ l b h. u.cpu.running o r l h; high = high u };
    suspended = λ o d. (is_valid p asked).from (record { range = range u; down = d; never = never u o d });
  }

  is_used : Is (cpu_usedb p (cpu_at s c) parent asked && suspends_areb s.domains.suspends (max_at s) c) (UsedCpu s parent c)
  is_used =
      is_as
      (is_both
      (is_both
      (is_both (is_both (is_eq (cpu_at s c).parent.0 parent) (is_in_range p asked)) (is_asks p (cpu_at s c).affinity_info asked))
      (is_same (heldb (cpu_at s c).entry_point) (entry_dueb p (cpu_at s c).affinity_info (cpu_at s c).local_state)))
      (is_suspends s (max_at s) c))
      (λ q. used_to q.0.0.0 q.0.0.1 q.0.1 q.1)
      (λ u. (
        (((u.under, range u), used_from u), u.cpu.entry),
        record { none = λ level g b h. u.cpu.no_suspend level g h; zero = λ level g b h. u.suspends_above level h b },
      ))

-- a slot that is not in use
pub record UnusedCpu (s : State) (c : ℕ) : Type 0 where
  pub cpu : cpu_at s c ≡ no_cpu
  pub requests : (level : ℕ) → 1 ≤ level → level ≤ highest_max → request_at s level c ≡ 0
  pub suspends : (level : ℕ) → 1 ≤ level → level ≤ highest_max → suspend_at s level c ≡ 0

pub on_is : (a : AffinityInfo) → onb a ≡ true → a ≡ affinity.On
on_is affinity.On h = refl
on_is affinity.Off h = absurd (true≢false (sym h))
on_is affinity.OnPending h = absurd (true≢false (sym h))

pub none_is : (e : Option EntryPoint) → heldb e ≡ false → e ≡ None
none_is None h = refl
none_is (Some x) h = absurd (true≢false h)

-- a record of these parts
cpu_of : ℕ → AffinityInfo → ℕ → Option EntryPoint → CpuPowerNode
cpu_of d a x e = record { parent = record { 0 = d }; affinity_info = a; local_state = x; entry_point = e }

no_cpu_is : (d : ℕ) (a : AffinityInfo) (x : ℕ) (e : Option EntryPoint) → d ≡ 0 → a ≡ affinity.On → x ≡ 0 → e ≡ None → cpu_of d a x e ≡ no_cpu
unfolding cpu_of
no_cpu_is d a x e h k m n = rw (h, k, m, n)

zero_cpu : (r : CpuPowerNode) → r.parent.0 ≡ 0 → r.affinity_info ≡ affinity.On → r.local_state ≡ 0 →
    r.entry_point ≡ None → r ≡ no_cpu
unfolding cpu_of
zero_cpu r = no_cpu_is r.parent.0 r.affinity_info r.local_state r.entry_point

is_unused : (s : State) (c : ℕ) →
    Is (cpu_unusedb (platform_at s) (cpu_at s c) (asked_of s c) && suspends_areb s.domains.suspends 0 c) (UnusedCpu s c)
is_unused s c =
    is_as
    (is_both
    (is_both
    (is_both (is_both (is_eq (cpu_at s c).parent.0 0) (is_true (onb (cpu_at s c).affinity_info))) (is_not (heldb (cpu_at s c).entry_point)))
    (is_levels_are (platform_at s) (asked_of s c) 0))
    (is_suspends s 0 c))
    (λ q. record {
      cpu = zero_cpu (cpu_at s c) q.0.0.0.0 (on_is _ q.0.0.0.1) (zeros q.0.1 0 (omega arith)) (none_is _ q.0.0.1);
      requests = λ level g h. sym (asked_at s c level g h) ∙ zeros q.0.1 level (omega arith);
      suspends = λ level g h. q.1.zero level g h (omega arith);
    })
    (λ u. (
      (
        (
          (ap (λ (r : CpuPowerNode). r.parent.0) u.cpu, ap (λ (r : CpuPowerNode). onb r.affinity_info) u.cpu),
          ap (λ (r : CpuPowerNode). heldb r.entry_point) u.cpu,
        ),
        record { low = λ l b h. asks u l b; high = λ l b h. asks u l b },
      ),
      record { none = λ level g b h. absurd (omega arith); zero = λ level g b h. u.suspends level g b },
    ))
  where
    zeros : LevelsAre (platform_at s) (asked_of s c) 0 → (l : ℕ) → l < levels → state_at (asked_of s c) l ≡ 0
    zeros q l b =
        by (ltb (max_at s) l)
        (λ t. q.high l b (ltb-true (max_at s) l t))
        (λ t. q.low l b (ltb-false (max_at s) l t))

    asks : UnusedCpu s c → (l : ℕ) → l < levels → state_at (asked_of s c) l ≡ 0
    asks u zero b = ap (λ (r : CpuPowerNode). r.local_state) u.cpu
    asks u (suc l) b = asked_at s c (suc l) (omega arith) (omega arith) ∙ u.requests (suc l) (omega arith) (omega arith)

-- the slot of a CPU: in use where there is one, else not
pub is_cpu_slot : (s : State) → max_at s ≤ highest_max → (parents : List ℕ) (c : ℕ) →
    Is (cpu_slotb (platform_at s) (cpu_count_of s) s.cpus parents s.domains c)
    ((c < cpu_count_of s → UsedCpu s (get_or parents c 0) c) × (cpu_count_of s ≤ c → UnusedCpu s c))
unfolding cpu_slotb cpu_slot_isb
is_cpu_slot s low parents c = is_if_lt c (cpu_count_of s) (is_used s low (get_or parents c 0) c) (is_unused s c)
