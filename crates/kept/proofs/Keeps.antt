-- What keeps it all: a refusal, an accepted call that does nothing, and a move of the CPU that the call names.
use Prim.Native.Nat.{ℕ, suc, ◌-◌, ◌≤◌}
use mathlib.Core.Bool.{false, cond}
use mathlib.Core.Path.{◌≡◌, refl, sym, ap, ◌∙◌}
use native.Mathlib.Omega.{arith}
use lib.Dec.{eqb}
use Rattle.history.specs.Standing.{stands_after_accepted}
use Rattle.model.specs.Answer.{accepted, refused}
use Rattle.model.specs.Composite.{state_at}
use Rattle.model.specs.declared.answer.Outgoing.{Outgoing}
use Rattle.model.specs.declared.call.Call.{Call}
use Rattle.model.specs.declared.cpu.CpuPowerNode.{CpuPowerNode}
use Rattle.model.specs.declared.state.Domains.{Domains}
use Rattle.model.specs.declared.state.State.{State}
use Rattle.model.specs.Numbers.{Code, acceptedb}
use Rattle.model.specs.Path.{above_of}
use Rattle.model.specs.State.{platform_at, max_at, cpu_at, asked_of}
use Rattle.script.specs.AnswerRecord.{named_of}
use Rattle.sound_laws.proofs.Moved.{Moves, moved_to, moved_asks, moved_other, moved_sound}
use Rattle.kept.specs.Keeps.{Keeps}
use Rattle.kept.specs.Left.{LeftAlone}
use Rattle.kept.specs.Lengths.{SoundRecord}
use Rattle.kept.proofs.Lengths.{AsLong, moved_lengths}

module _ (s : State) (whole : SoundRecord s) (k : Call) where
  -- the state itself
  pub left_same : LeftAlone s k s
  left_same = record {
    board = refl;
    tree = refl;
    cpus = λ i n. refl;
    requests = λ level i a b n. refl;
    states = λ d n. refl;
    suspends = refl;
    mode = λ _. refl;
  }

  -- a refusal keeps it all
  pub refusal_keeps : (code : Code) → acceptedb code ≡ false → Keeps s k (refused s code)
  refusal_keeps code h = record { whole = whole; left = left_same; asks = λ i l a b. simp h }

  -- an accepted call that does nothing
  pub nothing_keeps : (out : Outgoing) → ((i l : ℕ) → state_at (asked_of s i) l ≡ stands_after_accepted (platform_at s) i k (state_at (asked_of s i)) l) →
      Keeps s k (accepted out s)
  nothing_keeps out same = record { whole = whole; left = left_same; asks = λ i l a b. same i l }

  -- the CPU that it names moves
  module _ (r : CpuPowerNode) (d : Domains) (asks : ℕ → ℕ) (m : Moves s (named_of k).0 r d asks) where
    left_moved : LeftAlone s k (moved_to s (named_of k).0 r d)
    left_moved = record {
      board = refl;
      tree = refl;
      cpus = moved_other s whole.sound (named_of k).0 r d asks m;
      requests = λ level i a b n. m.kept level i a b (λ z. absurd (n z));
      states = λ j aside. m.beside j (λ n b e.
          let z : suc n - 1 ≡ n = omega arith in
          aside (suc n) (omega arith) (omega arith)
          (e ∙ ap (above_of s.tree.parents (cpu_at s (named_of k).0).parent.0) (sym z)));
      suspends = m.suspends;
      mode = λ _. refl;
    }

    pub moved_keeps : (out : Outgoing) → AsLong d s.domains →
        ((i l : ℕ) → l ≤ max_at s → cond (eqb i (named_of k).0) (asks l) (state_at (asked_of s i) l)
        ≡ stands_after_accepted (platform_at s) i k (state_at (asked_of s i)) l) →
        Keeps s k (accepted out (moved_to s (named_of k).0 r d))
    moved_keeps out long agree = record {
      whole = record {
        sound = moved_sound s whole.sound (named_of k).0 r d asks m;
        lengths = moved_lengths s (named_of k).0 r d whole.lengths long;
      };
      left = left_moved;
      asks = λ i l a b. moved_asks s whole.sound (named_of k).0 r d asks m i l a b ∙ agree i l b;
    }
