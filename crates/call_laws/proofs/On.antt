-- On: its outcomes, in the order of the checks, and its rule.
use Prim.Native.Nat.{ℕ, ◌<◌, ◌≤◌}
use mathlib.Core.Bool.{Bool, true, false, not, true≢false}
use mathlib.Core.Path.{◌≡◌, refl, sym, ◌∙◌}
use borrow.Author.Tests.{ltb-true, lt-ltb, le-ltb}
use Rattle.std.specs.Prelude.{Ok, Err}
use Rattle.model.specs.declared.answer.CallAnswer.{CallAnswer}
use Rattle.model.specs.declared.call.Call.TheVariants as call
use Rattle.model.specs.declared.code.Refusal.TheVariants as code
use Rattle.model.specs.declared.cpu.AffinityInfo.{AffinityInfo}
use Rattle.model.specs.declared.cpu.AffinityInfo.TheVariants as affinity
use Rattle.model.specs.declared.cpu.EntryPoint.{EntryPoint}
use Rattle.model.specs.declared.sorts.CpuNumber.{CpuNumber}
use Rattle.model.specs.declared.state.State.{State}
use lib.Dec.{ltb}
use Rattle.model.specs.Answer.{decided, nothing_out, accepted, refused}
use Rattle.model.specs.Calls.{call_of, cpu_on_of}
use Rattle.model.specs.Cpu.{onb, pendingb}
use Rattle.model.specs.Numbers.{acceptedb, answer_of, usableb}
use Rattle.model.specs.State.{cpu_count_of, cpu_at, with_cpu}
use Rattle.model.specs.Steps.{pended_of}
use Rattle.call_laws.proofs.Answer.{OfRefusals, must_rule, last_rule}
use Rattle.call_laws.proofs.Caller.{Runs, runs_on, runs_rule}

-- a CPU that is neither On nor OnPending is Off
is_off_lem : (a : AffinityInfo) → not (onb a) ≡ true → not (pendingb a) ≡ true → a ≡ affinity.Off
is_off_lem affinity.On h k = absurd (true≢false (sym h))
is_off_lem affinity.Off h k = refl
is_off_lem affinity.OnPending h k = absurd (true≢false (sym k))

module _ (s : State) (caller target : CpuNumber) (e : EntryPoint) (good : Bool) (answer : ℕ) where
  abbrev answer_to : CallAnswer
  answer_to = call_of s (call.On caller target e good answer)

  abbrev affinity_of : AffinityInfo
  affinity_of = (cpu_at s target.0).affinity_info

  -- the target is OnPending and holds the entry; nothing else changes
  abbrev pub on_done : CallAnswer
  on_done = accepted nothing_out (with_cpu s target.0 (pended_of (cpu_at s target.0) e))

  module _ (r : Runs s caller.0) where
    pub on_unusable : usableb answer ≡ false → answer_to ≡ refused s (Err code.Unusable)
    unfolding cpu_on_of decided
    on_unusable h = runs_on s caller.0 _ on_done r ∙ simp h

    module _ (h₁ : usableb answer ≡ true) where
      pub on_no_target : cpu_count_of s ≤ target.0 → answer_to ≡ refused s (Err code.InvalidParameters)
      unfolding cpu_on_of decided
      on_no_target h = runs_on s caller.0 _ on_done r ∙ simp (h₁, le-ltb _ _ h)

      module _ (h₂ : target.0 < cpu_count_of s) where
        pub on_bad_address : good ≡ false → answer_to ≡ refused s (Err code.InvalidAddress)
        unfolding cpu_on_of decided
        on_bad_address h = runs_on s caller.0 _ on_done r ∙ simp (h₁, lt-ltb _ _ h₂, h)

        module _ (h₃ : good ≡ true) where
          pub on_already : affinity_of ≡ affinity.On → answer_to ≡ refused s (Err code.AlreadyOn)
          unfolding cpu_on_of decided
          on_already h = runs_on s caller.0 _ on_done r ∙ simp (h₁, lt-ltb _ _ h₂, h₃, h)

          pub on_pending : affinity_of ≡ affinity.OnPending → answer_to ≡ refused s (Err code.OnPending)
          unfolding cpu_on_of decided
          on_pending h = runs_on s caller.0 _ on_done r ∙ simp (h₁, lt-ltb _ _ h₂, h₃, h)

          module _ (h₄ : affinity_of ≡ affinity.Off) where
            -- a platform error leaves the target Off
            pub on_platform : acceptedb (answer_of answer) ≡ false →
                answer_to ≡ refused s (answer_of answer)
            unfolding cpu_on_of decided
            on_platform h = runs_on s caller.0 _ on_done r ∙ simp (h₁, lt-ltb _ _ h₂, h₃, h₄, h)

            pub on_accepted : acceptedb (answer_of answer) ≡ true → answer_to ≡ on_done
            unfolding cpu_on_of decided
            on_accepted h = runs_on s caller.0 _ on_done r ∙ simp (h₁, lt-ltb _ _ h₂, h₃, h₄, h)

  -- what holds where on is accepted
  pub record OnAccepted : Type 0 where
    pub caller_runs : Runs s caller.0
    pub exists : target.0 < cpu_count_of s
    pub good_address : good ≡ true
    pub off : affinity_of ≡ affinity.Off
    pub answered : answer_of answer ≡ Ok tt

  -- what holds of every refusal, and of what an accepted on does, holds of its answer
  pub on_rule : (P : CallAnswer → Type 0) → OfRefusals P s → (OnAccepted → P on_done) →
      P answer_to
  unfolding cpu_on_of
  on_rule P refusal acts =
      runs_rule P s on_done refusal caller.0 _
      (λ r. must_rule P s on_done refusal (usableb answer) code.Unusable _
      (λ _. must_rule P s on_done refusal (ltb target.0 (cpu_count_of s)) code.InvalidParameters _
      (λ a. must_rule P s on_done refusal good code.InvalidAddress _
      (λ b. must_rule P s on_done refusal (not (onb affinity_of)) code.AlreadyOn _
      (λ c. must_rule P s on_done refusal (not (pendingb affinity_of)) code.OnPending _
      (λ d. last_rule P s on_done refusal (answer_of answer)
      (λ k. acts
      (record { caller_runs = r; exists = ltb-true _ _ a; good_address = b; off = is_off_lem _ c d; answered = k }))))))))
