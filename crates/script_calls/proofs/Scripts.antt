-- A whole script: its run, or none.
use Prim.Native.Nat.{ℕ}
use mathlib.Core.Bool.{true, false}
use mathlib.Core.List.{List, [], ◌∷◌}
use mathlib.Core.Path.{◌≡◌, refl, sym, ap, ◌∙◌}
use lib.IntN.{ℤ}
use Rattle.model.specs.Numbers.{acceptedb, number_of}
use Rattle.script.specs.Run.{Run, out_after, run_of, start_of}
use Rattle.script.specs.declared.run.RunAnswer.{RunAnswer}
use Rattle.script.specs.declared.run.Start.{Start}
use Rattle.script_calls.specs.Script.{run_from, script_of}

module _ (budget room : ℕ) (board events out : List ℕ) {s : Start} (hs : s ≡ start_of board) where
  -- what comes of a script
  abbrev Comes : ℤ → ℕ → List ℕ → Run → Type 0
  Comes n taken out' w = (n ≡ number_of w.answer.closing) × (taken ∷ [] ≡ w.answer.events ∷ []) × (out' ≡ out_after out w)

  is_from : run_from budget room events s ≡ script_of budget room board events
  unfolding script_of
  is_from = ap (run_from budget room events) hs

  pub script_run_lem : acceptedb s.code ≡ true → {x : RunAnswer} {out' : List ℕ} {n : ℤ} →
      x ≡ (run_of budget room events 0 s.state).answer → out' ≡ out_after out (run_of budget room events 0 s.state) →
      n ≡ number_of x.closing → Comes n x.events out' (script_of budget room board events)
  script_run_lem h hx ho hn =
      rw (sym is_from)
      (simp h (hn ∙ ap (λ (y : RunAnswer). number_of y.closing) hx, ap (λ (y : RunAnswer). y.events ∷ []) hx, ho))

  pub script_none : acceptedb s.code ≡ false → {n : ℤ} → n ≡ number_of s.code → Comes n 0 out (script_of budget room board events)
  script_none h hn = rw (sym is_from) (simp h (hn, refl, refl))
