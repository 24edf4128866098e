-- A promise is tight if any two outcomes that it allows on the same inputs are equal. An outcome is the result together with all
-- that was lent for change, as it is given back.
use mathlib.Core.Path.{◌≡◌, refl, sym, ◌∙◌, ap}

-- The law: where a promise equates the outcome with what a definition gives for the inputs, any two outcomes that it allows are
-- equal. The outcome may stand in a record there, if its parts can be had back from it.
pub one_outcome : {Inputs Outcome Record : Type 0} (gather : Outcome → Record) (parts : Record → Outcome) →
    ((x : Outcome) → parts (gather x) ≡ x) → (definition : Inputs → Record) (i : Inputs) (a b : Outcome) →
    gather a ≡ definition i → gather b ≡ definition i → a ≡ b
one_outcome gather parts back definition i a b p q = sym (back a) ∙ ap parts (p ∙ sym q) ∙ back b

-- an equation of the result alone, or of one thing that is lent
pub one_result : {Inputs Result : Type 0} (definition : Inputs → Result) (i : Inputs) (a b : Result) →
    a ≡ definition i → b ≡ definition i → a ≡ b
one_result = one_outcome (λ x. x) (λ x. x) (λ x. refl)

-- equal parts make equal pairs
both_equal : {A B : Type 0} (x y : A × B) → x.0 ≡ y.0 → x.1 ≡ y.1 → x ≡ y
both_equal {A} {B} x y p q = ap (λ (z : A). (z, x.1)) p ∙ ap (λ (z : B). (y.0, z)) q

-- an equation of the result and one of what is lent; more things that are lent are a pair again
pub one_result_and_lent : {Inputs Result Lent : Type 0} (result : Inputs → Result) (lent : Inputs → Lent) (i : Inputs)
    (a b : Result × Lent) → (a.0 ≡ result i) × (a.1 ≡ lent i) → (b.0 ≡ result i) × (b.1 ≡ lent i) → a ≡ b
one_result_and_lent result lent i a b p q =
    one_result (λ j. (result j, lent j)) i a b
    (both_equal a (result i, lent i) p.0 p.1) (both_equal b (result i, lent i) q.0 q.1)
