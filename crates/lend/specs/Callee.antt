-- What the law of a shape takes of its callee: the premise, over what a bound says of a call.
use Rattle.std.specs.Prelude.{◌≡◌}
use denote.Ref.{Bor, MutBor}

-- whatever a call gives is v
abbrev pub Gives : {R : Type 0} → (R → Type 0) → R → Type 0
Gives {R} post v = (r : R) → post r → r ≡ v

-- whatever a call that is lent s gives is v
abbrev pub GivesAt : {S R : Type 0} → (Bor S → R → Type 0) → S → R → Type 0
GivesAt {S} {R} post s v = (lent : Bor S) (r : R) → lent.now ≡ s → post lent r → r ≡ v

-- whatever a call that is lent s leaves there is t
abbrev pub Leaves : {S : Type 0} → (MutBor S → MutBor S → Type 0) → S → S → Type 0
Leaves {S} post s t = (lent left : MutBor S) → lent.now ≡ s → post lent left → left.now ≡ t

-- and what it gives is v
abbrev pub GivesAndLeaves : {S R : Type 0} → (MutBor S → R → MutBor S → Type 0) → S → R → S → Type 0
GivesAndLeaves {S} {R} post s v t =
    (lent left : MutBor S) (r : R) → lent.now ≡ s → post lent r left → (r ≡ v) × (left.now ≡ t)
