-- Sums of entries, and the entry that counts a node.
use Prim.Native.Nat.{ℕ, zero, suc, ◌-◌, ◌<◌, ◌≤◌}
use mathlib.Core.Bool.{true, and-eq-true_iff}
use mathlib.Core.List.{List, [], ◌∷◌}
use mathlib.Core.Path.{◌≡◌, ap}
use native.Mathlib.Omega.{arith}
use borrow.Author.Tests.{leb-true, lt-ltb, le-ltb}
use lib.Dec.{leb}
use lib.ListN.{length, take}
use lib.Seq.{take_all, take-length}
use Rattle.basics.proofs.Tests.{below_or}
use Rattle.model.specs.Topology.{total_of, entry_of, entriesb}

-- sums do not fall
pub sum_mono : (t : List ℕ) (a b : ℕ) → a ≤ b → total_of (take a t) ≤ total_of (take b t)
unfolding total_of
sum_mono t zero b h = omega arith
sum_mono [] (suc a) (suc b) h = omega arith
sum_mono (x ∷ xs) (suc a) (suc b) h = omega (arith, sum_mono xs a b (omega arith))
sum_mono t (suc a) zero h = omega arith

-- no sum is more than that of all the entries
pub sum_inside : (t : List ℕ) (a : ℕ) → total_of (take a t) ≤ total_of t
sum_inside t a =
    below_or a (length t) (λ h. omega (arith, sum_mono t a (length t) (omega arith), ap total_of (take-length t)))
    (λ h. omega (arith, ap total_of (take_all a t h)))

-- the first entry and the others
first_one : (x : ℕ) (xs : List ℕ) → entriesb (x ∷ xs) ≡ true → (1 ≤ x) × (entriesb xs ≡ true)
unfolding entriesb
first_one x xs p = let both = (and-eq-true_iff (leb 1 x) (entriesb xs)).0 p in (leb-true 1 x both.0, both.1)

-- sums of entries that are at least 1 rise
pub sum_rise : (t : List ℕ) (a b : ℕ) → entriesb t ≡ true → a < b → b ≤ length t → total_of (take a t) < total_of (take b t)
unfolding total_of
sum_rise [] a b p h k = omega arith
sum_rise (x ∷ xs) a zero p h k = omega arith
sum_rise (x ∷ xs) zero (suc b) p h k = omega (arith, (first_one x xs p).0)
sum_rise (x ∷ xs) (suc a) (suc b) p h k = omega (arith, sum_rise xs a b (first_one x xs p).1 (omega arith) (omega arith))

-- n of them sum to at least n
pub sum_big : (t : List ℕ) (a : ℕ) → entriesb t ≡ true → a ≤ length t → a ≤ total_of (take a t)
unfolding total_of
sum_big t zero p h = omega arith
sum_big [] (suc a) p h = omega arith
sum_big (x ∷ xs) (suc a) p h =
    let both = first_one x xs p in omega (arith, both.0, sum_big xs a both.1 (omega arith))

entry_here : (x : ℕ) (xs : List ℕ) (n : ℕ) → n < x → entry_of (x ∷ xs) n ≡ 0
unfolding entry_of
entry_here x xs n h = simp (lt-ltb n x h)

entry_later : (x : ℕ) (xs : List ℕ) (n : ℕ) → x ≤ n → entry_of (x ∷ xs) n ≡ suc (entry_of xs (n - x))
unfolding entry_of
entry_later x xs n h = simp (le-ltb n x h)

-- a node is below the sum of the first j entries exactly if the entry that counts it is among them
pub entry_below : (t : List ℕ) (n j : ℕ) → n < total_of (take j t) → entry_of t n < j
unfolding total_of
entry_below t n zero h = omega arith
entry_below [] n (suc j) h = omega arith
entry_below (x ∷ xs) n (suc j) h =
    below_or n x (λ l. omega (arith, entry_here x xs n l))
    (λ l. omega (arith, entry_later x xs n l, entry_below xs (n - x) j (omega arith)))

pub below_entry : (t : List ℕ) (n j : ℕ) → n < total_of t → entry_of t n < j → n < total_of (take j t)
unfolding total_of
below_entry t n zero h k = omega arith
below_entry [] n (suc j) h k = omega arith
below_entry (x ∷ xs) n (suc j) h k =
    below_or n x (λ l. omega arith)
    (λ l. let z = entry_later x xs n l in omega (arith, below_entry xs (n - x) j (omega arith) (omega arith)))
