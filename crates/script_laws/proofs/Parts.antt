-- What is left of a list from a place on.
use Prim.Native.Nat.{ℕ, ◌+◌, ◌-◌, ◌<◌, ◌≤◌}
use mathlib.Core.List.{List, [], ◌++◌, append-nil}
use mathlib.Core.Path.{◌≡◌, ◌∙◌}
use native.Mathlib.Omega.{arith}
use borrow.Rule.Slice.PartMut.{put_mid}
use lib.ListN.{length, take, drop, length-drop, drop_of_length-le}
use lib.Seq.{take_all}

-- before the end something is left, and at the end nothing
pub some_left : (at : ℕ) (l : List ℕ) → at < length l → 0 < length (drop at l)
some_left at l h = simp length-drop (omega (arith, h))

pub none_left : (at : ℕ) (l : List ℕ) → length l ≤ at → length (drop at l) ≡ 0
none_left at l h = length-drop at l ∙ omega (arith, h)

-- what lies within what is left lies within the whole
pub within_whole : (at n : ℕ) (l : List ℕ) → at ≤ length l → n ≤ length (drop at l) → at + n ≤ length l
within_whole at n l h i = let j = length-drop at l in omega (arith, h, i, j)

-- the part from `at` on is all that is left
pub all_left : (at : ℕ) (l : List ℕ) → take (length l - at) (drop at l) ≡ drop at l
all_left at l = take_all (length l - at) (drop at l) (simp length-drop (omega arith))

-- a part from `at` on was lent, and is back with a record at its front
pub lent : (at : ℕ) (l p w : List ℕ) → at ≤ length l → p ≡ w ++ drop 13 (take (length l - at) (drop at l)) →
    put_mid at (length l - at) l p ≡ take at l ++ (w ++ drop 13 (drop at l))
lent at l p w h e =
    let n : length (drop at l) ≤ length l - at = simp length-drop (omega arith) in
    let a : take (length l - at) (drop at l) ≡ drop at l = take_all (length l - at) (drop at l) n in
    let z : drop (length l - at) (drop at l) ≡ [] = drop_of_length-le (drop at l) n in
    simp (e, a, z, append-nil)
