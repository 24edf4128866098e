-- Bytes that are put one after the other.
use Prim.Native.Nat.{ℕ, suc, ◌+◌}
use mathlib.Core.List.{List, [], ◌∷◌, ◌++◌, append_assoc}
use mathlib.Core.Path.{◌≡◌, refl, sym, ◌∙◌}
use native.Mathlib.Omega.{arith}
use lib.ListN.{length, set, length-append}
use lib.Seq.{sets}
use Rattle.text.specs.Put.{Put}

-- what is put after other bytes
pub sets_append : (l : List ℕ) (i : ℕ) (xs ys : List ℕ) → sets (sets l i xs) (i + length xs) ys ≡ sets l i (xs ++ ys)
sets_append l i [] ys = let e : i + 0 ≡ i = omega arith in simp e
sets_append l i (x ∷ xs) ys =
    let e : i + suc (length xs) ≡ suc i + length xs = omega arith in
    rw e (sets_append (set l i x) (suc i) xs ys)

-- nothing is put
pub none : (t : List ℕ) (i : ℕ) → Put t i [] t i
none t i = record { text = refl; next = omega arith }

-- bytes, and bytes after them
pub then : {t u v xs ys : List ℕ} {i j k : ℕ} → Put t i xs u j → Put u j ys v k → Put t i (xs ++ ys) v k
then {t} {u} {v} {xs} {ys} {i} {j} {k} p q = record {
  text = q.text ∙ rw (p.next, p.text) (sets_append t i xs ys);
  next = let e = p.next in let f = q.next in simp length-append (omega arith);
}

-- the same bytes in other words
pub alike : {t u xs ys : List ℕ} {i j : ℕ} → Put t i xs u j → xs ≡ ys → Put t i ys u j
alike {t} {u} {xs} {ys} {i} {j} p e = rw e at p

-- two pieces after other bytes
pub then_both : {t u v xs : List ℕ} (ys zs : List ℕ) {i j k : ℕ} → Put t i xs u j → Put u j (ys ++ zs) v k →
    Put t i (xs ++ ys ++ zs) v k
then_both {t} {u} {v} {xs} ys zs p q = alike (then p q) (sym (append_assoc xs ys zs))
