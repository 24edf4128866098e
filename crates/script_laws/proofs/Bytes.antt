-- Numbers in bytes: past the end they are 0, and a wide one is two narrower ones.
use Prim.Native.Nat.{ℕ, zero, suc, ◌+◌, ◌*◌, ◌≤◌}
use mathlib.Core.List.{List}
use mathlib.Core.Path.{◌≡◌, refl}
use native.Mathlib.Omega.{arith}
use lib.ListN.{length, get_or-eq_default}
use Rattle.script.specs.Bytes.{byte_at, number_at}

-- past the end a number is 0, however wide
pub number_past : (width : ℕ) (l : List ℕ) (i : ℕ) → length l ≤ i → number_at width l i ≡ 0
unfolding number_at
number_past zero l i h = refl
number_past (suc width) l i h =
    let byte : byte_at l i ≡ 0 = get_or-eq_default l _ h in
    let rest : number_at width l (suc i) ≡ 0 = number_past width l (suc i) (omega arith) in
    omega arith

-- two bytes
pub number_two : (l : List ℕ) (i : ℕ) → number_at 2 l i ≡ byte_at l i + 256 * byte_at l (i + 1)
unfolding number_at
number_two l i =
    let next : i + 1 ≡ suc i = omega arith in
    rw next (omega arith)

-- four bytes are twice two
pub number_four : (l : List ℕ) (i : ℕ) → number_at 4 l i ≡ number_at 2 l i + 65536 * number_at 2 l (i + 2)
unfolding number_at
number_four l i =
    let next : i + 2 ≡ suc (suc i) = omega arith in
    rw next (omega arith)

-- eight bytes are twice four
pub number_eight : (l : List ℕ) (i : ℕ) → number_at 8 l i ≡ number_at 4 l i + 4294967296 * number_at 4 l (i + 4)
unfolding number_at
number_eight l i =
    let next : i + 4 ≡ suc (suc (suc (suc i))) = omega arith in
    rw next (omega arith)
