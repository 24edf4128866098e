-- Numbers in bytes, the lowest byte first.
use Rattle.std.specs.Prelude.{ℕ, zero, suc, ◌+◌, ◌-◌, ◌*◌, ◌/◌, ◌%◌, List, [], ◌∷◌, ℤ, pos, negsuc, get_or}

-- a byte; past the end it is 0
abbrev pub byte_at : List ℕ → ℕ → ℕ
byte_at l i = get_or l i 0

-- the number that so many bytes from a place on are
unfoldable pub number_at : ℕ → List ℕ → ℕ → ℕ
number_at zero l i = 0
number_at (suc width) l i = byte_at l i + 256 * number_at width l (suc i)

-- so many bytes of a number
unfoldable pub bytes_of : ℕ → ℕ → List ℕ
bytes_of zero n = []
bytes_of (suc width) n = n % 256 ∷ bytes_of width (n / 256)

-- the byte of a signed number: -2 is FEh
abbrev pub signed_byte_of : ℤ → ℕ
signed_byte_of (pos n) = n
signed_byte_of (negsuc n) = 255 - n
