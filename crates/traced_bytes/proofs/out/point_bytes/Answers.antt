use Rattle.std.proofs.Common.{ℕ, ◌≡◌, ◌/◌, arith}
use Rattle.script.specs.Bytes.{bytes_of}
use Rattle.traced_bytes.proofs.out.point_bytes.Goals as goal

-- one division in place of several
module _ (n : ℕ) where
  two : n / 65536 ≡ n / 256 / 256
  two = omega arith

  three : n / 16777216 ≡ n / 256 / 256 / 256
  three = omega arith

  four : n / 4294967296 ≡ n / 256 / 256 / 256 / 256
  four = omega arith

  five : n / 1099511627776 ≡ n / 256 / 256 / 256 / 256 / 256
  five = omega arith

  six : n / 281474976710656 ≡ n / 256 / 256 / 256 / 256 / 256 / 256
  six = omega arith

  seven : n / 72057594037927936 ≡ n / 256 / 256 / 256 / 256 / 256 / 256 / 256
  seven = omega arith

pub returns : goal.returns
unfolding bytes_of
returns c =
    let a = c.args.e.address in
    let b = c.args.e.context in
    rw (
      c.to_le_bytes.ensures,
      c.to_le_bytes-2.ensures,
      two a,
      three a,
      four a,
      five a,
      six a,
      seven a,
      two b,
      three b,
      four b,
      five b,
      six b,
      seven b,
    )
