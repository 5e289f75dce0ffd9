-- A count of 8 bytes, as the code reads it.
use Rattle.std.proofs.Common.{◌≡◌, List, ℕ, length, w64, arith, ap}
use Rattle.std.specs.Int.{from_le_bytes}
use Rattle.rules.specs.Order.{word}
use Rattle.rules.proofs.Slices.{whole_bytes}

pub word_read : (s : List ℕ) → length s ≡ 8 → from_le_bytes w64 s ≡ word s
unfolding word
word_read s h = omega (arith, ap word (whole_bytes 8 s h))
