-- Six bytes as the low six of eight.
use Rattle.std.proofs.Common.{◌≡◌, List, [], ◌∷◌, ℕ, length, get_or, w64, arith, ap}
use Rattle.std.specs.Int.{from_be_bytes}
use Rattle.rules.specs.Numerals.{value}
use Rattle.rules.proofs.Slices.{whole_bytes}

pub root_value : (s : List ℕ) → length s ≡ 6 → from_be_bytes w64 (0 ∷ 0 ∷ get_or s 0 0 ∷ get_or s 1 0 ∷ get_or s 2 0 ∷ get_or s 3 0 ∷ get_or s 4 0 ∷ get_or s 5 0 ∷ []) ≡ value 256 0 s
unfolding value
root_value s h = omega (arith, ap (value 256 0) (whole_bytes 6 s h))
