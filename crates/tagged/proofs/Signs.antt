-- Signs and what they adjust are small, and a local of 64 bits holds them.
use Rattle.std.proofs.Common.{◌≡◌, ℕ, ◌+◌, ◌≤◌, Bool, true, false, ℤ, to_z, of_z, w64, arith}
use Rattle.std.proofs.lemmas.Int.{ints}
use lib.IntN.{nat_abs}
use Rattle.rules.specs.OpenContracts.{sign, adjusted}

pub sign_small : (bought : Bool) → nat_abs (sign bought) ≤ 1
sign_small true = omega arith
sign_small false = omega arith

-- the sign that the code has read
pub sign_held : (bought : Bool) (s : ℤ) → s ≡ sign bought → to_z w64 (of_z w64 s) ≡ sign bought
sign_held true s e = omega (arith, ints)
sign_held false s e = omega (arith, ints)

pub adjusted_small : (f : ℤ) (bought : Bool) (n : ℕ) → nat_abs (adjusted f (sign bought) n) ≤ nat_abs f + n
adjusted_small f true n = omega (arith, ints)
adjusted_small f false n = omega (arith, ints)
