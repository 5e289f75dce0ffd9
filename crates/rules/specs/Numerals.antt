-- Positional numerals, for the digits of a symbol or a message and for a root as one number. A help to the sections of document 01, of no section itself.
use Rattle.std.specs.Prelude.{List, [], ◌∷◌, Bool, true, ◌&&◌, ℕ, zero, suc, ◌+◌, ◌-◌, ◌*◌, ◌/◌, ◌%◌, ◌^◌, length, leb, ltb}

-- the number that digits of base `base` say, the first digit highest; the byte `nought` stands for 0
unfoldable pub value : ℕ → ℕ → List ℕ → ℕ
value base nought [] = 0
value base nought (b ∷ bs) = (b - nought) * base ^ length bs + value base nought bs

-- the number `n` in `k` such digits
unfoldable pub numeral : ℕ → ℕ → ℕ → ℕ → List ℕ
numeral base nought zero n = []
numeral base nought (suc k) n = (n / base ^ k + nought) ∷ numeral base nought k (n % base ^ k)

-- every byte is such a digit
unfoldable pub are_digits : ℕ → ℕ → List ℕ → Bool
are_digits base nought [] = true
are_digits base nought (b ∷ bs) = leb nought b && ltb b (nought + base) && are_digits base nought bs
