-- Digits as a loop reads them, from the front.
use Rattle.std.proofs.Common.{◌≡◌, refl, ◌∙◌, List, [], ◌∷◌, true, ◌&&◌, ℕ, suc, ◌+◌, ◌-◌, ◌*◌, ◌^◌, ◌≤◌, ◌<◌, length, get_or, drop, leb, ltb, arith, add-one}
use native.Mathlib.Nat.{pow-zero, pow-suc, one-le-pow, pow-le-pow_right, le-mul_of_pos_right, add-mul}
use Rattle.std.proofs.Math.Seq.{drop-cons, drop-length}
use Rattle.std.specs.List.{list_all}
use Rattle.rules.specs.Numerals.{value, are_digits}
use Rattle.rules.proofs.Numerals.{first_digit, value_below}

-- the test of all bytes at once
pub all_digits : (bs : List ℕ) → are_digits 10 48 bs ≡ list_all (λ b. leb 48 b && ltb b 58) bs
unfolding are_digits
all_digits [] = refl
all_digits (b ∷ bs) = rw (all_digits bs)

-- what is said where the digits before `ds` say `n`
abbrev pub said_with : ℕ → List ℕ → ℕ
said_with n ds = n * 10 ^ length ds + value 10 48 ds

-- what is read of a number is at most the number
read_below : (n : ℕ) (ds v : List ℕ) → said_with n ds ≡ value 10 48 v → are_digits 10 48 v ≡ true → length v ≤ 19 → n < 10000000000000000000
read_below n ds v e h few =
    omega (arith, le-mul_of_pos_right n (one-le-pow (length ds) 10 (omega arith)), value_below 10 48 (omega arith) v h, pow-le-pow_right {n = 10} (omega arith) {i = length v} {j = 19} few)

module _ (v : List ℕ) (i : ℕ) (inside : i < length v) (digits : are_digits 10 48 (drop i v) ≡ true) where
  next_digit : are_digits 10 48 (get_or v i 0 ∷ drop (suc i) v) ≡ true
  next_digit = rw (drop-cons v i 0 inside) at digits

  pub digit_low : 48 ≤ get_or v i 0
  digit_low = (first_digit 10 48 (omega arith) _ _ next_digit).low

  pub digits_rest : are_digits 10 48 (drop (i + 1) v) ≡ true
  digits_rest = rw add-one (first_digit 10 48 (omega arith) _ _ next_digit).rest

  pub said_turn : (n : ℕ) → said_with (n * 10 + (get_or v i 0 - 48)) (drop (i + 1) v) ≡ said_with n (drop i v)
  unfolding value
  said_turn n = rw (add-one, drop-cons v i 0 inside, pow-suc) (omega (arith, add-mul (n * 10) (get_or v i 0 - 48) (10 ^ length (drop (suc i) v))))

  pub turn_below : (n : ℕ) → said_with n (drop i v) ≡ value 10 48 v → are_digits 10 48 v ≡ true → length v ≤ 19 → n * 10 + (get_or v i 0 - 48) < 10000000000000000000
  turn_below n e h few = read_below _ (drop (i + 1) v) v (said_turn n ∙ e) h few

-- nothing is left to read
pub said_end : (n : ℕ) (v : List ℕ) (i : ℕ) → i ≡ length v → said_with n (drop i v) ≡ n
unfolding value
said_end n v i e = rw (e, drop-length v, pow-zero) (omega arith)
