-- Numerals and their values are each other's inverse, in every base and from every byte for 0.
use mathlib.Core.Path.{◌≡◌, refl, ap, ap₂, ◌∙◌}
use mathlib.Core.List.{List, [], ◌∷◌, ◌++◌}
use mathlib.Core.Bool.{Bool, true, false, ◌&&◌}
use Prim.Native.Nat.{ℕ, zero, suc, ◌+◌, ◌-◌, ◌*◌, ◌/◌, ◌%◌, ◌^◌, ◌≤◌, ◌<◌}
use native.Mathlib.Nat.{mod-lt, div-add-mod', pow-zero, pow-suc, one-le-pow, div-lt_iff_lt-mul, mul-le-mul_right, mul-add-div_right, mul-add-mod_self_right, div-eq_of_lt, mod-eq_of_lt}
use native.Mathlib.Omega.{arith}
use lib.ListN.{length}
use lib.Dec.{leb, ltb}
use borrow.Author.Tests.{leb-true, ltb-true, le-leb, lt-ltb}
use Rattle.rules.specs.Numerals.{value, numeral, are_digits}
use Rattle.rules.proofs.Tests.{and_both}

module _ (base nought : ℕ) (big : 0 < base) where
  power : (k : ℕ) → 0 < base ^ k
  power k = one-le-pow k base big

  pub numeral_length : (k n : ℕ) → length (numeral base nought k n) ≡ k
  unfolding numeral
  numeral_length zero n = refl
  numeral_length (suc k) n = ap suc (numeral_length k (n % base ^ k))

  pub value_numeral : (k n : ℕ) → n < base ^ k → value base nought (numeral base nought k n) ≡ n
  unfolding value numeral
  value_numeral zero n h = omega (arith, pow-zero base)
  value_numeral (suc k) n h =
      let m = n % base ^ k in
      let e : n / base ^ k + nought - nought ≡ n / base ^ k = omega arith in
      rw (e, numeral_length k m, value_numeral k m (mod-lt n (power k))) (div-add-mod' n (base ^ k))

  digit : (k n : ℕ) → n < base ^ suc k → n / base ^ k < base
  digit k n h = (div-lt_iff_lt-mul (power k)).1 (omega (arith, pow-suc base k))

  pub numeral_digits : (k n : ℕ) → n < base ^ k → are_digits base nought (numeral base nought k n) ≡ true
  unfolding are_digits numeral
  numeral_digits zero n h = refl
  numeral_digits (suc k) n h =
      let l = digit k n h in
      rw (le-leb nought (n / base ^ k + nought) (omega arith), lt-ltb (n / base ^ k + nought) (nought + base) (omega arith)) (numeral_digits k (n % base ^ k) (mod-lt n (power k)))

  -- what a digit is, and what stands behind it
  pub record Digit (b : ℕ) (bs : List ℕ) : Type 0 where
    pub low : nought ≤ b
    pub high : b < nought + base
    pub rest : are_digits base nought bs ≡ true

  pub first_digit : (b : ℕ) (bs : List ℕ) → are_digits base nought (b ∷ bs) ≡ true → Digit b bs
  unfolding are_digits
  first_digit b bs h =
      let p = and_both (leb nought b && ltb b (nought + base)) _ h in
      let q = and_both (leb nought b) _ p.0 in
      record { low = leb-true nought b q.0; high = ltb-true b (nought + base) q.1; rest = p.1 }

  pub value_below : (bs : List ℕ) → are_digits base nought bs ≡ true → value base nought bs < base ^ length bs
  unfolding value
  value_below [] h = omega (arith, pow-zero base)
  value_below (b ∷ bs) h =
      let d = first_digit b bs h in
      let l = value_below bs d.rest in
      let m : suc (b - nought) * base ^ length bs ≤ base * base ^ length bs = mul-le-mul_right (base ^ length bs) (omega (arith, d.low, d.high)) in
      omega (arith, pow-suc base (length bs))

  pub numeral_value : (bs : List ℕ) → are_digits base nought bs ≡ true → numeral base nought (length bs) (value base nought bs) ≡ bs
  unfolding value numeral
  numeral_value [] h = refl
  numeral_value (b ∷ bs) h =
      let d = first_digit b bs h in
      let l = value_below bs d.rest in
      let p = base ^ length bs in
      let v = value base nought bs in
      let e₁ : ((b - nought) * p + v) / p ≡ b - nought = mul-add-div_right (power (length bs)) (b - nought) v ∙ omega (arith, div-eq_of_lt l) in
      let e₂ : ((b - nought) * p + v) % p ≡ v = mul-add-mod_self_right (b - nought) p v ∙ mod-eq_of_lt l in
      let e₃ : b - nought + nought ≡ b = omega (arith, d.low) in
      ap₂ ◌∷◌ (ap (λ n. n + nought) e₁ ∙ e₃) (ap (numeral base nought (length bs)) e₂ ∙ numeral_value bs d.rest)

  pub digits_append : (xs ys : List ℕ) → are_digits base nought (xs ++ ys) ≡ are_digits base nought xs && are_digits base nought ys
  unfolding are_digits
  digits_append [] ys = refl
  digits_append (x ∷ xs) ys = go (leb nought x && ltb x (nought + base)) (digits_append xs ys)
    where
      go : (b : Bool) → are_digits base nought (xs ++ ys) ≡ are_digits base nought xs && are_digits base nought ys
          → b && are_digits base nought (xs ++ ys) ≡ b && are_digits base nought xs && are_digits base nought ys
      go true ih = ih
      go false ih = refl
