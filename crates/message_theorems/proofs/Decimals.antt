-- Numbers and prices written in digits are of their form and say what was written: the digits of a numeral are its value's.
use mathlib.Core.Path.{◌≡◌, refl, ap, ◌∙◌}
use mathlib.Core.List.{List, [], ◌∷◌, ◌++◌}
use mathlib.Core.Bool.{Bool, true, false, cond}
use Prim.Native.Nat.{ℕ, zero, suc, ◌/◌, ◌%◌, ◌^◌, ◌≤◌, ◌<◌}
use native.Mathlib.Omega.{arith}
use lib.Dec.{ltb, lit≤}
use lib.ListN.{length}
use lib.IntN.{ℤ, pos, negsuc, neg_ℤ}
use lib.Seq.{take-append_seam, drop-append_seam, drop-append-add}
use borrow.Author.Tests.{ltb-true, le-leb, ne_eqb}
use Rattle.rules.specs.Limits.{within}
use Rattle.rules.specs.Lists.{all}
use Rattle.rules.specs.Numerals.{numeral, are_digits}
use Rattle.rules.specs.Symbol.{is_digit}
use Rattle.rules.specs.Order.{price_of}
use Rattle.rules.specs.Fix.{leading_digits, is_number, number_of, has_minus, is_amount, are_decimals, mills_of, is_price, price_said, digits_for, decimal, dollars, price_for}
use Rattle.rules.proofs.Tests.{and_of}
use Rattle.rules.proofs.Numerals.{numeral_length, numeral_digits, value_numeral, first_digit}
use Rattle.field_laws.proofs.Fields.{in_field}
use Rattle.message_theorems.specs.Groups.{IsPart}
use Rattle.laws.proofs.Lists.{all_joined}

-- `k` digits are as many as the number `n` needs, one at least
record Enough (most n k : ℕ) : Type 0 where
  some : 1 ≤ k
  few : k ≤ suc most
  holds : n < 10 ^ k

enough : (most n : ℕ) → n < 10 ^ suc most → Enough most n (digits_for most n)
unfolding digits_for
enough zero n h = record { some = omega arith; few = omega arith; holds = h }
enough (suc most) n h = go (ltb n (10 ^ suc most)) refl (enough most n)
  where
    go : (b : Bool) → ltb n (10 ^ suc most) ≡ b → (n < 10 ^ suc most → Enough most n (digits_for most n))
        → Enough (suc most) n (cond b (digits_for most n) (suc (suc most)))
    go true e ih = let k = ih (ltb-true n (10 ^ suc most) e) in record { some = k.some; few = omega arith; holds = k.holds }
    go false e ih = record { some = omega arith; few = omega arith; holds = h }

-- ---- numbers

module _ (n : ℕ) (h : n < 10 ^ 15) where
  fits : Enough 14 n (digits_for 14 n)
  fits = enough 14 n h

  size : length (decimal n) ≡ digits_for 14 n
  size = numeral_length 10 48 (lit≤ tt) (digits_for 14 n) n

  pub decimal_digits : are_digits 10 48 (decimal n) ≡ true
  decimal_digits = numeral_digits 10 48 (lit≤ tt) (digits_for 14 n) n fits.holds

  pub decimal_value : number_of (decimal n) ≡ n
  decimal_value = value_numeral 10 48 (lit≤ tt) (digits_for 14 n) n fits.holds

  decimal_some : 1 ≤ length (decimal n)
  decimal_some = omega (arith, size, fits)

  decimal_within : within 1 15 (length (decimal n)) ≡ true
  decimal_within = and_of (le-leb 1 (length (decimal n)) decimal_some) (le-leb (length (decimal n)) 15 (omega (arith, size, fits)))

  pub decimal_number : is_number (decimal n) ≡ true
  unfolding is_number
  decimal_number = and_of decimal_within decimal_digits

-- digits are no byte 1
pub digits_part : (v : List ℕ) → are_digits 10 48 v ≡ true → IsPart v
unfolding all
digits_part [] h = refl
digits_part (b ∷ v) h =
    let d = first_digit 10 48 (lit≤ tt) b v h in
    rw (ne_eqb b 1 (λ e. omega (arith, d.low))) (digits_part v d.rest)

-- digits end where a byte is none
leading : (v w : List ℕ) (b : ℕ) → are_digits 10 48 v ≡ true → is_digit b ≡ false → leading_digits (v ++ (b ∷ w)) ≡ length v
unfolding leading_digits
leading [] w b h e = rw e
leading (d ∷ v) w b h e =
    let k = first_digit 10 48 (lit≤ tt) d v h in
    rw (le-leb 48 d k.low, le-leb d 57 (omega (arith, k.high))) (ap suc (leading v w b k.rest e))

-- ---- prices

no_minus : (v w : List ℕ) → are_digits 10 48 v ≡ true → 1 ≤ length v → has_minus (v ++ w) ≡ false
no_minus [] w h l = absurd (omega arith)
no_minus (b ∷ v) w h l = let d = first_digit 10 48 (lit≤ tt) b v h in ne_eqb b 45 (λ e. omega (arith, d.low))

module _ (n : ℕ) (h : n < 10 ^ 18) where
  whole : n / 1000 < 10 ^ 15
  whole = omega arith

  -- the digits left and right of the point
  abbrev left : List ℕ
  left = decimal (n / 1000)

  abbrev right : List ℕ
  right = numeral 10 48 3 (n % 1000)

  small : n % 1000 < 10 ^ 3
  small = omega arith

  seam : leading_digits (dollars n) ≡ length left
  seam = leading left right 46 (decimal_digits (n / 1000) whole) refl

  right_size : length right ≡ 3
  right_size = numeral_length 10 48 (lit≤ tt) 3 (n % 1000)

  right_digits : are_digits 10 48 right ≡ true
  right_digits = numeral_digits 10 48 (lit≤ tt) 3 (n % 1000) small

  dollars_amount : is_amount (dollars n) ≡ true
  unfolding is_amount are_decimals
  dollars_amount = rw (seam, drop-append_seam left (46 ∷ right), right_size) (and_of (decimal_within (n / 1000) whole) right_digits)

  dollars_mills : mills_of (dollars n) ≡ n
  unfolding mills_of
  dollars_mills =
      rw (
        seam,
        take-append_seam left (46 ∷ right),
        drop-append-add left (46 ∷ right) 1,
        decimal_value (n / 1000) whole,
        value_numeral 10 48 (lit≤ tt) 3 (n % 1000) small,
        right_size,
      )
      (omega arith)

  dollars_plain : has_minus (dollars n) ≡ false
  dollars_plain = no_minus left (46 ∷ right) (decimal_digits (n / 1000) whole) (decimal_some (n / 1000) whole)

  dollars_part : IsPart (dollars n)
  unfolding all
  dollars_part =
      all_joined in_field left (46 ∷ right) ∙ and_of (digits_part left (decimal_digits (n / 1000) whole)) (digits_part right right_digits)

pub price_form : (z : ℤ) → (price_of z).size.0 < 10 ^ 18 → is_price (price_for z) ≡ true
unfolding is_price price_for price_of
price_form (pos n) h = rw (dollars_plain n h) (dollars_amount n h)
price_form (negsuc n) h = dollars_amount (suc n) h

pub price_part : (z : ℤ) → (price_of z).size.0 < 10 ^ 18 → IsPart (price_for z)
unfolding price_for price_of all
price_part (pos n) h = dollars_part n h
price_part (negsuc n) h = dollars_part (suc n) h

pub price_said_lem : (z : ℤ) → (price_of z).size.0 < 10 ^ 18 → price_said (price_for z) ≡ z
unfolding price_said price_for price_of
price_said_lem (pos n) h = rw (dollars_plain n h) (ap pos (dollars_mills n h))
price_said_lem (negsuc n) h = ap (λ (m : ℕ). neg_ℤ (pos m)) (dollars_mills (suc n) h)
