-- The digits at the front, as a loop reads them; values by their parts.
use mathlib.Core.Path.{◌≡◌, refl}
use mathlib.Core.Bool.{true, false, ◌&&◌}
use mathlib.Core.List.{List, [], ◌∷◌}
use Prim.Native.Nat.{ℕ, zero, suc, ◌+◌, ◌-◌, ◌*◌, ◌^◌, ◌≤◌, ◌<◌}
use native.Mathlib.Omega.{arith}
use native.Mathlib.Numerals.{add-one}
use lib.ListN.{length, get_or, take, drop, length-drop, drop_of_length-le}
use lib.Seq.{drop-cons, take_all, length-take-le}
use lib.Dec.{eqb, ltb, leb-zero, leb-suc-suc}
use lib.IntN.{pos, neg_ℤ}
use borrow.Author.Tests.{le-leb, lt-leb, eq-eqb, ne_eqb}
use Rattle.rules.specs.Limits.{within}
use Rattle.rules.specs.Numerals.{value, are_digits}
use Rattle.rules.specs.Order.{price_of}
use Rattle.rules.specs.Fix.{is_number, leading_digits, are_decimals, is_amount, mills_of}
use Rattle.rules.proofs.Numerals.{value_below}
use Rattle.rules.proofs.Tests.{and_both, and_no, within_both}
use Rattle.number_values.proofs.Laws.{Number, number_parts, number_of_parts, leading_few, leading_lem}

-- ---- forms, as code tests them

pub no_decimals : (v : List ℕ) → length v ≡ 0 → true ≡ are_decimals v
unfolding are_decimals
no_decimals [] h = refl
no_decimals (x ∷ xs) h = absurd (omega arith)

module _ (v : List ℕ) (some : length v ≡ 0 → ⊥) where
  pub no_point_first : (get_or v 0 0 ≡ 46 → ⊥) → false ≡ are_decimals v
  unfolding are_decimals
  no_point_first h = go v some h
    where
      go : (v : List ℕ) → (length v ≡ 0 → ⊥) → (get_or v 0 0 ≡ 46 → ⊥) → false ≡ are_decimals v
      go [] s h = absurd (s refl)
      go (b ∷ ds) s h = rw (ne_eqb b 46 h)

  pub long_decimals : 3 < length (drop 1 v) → false ≡ are_decimals v
  unfolding are_decimals
  long_decimals h = go v some h
    where
      go : (v : List ℕ) → (length v ≡ 0 → ⊥) → 3 < length (drop 1 v) → false ≡ are_decimals v
      go [] s h = absurd (s refl)
      go (b ∷ ds) s h = rw (lt-leb (length ds) 3 h, and_no, and_no)

  -- of bytes that are there: the first is the point, the others one to three digits
  pub decimals : get_or v 0 0 ≡ 46 → length (drop 1 v) ≤ 3 → is_number (drop 1 v) ≡ are_decimals v
  unfolding are_decimals is_number
  decimals e h = go v some e h
    where
      go : (v : List ℕ) → (length v ≡ 0 → ⊥) → get_or v 0 0 ≡ 46 → length (drop 1 v) ≤ 3 → is_number (drop 1 v) ≡ are_decimals v
      go [] s e h = absurd (s refl)
      go (b ∷ ds) s e h = rw (eq-eqb b 46 e, le-leb (length ds) 3 h, le-leb (length ds) 15 (omega arith))

-- the bytes from a place on, as code lends them
pub rest_of : (v : List ℕ) (k : ℕ) → take (length v - k) (drop k v) ≡ drop k v
rest_of v k = take_all (length v - k) (drop k v) (omega (arith, length-drop k v))

-- ---- a price by its parts

pub record Amount (v : List ℕ) : Type 0 where
  pub whole : Number (take (leading_digits v) v)
  pub rest : are_decimals (drop (leading_digits v) v) ≡ true

pub amount_parts : (v : List ℕ) → is_amount v ≡ true → Amount v
unfolding is_amount
amount_parts v h =
    let k = leading_digits v in
    let p = and_both _ _ h in
    let w = within_both 1 15 k p.0 in
    let l : length (take k v) ≡ k = length-take-le k v (leading_few v) in
    record { whole = record { some = omega arith; few = omega arith; digits = leading_lem v }; rest = p.1 }

-- the digits behind the point
decimal_parts : (b : ℕ) (ds : List ℕ) → are_decimals (b ∷ ds) ≡ true → Number ds × (length ds ≤ 3)
unfolding are_decimals
decimal_parts b ds d =
    let p = and_both (eqb b 46 && within 1 3 (length ds)) (are_digits 10 48 ds) d in
    let w = within_both 1 3 (length ds) (and_both (eqb b 46) _ p.0).1 in
    (record { some = w.0; few = omega arith; digits = p.1 }, w.1)

pub behind_point : (v : List ℕ) (k : ℕ) → k < length v → are_decimals (drop k v) ≡ true → Number (drop (k + 1) v) × (length (drop (k + 1) v) ≤ 3)
behind_point v k h d = rw add-one (decimal_parts (get_or v k 0) (drop (suc k) v) (rw (drop-cons v k 0 h) at d))

-- the digits before the point, and those behind it, are numbers
pub whole_digits : (v : List ℕ) → is_amount v ≡ true → is_number (take (leading_digits v) v) ≡ true
whole_digits v h = number_of_parts (amount_parts v h).whole

pub behind_digits : (v : List ℕ) (k : ℕ) → k ≡ leading_digits v → k < length v → is_amount v ≡ true
    → (is_number (take (length v - (k + 1)) (drop (k + 1) v)) ≡ true) × (length (take (length v - (k + 1)) (drop (k + 1) v)) ≤ 3)
behind_digits v k e h d =
    let l : leading_digits v < length v = omega arith in
    let n = behind_point v (leading_digits v) l (amount_parts v d).rest in
    rw (rest_of v (k + 1), e) (number_of_parts n.0, n.1)

pub no_point : (v : List ℕ) → leading_digits v ≡ length v → value 10 48 (take (leading_digits v) v) * 1000 ≡ mills_of v
unfolding mills_of value
no_point v e = let l : length v ≤ leading_digits v + 1 = omega arith in rw (drop_of_length-le v {i = leading_digits v + 1} l) (omega arith)

-- as many digits as `k` behind the point
scaled : (v : List ℕ) (k : ℕ) → Number v → length v ≡ k → (value 10 48 v * 10 ^ (3 - length v) ≡ value 10 48 v * 10 ^ (3 - k)) × (value 10 48 v < 10 ^ k)
scaled v k n e = (rw e, rw e at (value_below 10 48 (omega arith) v n.digits))

module _ (v : List ℕ) (h : is_number v ≡ true) (r : ℕ) (e : r ≡ value 10 48 v) where
  pub one_digit : length v ≡ 1 → (r * 100 ≡ value 10 48 v * 10 ^ (3 - length v)) × (r * 100 < 1000)
  one_digit l = let s = scaled v 1 (number_parts v h) l in (omega (arith, s.0), omega (arith, s.1))

  pub two_digits : length v ≡ 2 → (r * 10 ≡ value 10 48 v * 10 ^ (3 - length v)) × (r * 10 < 1000)
  two_digits l = let s = scaled v 2 (number_parts v h) l in (omega (arith, s.0), omega (arith, s.1))

  pub three_digits : length v ≤ 3 → (length v ≡ 1 → ⊥) → (length v ≡ 2 → ⊥) → (r ≡ value 10 48 v * 10 ^ (3 - length v)) × (r < 1000)
  three_digits l x y =
      let n = number_parts v h in
      let l3 : length v ≡ 3 = omega (arith, n.some) in
      let s = scaled v 3 n l3 in
      (omega (arith, s.0), omega (arith, s.1))

-- a price of so many mills with a minus: zero is no price received
pub negative : (n : ℕ) → record { received = ltb 0 n; size = record { 0 = n } } ≡ price_of (neg_ℤ (pos n))
unfolding price_of
negative zero = refl
negative (suc n) = rw (leb-suc-suc 0 n, leb-zero n)
