-- A value of one byte; digits as a loop reads them, from the front.
use mathlib.Core.Path.{◌≡◌, refl, ap, ◌∙◌}
use mathlib.Core.Bool.{Bool, true, false, cond, not, ◌&&◌}
use mathlib.Core.List.{List, [], ◌∷◌}
use Prim.Native.Nat.{ℕ, suc, ◌≤◌, ◌<◌}
use native.Mathlib.Omega.{arith}
use native.Mathlib.Nat.{pow-le-pow_right}
use lib.ListN.{length, take}
use lib.Dec.{eqb, leb, ltb, leb-suc-suc}
use lib.Pointwise.{pointwise}
use Rattle.std.specs.Prelude.{Option, Some, None, nat_eq, position, unwrap_or}
use Rattle.std.specs.List.{prefix_len, position_or_len}
use Rattle.std.specs.Char.{is_ascii_digit}
use Rattle.std.proofs.lemmas.List.Sums.{prefix_len-le-length}
use borrow.Author.Tests.{le-leb, ltb-false}
use Rattle.rules.specs.Lists.{same_numbers}
use Rattle.rules.specs.Numerals.{value, are_digits}
use Rattle.rules.specs.Fix.{leading_digits, is_number}
use Rattle.rules.proofs.Numerals.{value_below}
use Rattle.rules.proofs.Tests.{and_both, and_of, within_both}
use Rattle.rules.specs.Symbol.{is_digit}

-- `==` of slices
pub same_bytes : (v w : List ℕ) → pointwise nat_eq v w ≡ same_numbers v w
unfolding same_numbers
same_bytes [] [] = refl
same_bytes [] (y ∷ w) = refl
same_bytes (x ∷ v) [] = refl
same_bytes (x ∷ v) (y ∷ w) = ap (λ b. eqb x y && b) (same_bytes v w)

-- ---- digits at the front, and alone

not_not : (d : Bool) → not (not d) ≡ d
not_not true = refl
not_not false = refl

leading_prefix : (v : List ℕ) → prefix_len (λ b. not (not (is_ascii_digit b))) v ≡ leading_digits v
unfolding leading_digits
leading_prefix [] = refl
leading_prefix (b ∷ v) = rw (not_not (is_ascii_digit b), leading_prefix v) (ap (λ n. cond (is_ascii_digit b) n 0) (omega arith))

pub leading_place : {end : Option ℕ} {n : ℕ} (v : List ℕ) → end ≡ position (λ b. not (is_ascii_digit b)) v → n ≡ unwrap_or end (length v) → (n ≡ leading_digits v) × (n ≤ length v)
leading_place {end} {n} v e f =
    let k = position_or_len (λ b. not (is_ascii_digit b)) v in
    let le : k ≤ length v = prefix_len-le-length _ v in
    let g : n ≡ unwrap_or (position (λ b. not (is_ascii_digit b)) v) (length v) = rw e at f in
    go (ltb k (length v)) refl g le
  where
    k : ℕ
    k = position_or_len (λ b. not (is_ascii_digit b)) v

    go : (b : Bool) → ltb k (length v) ≡ b → n ≡ unwrap_or (cond b (Some k) None) (length v) → k ≤ length v → (n ≡ leading_digits v) × (n ≤ length v)
    go true h g le = (g ∙ leading_prefix v, omega arith)
    go false h g le = let l : length v ≤ k = omega (arith, ltb-false k (length v) h) in (omega (arith, leading_prefix v), omega arith)

-- ---- a number

pub record Number (v : List ℕ) : Type 0 where
  pub some : 1 ≤ length v
  pub few : length v ≤ 15
  pub digits : are_digits 10 48 v ≡ true

pub number_parts : (v : List ℕ) → is_number v ≡ true → Number v
unfolding is_number
number_parts v h =
    let p = and_both _ _ h in
    let w = within_both 1 15 (length v) p.0 in
    record { some = w.0; few = w.1; digits = p.1 }

pub number_digits : (v : List ℕ) → is_number v ≡ true → are_digits 10 48 v ≡ true
number_digits v h = (number_parts v h).digits

pub number_of_parts : {v : List ℕ} → Number v → is_number v ≡ true
unfolding is_number
number_of_parts {v} n = rw (le-leb 1 (length v) n.some, le-leb (length v) 15 n.few) n.digits

pub number_few : (v : List ℕ) → is_number v ≡ true → length v ≤ 19
number_few v h = omega (arith, (number_parts v h).few)

pub number_small : (v : List ℕ) → is_number v ≡ true → value 10 48 v < 1000000000000000
number_small v h =
    let n = number_parts v h in
    omega (arith, value_below 10 48 (omega arith) v n.digits, pow-le-pow_right {n = 10} (omega arith) {i = length v} {j = 15} n.few)

-- ---- the digits at the front are digits

pub leading_few : (v : List ℕ) → leading_digits v ≤ length v
unfolding leading_digits
leading_few [] = omega arith
leading_few (b ∷ bs) = go (is_digit b) (leading_few bs)
  where
    go : (d : Bool) → leading_digits bs ≤ length bs → cond d (suc (leading_digits bs)) 0 ≤ suc (length bs)
    go true ih = omega arith
    go false ih = omega arith

pub leading_lem : (v : List ℕ) → are_digits 10 48 (take (leading_digits v) v) ≡ true
unfolding leading_digits are_digits
leading_lem [] = refl
leading_lem (b ∷ bs) = go (is_digit b) refl (leading_lem bs)
  where
    go : (d : Bool) → is_digit b ≡ d → are_digits 10 48 (take (leading_digits bs) bs) ≡ true → are_digits 10 48 (take (cond d (suc (leading_digits bs)) 0) (b ∷ bs)) ≡ true
    go true e ih = let f : leb 48 b && ltb b 58 ≡ true = rw (leb-suc-suc b 57) e in and_of f ih
    go false e ih = refl
