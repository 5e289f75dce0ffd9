-- The digits of a tag, as they are read from the front.
use mathlib.Core.Path.{◌≡◌, refl, ap}
use mathlib.Core.Bool.{Bool, true, false, cond}
use mathlib.Core.List.{List, [], ◌∷◌, ◌++◌}
use Prim.Native.Nat.{ℕ, zero, suc, ◌+◌, ◌-◌, ◌*◌, ◌^◌, ◌≤◌, ◌<◌}
use native.Mathlib.Omega.{arith}
use native.Mathlib.Nat.{pow-suc, pow-le-pow_right}
use native.Mathlib.Numerals.{add-one}
use lib.ListN.{length, get_or, take, drop, length-append, get_or-eq_default}
use lib.Seq.{take-suc, drop-cons}
use borrow.Author.Tests.{lt-leb}
use Rattle.std.specs.Prelude.{Some, None}
use Rattle.rules.specs.Numerals.{value}
use Rattle.rules.specs.Symbol.{is_digit}
use Rattle.rules.specs.Fix.{leading_digits, is_field, tag_of}
use Rattle.rules.proofs.Tests.{and_no, within_both}
use Rattle.fields.specs.Steps.{tag_in}
use Rattle.fields.proofs.Tags.{digits_of_first, tag_digits}

-- one digit more behind others
value_snoc : (ds : List ℕ) (b : ℕ) → value 10 48 (ds ++ (b ∷ [])) ≡ value 10 48 ds * 10 + (b - 48)
unfolding value
value_snoc [] b = omega arith
value_snoc (d ∷ ds) b = rw (length-append ds, value_snoc ds b, add-one, pow-suc) (omega arith)

-- digits behind digits
rest_digits : (k : ℕ) (s : List ℕ) → k ≤ leading_digits s → leading_digits s ≡ k + leading_digits (drop k s)
unfolding leading_digits
rest_digits zero s h = omega arith
rest_digits (suc k) [] h = absurd (omega arith)
rest_digits (suc k) (b ∷ s) h = go (is_digit b) (rest_digits k s) h
  where
    go : (d : Bool) → (k ≤ leading_digits s → leading_digits s ≡ k + leading_digits (drop k s)) → suc k ≤ cond d (suc (leading_digits s)) 0 → cond d (suc (leading_digits s)) 0 ≡ suc k + leading_digits (drop k s)
    go true ih h = omega (arith, ih (omega arith))
    go false ih h = absurd (omega arith)

-- the first `k` bytes are digits, and say `n`
pub record Read (s : List ℕ) (k n : ℕ) : Type 0 where
  digits : k ≤ leading_digits s
  says : n ≡ value 10 48 (take k s)
  below : n < 10 ^ k

pub none_read : (s : List ℕ) → Read s 0 0
unfolding value
none_read s = record { digits = omega arith; says = refl; below = omega arith }

module _ {s : List ℕ} {k n : ℕ} (r : Read s k n) where
  -- what up to ten digits say is small
  pub small : k ≤ 10 → n ≤ 10000000000
  small h = omega (arith, r.below, pow-le-pow_right {n = 10} (omega arith) {i = k} {j = 10} h)

  pub turn : (b : ℕ) → k < length s → b ≡ get_or s k 0 → is_digit b ≡ true → Read s (k + 1) (n * 10 + (b - 48))
  unfolding leading_digits
  turn b h e d =
      let more : leading_digits (drop k s) ≡ suc (leading_digits (drop (suc k) s)) = rw (drop-cons s k 0 h, ← e, d) refl in
      record {
        digits = omega (arith, rest_digits k s r.digits, more);
        says = rw (add-one, take-suc s k 0 h, value_snoc, ← e) (ap (λ (x : ℕ). x * 10 + (b - 48)) r.says);
        below = rw (add-one, pow-suc) (omega (arith, r.below, digit_small b d));
      }
    where
      digit_small : (b : ℕ) → is_digit b ≡ true → b - 48 < 10
      digit_small b d = omega (arith, within_both 48 57 b d)

  -- a byte that is no digit ends them
  pub ends : (b : ℕ) → k < length s → b ≡ get_or s k 0 → is_digit b ≡ false → k ≤ 10 → k ≡ leading_digits (take 10 s)
  unfolding leading_digits
  ends b h e d l =
      let none : leading_digits (drop k s) ≡ 0 = rw (drop-cons s k 0 h, ← e, d) refl in
      omega (arith, rest_digits k s r.digits, none, digits_of_first 10 s)

  pub found : k ≡ leading_digits (take 10 s) → true ≡ is_field s → Some (record { number = n; digits = k }) ≡ tag_in s
  unfolding tag_in tag_of
  found e h = let a = tag_digits s k e h in rw (← h, ← a, r.says)

  -- digits up to the end are no tag, and ten are none
  pub cut : length s ≤ k → None ≡ tag_in s
  unfolding tag_in is_field
  cut h = let l : length s ≤ leading_digits s = omega (arith, r.digits) in rw (get_or-eq_default s 0 l, and_no)

  pub ten : 10 ≤ k → None ≡ tag_in s
  unfolding tag_in is_field
  ten h = let m : 9 < leading_digits s = omega (arith, r.digits) in rw (lt-leb (leading_digits s) 9 m, and_no)

pub other : (s : List ℕ) → false ≡ is_field s → None ≡ tag_in s
unfolding tag_in
other s h = rw (← h)
