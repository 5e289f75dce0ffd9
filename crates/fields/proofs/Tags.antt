-- The tag that bytes begin with.
use mathlib.Core.Path.{◌≡◌, refl, sym, ap}
use mathlib.Core.Bool.{Bool, true, false, cond}
use mathlib.Core.List.{List, [], ◌∷◌}
use Prim.Native.Nat.{ℕ, zero, suc, min, ◌≤◌, ◌<◌}
use native.Mathlib.Omega.{arith}
use lib.Dec.{eqb}
use lib.ListN.{length, get_or, take, get_or-eq_default}
use lib.Seq.{length-take-le}
use borrow.Author.Tests.{le-leb, lt-leb, eq-eqb, ne_eqb}
use Rattle.std.specs.Prelude.{Option, Some, None}
use Rattle.rules.specs.Symbol.{is_digit}
use Rattle.rules.specs.Fix.{leading_digits, is_field, tag_of, is_number}
use Rattle.rules.proofs.Tests.{and_no}
use Rattle.number_values.proofs.Laws.{leading_few, leading_lem, number_of_parts}
use Rattle.fields.specs.declared.Tag.{Tag}
use Rattle.fields.specs.Steps.{tag_in}
use Rattle.fields.proofs.Laws.{field_parts}

-- ---- the digits of the first bytes are those of all bytes, up to so many

pub digits_of_first : (n : ℕ) (s : List ℕ) → leading_digits (take n s) ≡ min n (leading_digits s)
unfolding leading_digits
digits_of_first zero s = omega arith
digits_of_first (suc n) [] = omega arith
digits_of_first (suc n) (b ∷ s) = go (is_digit b) (digits_of_first n s)
  where
    go : (d : Bool) → leading_digits (take n s) ≡ min n (leading_digits s) → cond d (suc (leading_digits (take n s))) 0 ≡ min (suc n) (cond d (suc (leading_digits s)) 0)
    go true h = omega arith
    go false h = omega arith

-- ---- the test, by cases

module _ (s : List ℕ) (k : ℕ) (e : k ≡ leading_digits (take 10 s)) where
  all_digits : k ≤ 9 → k ≡ leading_digits s
  all_digits h = omega (arith, digits_of_first 10 s)

  pub no_digit : k < 1 → false ≡ is_field s
  unfolding is_field
  no_digit h = let a = all_digits (omega arith) in rw (← a, lt-leb 1 k h)

  pub ten_digits : 9 < k → false ≡ is_field s
  unfolding is_field
  ten_digits h = let m : 9 < leading_digits s = omega (arith, digits_of_first 10 s) in rw (lt-leb (leading_digits s) 9 m, and_no)

  pub digit_inside : 1 ≤ k → 0 < length s
  digit_inside h = omega (arith, digits_of_first 10 s, leading_few s)

  pub not_nought : get_or s 0 0 ≡ 48 → false ≡ is_field s
  unfolding is_field
  not_nought h = rw (eq-eqb (get_or s 0 0) 48 h, and_no)

  pub not_cut : length s ≤ k → false ≡ is_field s
  unfolding is_field
  not_cut h = let l : length s ≤ leading_digits s = omega (arith, digits_of_first 10 s) in rw (get_or-eq_default s 0 l, and_no)

  pub tag_stands : 1 ≤ k → k ≤ 9 → (get_or s 0 0 ≡ 48 → ⊥) → eqb (get_or s k 0) 61 ≡ is_field s
  unfolding is_field
  tag_stands l h n = let a = all_digits h in rw (← a, le-leb 1 k l, le-leb k 9 h, ne_eqb (get_or s 0 0) 48 n)

  -- a tag's digits are all that stand in front, and a number
  pub tag_digits : true ≡ is_field s → k ≡ leading_digits s
  tag_digits h = omega (arith, digits_of_first 10 s, (field_parts s (sym h)).nine)

  pub tag_inside : true ≡ is_field s → k ≤ length s
  tag_inside h = omega (arith, tag_digits h, leading_few s)

  pub tag_number : true ≡ is_field s → is_number (take k s) ≡ true
  tag_number h =
      let p = field_parts s (sym h) in
      let a = tag_digits h in
      let l : length (take k s) ≡ k = length-take-le k s (tag_inside h) in
      number_of_parts (record { some = omega (arith, p.some); few = omega (arith, p.nine); digits = rw a (leading_lem s) })

-- the tag `t` stands at the front
pub record Tagged (s : List ℕ) (t : Tag) : Type 0 where
  pub stands : is_field s ≡ true
  pub number : t.number ≡ tag_of s
  pub digits : t.digits ≡ leading_digits s

module _ (s : List ℕ) where
  pub no_tag_lem : None ≡ tag_in s → is_field s ≡ false
  unfolding tag_in
  no_tag_lem e = go (is_field s) refl
    where
      go : (b : Bool) → is_field s ≡ b → is_field s ≡ false
      go true h = let z : ◌≡◌ {A = Option Tag} None (Some (record { number = tag_of s; digits = leading_digits s })) = rw h at e in absurd cc
      go false h = h

  pub tagged : {t : Tag} → Some t ≡ tag_in s → Tagged s t
  unfolding tag_in
  tagged {t} e = go (is_field s) refl
    where
      go : (b : Bool) → is_field s ≡ b → Tagged s t
      go true h =
          let z : ◌≡◌ {A = Option Tag} (Some t) (Some (record { number = tag_of s; digits = leading_digits s })) = rw h at e in
          let y : t ≡ record { number = tag_of s; digits = leading_digits s } = cc in
          record { stands = h; number = ap (λ (u : Tag). u.number) y; digits = ap (λ (u : Tag). u.digits) y }
      go false h = let z : ◌≡◌ {A = Option Tag} (Some t) None = rw h at e in absurd cc
