-- Symbols: what an accepted symbol and accepted parts say of each other.
use mathlib.Core.Path.{◌≡◌, refl, sym, ap, ◌∙◌}
use mathlib.Core.List.{List, [], ◌∷◌, ◌++◌}
use mathlib.Core.Logic.{◌⊎◌, inl, inr, ⊎_elim}
use mathlib.Core.Bool.{Bool, true, false, cond, ◌&&◌, ◌||◌, true≢false}
use Prim.Native.Nat.{ℕ, zero, suc, ◌+◌, ◌-◌, ◌%◌, ◌^◌, ◌≤◌, ◌<◌}
use native.Mathlib.Omega.{arith}
use lib.ListN.{length, get_or, drop}
use lib.Seq.{slice, length-slice, take_all}
use lib.Dec.{leb, ltb, eqb}
use borrow.Author.Tests.{leb-true, ltb-true, ltb-false, eqb-true, eqb-false, le-leb, lt-ltb, le-ltb, ne_eqb}
use Rattle.rules.specs.declared.SymbolParts.{SymbolParts}
use Rattle.rules.specs.Limits.{within}
use Rattle.rules.specs.Numerals.{value, numeral, are_digits}
use Rattle.rules.specs.Symbol.{is_root, is_root_tail, are_spaces, is_letter, is_digit, is_right, is_strike, month_lengths, leap_day, days_in, day_exists, in_limits, in_layout, symbol_of, parts_of, is_symbol, refused_read, read_symbol, refused_write, write_symbol}
use Rattle.rules.proofs.Tests.{and_both, and_of, within_both}
use Rattle.rules.proofs.Numerals.{value_numeral, numeral_digits, numeral_value, value_below, digits_append}
use Rattle.rules.proofs.Slices.{bytes_at, slice_bytes}

-- every byte of a root is below 256
spaces_digits : (bs : List ℕ) → are_spaces bs ≡ true → are_digits 256 0 bs ≡ true
unfolding are_spaces are_digits
spaces_digits [] h = refl
spaces_digits (b ∷ bs) h =
    let k = and_both (eqb b 32) _ h in
    let e = eqb-true b 32 k.0 in
    rw (le-leb 0 b (omega arith), lt-ltb b (0 + 256) (omega arith)) (spaces_digits bs k.1)

-- a letter or a digit
root_byte : (b : ℕ) → is_letter b || is_digit b ≡ true → b < 256
root_byte b h = go (is_letter b) (is_digit b) refl refl h
  where
    go : (p q : Bool) → is_letter b ≡ p → is_digit b ≡ q → p || q ≡ true → b < 256
    go true q e f h = omega (arith, (within_both 65 90 b e).1)
    go false true e f h = omega (arith, (within_both 48 57 b f).1)
    go false false e f h = absurd (true≢false (sym h))

tail_digits : (bs : List ℕ) → is_root_tail bs ≡ true → are_digits 256 0 bs ≡ true
unfolding is_root_tail are_digits
tail_digits [] h = refl
tail_digits (b ∷ bs) h = go (is_letter b || is_digit b) refl h (tail_digits bs)
  where
    go : (t : Bool) → is_letter b || is_digit b ≡ t → cond t (is_root_tail bs) (are_spaces (b ∷ bs)) ≡ true → (is_root_tail bs ≡ true → are_digits 256 0 bs ≡ true)
        → leb 0 b && ltb b (0 + 256) && are_digits 256 0 bs ≡ true
    go true e h ih = rw (le-leb 0 b (omega arith), lt-ltb b (0 + 256) (omega (arith, root_byte b e))) (ih h)
    go false e h ih = spaces_digits (b ∷ bs) h

pub root_digits : (bs : List ℕ) → is_root bs ≡ true → are_digits 256 0 bs ≡ true
unfolding is_root are_digits
root_digits [] h = refl
root_digits (b ∷ bs) h =
    let k = and_both (is_letter b) _ h in
    rw (le-leb 0 b (omega arith), lt-ltb b (0 + 256) (omega (arith, (within_both 65 90 b k.0).1))) (tail_digits bs k.1)

-- every entry of the table of month lengths is at most 31
at_most : ℕ → List ℕ → Bool
at_most b [] = true
at_most b (x ∷ xs) = leb x b && at_most b xs

entry : (b : ℕ) (xs : List ℕ) → at_most b xs ≡ true → (i : ℕ) → get_or xs i 0 ≤ b
unfolding at_most
entry b [] h i = omega arith
entry b (x ∷ xs) h zero = leb-true x b (and_both (leb x b) _ h).0
entry b (x ∷ xs) h (suc i) = entry b xs (and_both (leb x b) _ h).1 i

pub month_small : (i : ℕ) → get_or month_lengths i 0 ≤ 31
unfolding at_most
month_small i = entry 31 month_lengths refl i

pub leap_small : (year month : ℕ) → leap_day year month ≤ 1
unfolding leap_day
leap_small year month = go (eqb month 2 && eqb (year % 4) 0)
  where
    go : (b : Bool) → cond b 1 0 ≤ 1
    go true = omega arith
    go false = omega arith

digits_join : (xs ys : List ℕ) → are_digits 10 48 xs ≡ true → are_digits 10 48 ys ≡ true → are_digits 10 48 (xs ++ ys) ≡ true
digits_join xs ys h k = digits_append 10 48 (omega arith) xs ys ∙ and_of h k

digits_part : (xs ys : List ℕ) → are_digits 10 48 (xs ++ ys) ≡ true → (are_digits 10 48 xs ≡ true) × (are_digits 10 48 ys ≡ true)
digits_part xs ys h = and_both _ _ (sym (digits_append 10 48 (omega arith) xs ys) ∙ h)

two_digits : (n : ℕ) → n < 10 ^ 2 → are_digits 10 48 (numeral 10 48 2 n) ≡ true
two_digits n h = numeral_digits 10 48 (omega arith) 2 n h

-- what expiry, type and strike in their limits say of the sizes
pub record Limits (p : SymbolParts) : Type 0 where
  pub from : 2000 ≤ p.year
  pub to : p.year ≤ 2099
  pub month : p.month ≤ 12
  pub day : p.day ≤ 32
  pub right : p.right ≤ 80
  pub strike : p.strike.0 ≤ 99999999

right_small : (b : ℕ) → is_right b ≡ true → b ≤ 80
right_small b h = go (eqb b 67) (eqb b 80) refl refl h
  where
    go : (x y : Bool) → eqb b 67 ≡ x → eqb b 80 ≡ y → x || y ≡ true → b ≤ 80
    go true y e f h = omega (arith, eqb-true b 67 e)
    go false true e f h = omega (arith, eqb-true b 80 f)
    go false false e f h = absurd (true≢false (sym h))

pub limits : (p : SymbolParts) → in_limits p ≡ true → Limits p
unfolding in_limits day_exists days_in
limits p h =
    let a = and_both _ (is_strike p.strike) h in
    let b = and_both _ (is_right p.right) a.0 in
    let c = and_both _ (within 1 (days_in p.year p.month) p.day) b.0 in
    let d = and_both (within 2000 2099 p.year) _ c.0 in
    let year = within_both 2000 2099 p.year d.0 in
    let month = within_both 1 12 p.month d.1 in
    let day = within_both 1 (days_in p.year p.month) p.day c.1 in
    let strike = within_both 1 99999999 p.strike.0 a.1 in
    record {
      from = year.0;
      to = year.1;
      month = month.1;
      day = omega (arith, day.1, month_small (p.month - 1), leap_small p.year p.month);
      right = right_small p.right b.1;
      strike = strike.1;
    }

-- a written symbol
pub symbol_length : (p : SymbolParts) → length (symbol_of p) ≡ 21
unfolding symbol_of numeral
symbol_length p = refl

module _ (p : SymbolParts) (h : in_layout p ≡ true) where
  -- the three tests of the layout
  pub laid : (p.root < 256 ^ 6) × (is_root (numeral 256 0 6 p.root) ≡ true) × (in_limits p ≡ true)
  unfolding in_layout
  laid =
      let a = and_both _ (in_limits p) h in
      let b = and_both (ltb p.root (256 ^ 6)) _ a.0 in
      (ltb-true p.root (256 ^ 6) b.0, b.1, a.1)

  pub parts_of_symbol : parts_of (symbol_of p) ≡ p
  unfolding parts_of symbol_of numeral
  parts_of_symbol =
      let l = limits p laid.2 in
      let root = value_numeral 256 0 (omega arith) 6 p.root laid.0 in
      let year : 2000 + value 10 48 (numeral 10 48 2 (p.year - 2000)) ≡ p.year = omega (arith, value_numeral 10 48 (omega arith) 2 (p.year - 2000) (omega (arith, l.to))) in
      let month = value_numeral 10 48 (omega arith) 2 p.month (omega (arith, l.month)) in
      let day = value_numeral 10 48 (omega arith) 2 p.day (omega (arith, l.day)) in
      let strike = value_numeral 10 48 (omega arith) 8 p.strike.0 (omega (arith, l.strike)) in
      λ i. record { root = root i; year = year i; month = month i; day = day i; right = p.right; strike = record { 0 = strike i } }

  pub symbol_is_symbol : is_symbol (symbol_of p) ≡ true
  unfolding is_symbol symbol_of numeral
  symbol_is_symbol =
      let l = limits p laid.2 in
      let year = two_digits (p.year - 2000) (omega (arith, l.to)) in
      let month = two_digits p.month (omega (arith, l.month)) in
      let day = two_digits p.day (omega (arith, l.day)) in
      let strike = numeral_digits 10 48 (omega arith) 8 p.strike.0 (omega (arith, l.strike)) in
      and_of (and_of (and_of laid.1 (digits_join (numeral 10 48 2 (p.year - 2000)) _ year (digits_join (numeral 10 48 2 p.month) _ month day))) strike) (ap in_limits parts_of_symbol ∙ laid.2)

-- a symbol that is read
module _ (s : List ℕ) (long : length s ≡ 21) (h : is_symbol s ≡ true) where
  said : (is_root (slice 0 6 s) ≡ true) × (are_digits 10 48 (slice 6 12 s) ≡ true) × (are_digits 10 48 (slice 13 21 s) ≡ true) × (in_limits (parts_of s) ≡ true)
  unfolding is_symbol
  said =
      let a = and_both _ (in_limits (parts_of s)) h in
      let b = and_both _ (are_digits 10 48 (slice 13 21 s)) a.0 in
      let c = and_both (is_root (slice 0 6 s)) _ b.0 in
      (c.0, c.1, b.1, a.1)

  bytes : (n at to : ℕ) → at + n ≡ to → to ≤ 21 → slice at to s ≡ bytes_at n at s
  bytes n at to e f = slice_bytes n at to s e (omega arith)

  -- a field of digits is written as it was read
  field : (base nought n at to : ℕ) → 0 < base → at + n ≡ to → to ≤ 21 → are_digits base nought (slice at to s) ≡ true
      → numeral base nought n (value base nought (slice at to s)) ≡ bytes_at n at s
  field base nought n at to big e fits d =
      let l : length (slice at to s) ≡ n = omega (arith, length-slice at to s (omega arith)) in
      ap (λ (k : ℕ). numeral base nought k (value base nought (slice at to s))) (sym l) ∙ numeral_value base nought big (slice at to s) d ∙ bytes n at to e fits

  -- the expiry's digits, two and two
  pairs : (are_digits 10 48 (slice 6 8 s) ≡ true) × (are_digits 10 48 (slice 8 10 s) ≡ true) × (are_digits 10 48 (slice 10 12 s) ≡ true)
  pairs =
      let whole : are_digits 10 48 (slice 6 8 s ++ (slice 8 10 s ++ slice 10 12 s)) ≡ true
      = rw (bytes 2 6 8 refl (omega arith), bytes 2 8 10 refl (omega arith), bytes 2 10 12 refl (omega arith)) (rw (bytes 6 6 12 refl (omega arith)) at said.1) in
      let x = digits_part (slice 6 8 s) (slice 8 10 s ++ slice 10 12 s) whole in
      let y = digits_part (slice 8 10 s) (slice 10 12 s) x.1 in
      (x.0, y.0, y.1)

  root_field : numeral 256 0 6 (value 256 0 (slice 0 6 s)) ≡ slice 0 6 s
  root_field = field 256 0 6 0 6 (omega arith) refl (omega arith) (root_digits (slice 0 6 s) said.0) ∙ sym (bytes 6 0 6 refl (omega arith))

  pub symbol_of_parts : symbol_of (parts_of s) ≡ s
  unfolding symbol_of parts_of
  symbol_of_parts =
      let y = value 10 48 (slice 6 8 s) in
      let year : 2000 + y - 2000 ≡ y = omega arith in
      let whole : bytes_at 21 0 s ≡ s = sym (bytes 21 0 21 refl (omega arith)) ∙ take_all 21 s (omega arith) in
      rw (
        root_field,
        bytes 6 0 6 refl (omega arith),
        year,
        field 10 48 2 6 8 (omega arith) refl (omega arith) pairs.0,
        field 10 48 2 8 10 (omega arith) refl (omega arith) pairs.1,
        field 10 48 2 10 12 (omega arith) refl (omega arith) pairs.2,
        field 10 48 8 13 21 (omega arith) refl (omega arith) said.2,
      )
      whole

  pub parts_in_layout : in_layout (parts_of s) ≡ true
  unfolding in_layout parts_of
  parts_in_layout =
      let b : value 256 0 (slice 0 6 s) < 256 ^ length (slice 0 6 s) = value_below 256 0 (omega arith) (slice 0 6 s) (root_digits (slice 0 6 s) said.0) in
      let l : length (slice 0 6 s) ≡ 6 = length-slice 0 6 s (omega arith) in
      let c : value 256 0 (slice 0 6 s) < 256 ^ 6 = rw l at b in
      and_of (and_of (lt-ltb (value 256 0 (slice 0 6 s)) (256 ^ 6) c) (ap is_root root_field ∙ said.0)) said.3

-- the reader's answers
module _ (s : List ℕ) where
  pub read_of : length s ≡ 21 → is_symbol s ≡ true → read_symbol s ≡ record { number = 0; parts = parts_of s }
  unfolding read_symbol
  read_of l h = rw (l, h)

  pub read_outside : length s ≡ 21 → is_symbol s ≡ false → read_symbol s ≡ refused_read 4
  unfolding read_symbol
  read_outside l h = rw (l, h)

  pub read_not_21 : (length s ≡ 21 → ⊥) → read_symbol s ≡ refused_read 1
  unfolding read_symbol
  read_not_21 l = rw (ne_eqb (length s) 21 l)

  pub read_cases : ((length s ≡ 21) × (is_symbol s ≡ true) × (read_symbol s ≡ record { number = 0; parts = parts_of s })) ⊎ ((read_symbol s ≡ refused_read 1) ⊎ (read_symbol s ≡ refused_read 4))
  read_cases = go (eqb (length s) 21) (is_symbol s) refl refl
    where
      go : (l b : Bool) → eqb (length s) 21 ≡ l → is_symbol s ≡ b
          → ((length s ≡ 21) × (is_symbol s ≡ true) × (read_symbol s ≡ record { number = 0; parts = parts_of s })) ⊎ ((read_symbol s ≡ refused_read 1) ⊎ (read_symbol s ≡ refused_read 4))
      go true true e f = let l = eqb-true (length s) 21 e in inl (l, f, read_of l f)
      go true false e f = inr (inr (read_outside (eqb-true (length s) 21 e) f))
      go false b e f = inr (inl (read_not_21 (eqb-false (length s) 21 e)))

-- the writer's answers
module _ (p : SymbolParts) (buffer : List ℕ) where
  pub write_of : 21 ≤ length buffer → in_layout p ≡ true → write_symbol p buffer ≡ record { number = 0; handed = 21; buffer = symbol_of p ++ drop 21 buffer }
  unfolding write_symbol
  write_of l h = rw (le-ltb (length buffer) 21 l, h)

  pub write_outside : 21 ≤ length buffer → in_layout p ≡ false → write_symbol p buffer ≡ refused_write 4 buffer
  unfolding write_symbol
  write_outside l h = rw (le-ltb (length buffer) 21 l, h)

  pub write_short : length buffer < 21 → write_symbol p buffer ≡ refused_write 2 buffer
  unfolding write_symbol
  write_short l = rw (lt-ltb (length buffer) 21 l)

  pub write_cases : ((21 ≤ length buffer) × (in_layout p ≡ true) × (write_symbol p buffer ≡ record { number = 0; handed = 21; buffer = symbol_of p ++ drop 21 buffer })) ⊎ ((write_symbol p buffer ≡ refused_write 2 buffer) ⊎ (write_symbol p buffer ≡ refused_write 4 buffer))
  write_cases = go (ltb (length buffer) 21) (in_layout p) refl refl
    where
      go : (l b : Bool) → ltb (length buffer) 21 ≡ l → in_layout p ≡ b
          → ((21 ≤ length buffer) × (in_layout p ≡ true) × (write_symbol p buffer ≡ record { number = 0; handed = 21; buffer = symbol_of p ++ drop 21 buffer })) ⊎ ((write_symbol p buffer ≡ refused_write 2 buffer) ⊎ (write_symbol p buffer ≡ refused_write 4 buffer))
      go true b e f = inr (inl (write_short (ltb-true (length buffer) 21 e)))
      go false true e f = let l = ltb-false (length buffer) 21 e in inl (l, f, write_of l f)
      go false false e f = inr (inr (write_outside (ltb-false (length buffer) 21 e) f))

  -- how many bytes are handed back
  pub handed_symbol : (write_symbol p buffer).number ≡ 0 → (21 ≤ length buffer) × (in_layout p ≡ true) × ((write_symbol p buffer).handed ≡ 21)
  handed_symbol h =
      ⊎_elim
      (λ a. (a.0, a.1, rw a.2))
      (λ r. absurd (⊎_elim (λ e. let z : ◌≡◌ {A = ℕ} 2 0 = rw e at h in omega arith) (λ e. let z : ◌≡◌ {A = ℕ} 4 0 = rw e at h in omega arith) r))
      write_cases

  pub handed_nothing : ((write_symbol p buffer).number ≡ 0 → ⊥) → (write_symbol p buffer).handed ≡ 0
  handed_nothing h = ⊎_elim (λ a. absurd (h (rw a.2))) (λ r. ⊎_elim (λ e. rw e) (λ e. rw e) r) write_cases
