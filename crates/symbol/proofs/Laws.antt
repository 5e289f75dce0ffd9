-- The bytes of a symbol one by one, as the code reads them, and what the reader answers.
use native.Mathlib.Omega.{arith}
use mathlib.Core.Path.{◌≡◌, refl, sym, ap, ◌∙◌}
use mathlib.Core.Logic.{⊎_elim}
use mathlib.Core.List.{List, ◌++◌}
use mathlib.Core.Bool.{Bool, true, false, cond, ◌&&◌}
use Prim.Native.Nat.{ℕ, ◌+◌, ◌-◌, ◌%◌, ◌≤◌}
use lib.ListN.{length, get_or}
use lib.Seq.{slice}
use lib.Dec.{eqb}
use borrow.Author.Tests.{eqb-true}
use Rattle.std.proofs.Common.{Ok, Err}
use Rattle.rules.specs.declared.SymbolParts.{SymbolParts}
use Rattle.rules.specs.declared.SymbolRead.{SymbolRead}
use Rattle.answers.specs.declared.Refusal.{Refusal}
use Rattle.answers.specs.Answers.{read_said}
use Rattle.rules.specs.Limits.{within}
use Rattle.rules.specs.Numerals.{are_digits}
use Rattle.rules.specs.Symbol.{is_root, is_right, is_strike, month_lengths, leap_day, days_in, day_exists, in_limits, parts_of, is_symbol, refused_read, read_symbol}
use Rattle.rules.proofs.Tests.{and_both, within_both}
use Rattle.rules.proofs.Numerals.{digits_append}
use Rattle.rules.proofs.Slices.{bytes_at, slice_bytes}
use Rattle.rules.proofs.Symbols.{month_small, limits, read_of, read_outside, read_cases}

abbrev Digits : List ℕ → Type 0
Digits bs = are_digits 10 48 bs ≡ true

parted : (xs ys : List ℕ) → Digits (xs ++ ys) → Digits xs × Digits ys
parted xs ys h = and_both _ _ (sym (digits_append 10 48 (omega arith) xs ys) ∙ h)

module _ (s : List ℕ) (long : length s ≡ 21) where
  bytes : (n at to : ℕ) → at + n ≡ to → to ≤ 21 → slice at to s ≡ bytes_at n at s
  bytes n at to e f = slice_bytes n at to s e (omega arith)

  -- the expiry's digits, two and two
  module _ (expiry : Digits (slice 6 12 s)) where
    pairs : Digits (bytes_at 2 6 s) × Digits (bytes_at 2 8 s) × Digits (bytes_at 2 10 s)
    pairs =
        let x = parted (bytes_at 2 6 s) (bytes_at 4 8 s) (rw (bytes 6 6 12 refl (omega arith)) at expiry) in
        let y = parted (bytes_at 2 8 s) (bytes_at 2 10 s) x.1 in
        (x.0, y.0, y.1)

    pub year_digits : Digits (slice 6 8 s)
    year_digits = rw (bytes 2 6 8 refl (omega arith)) pairs.0

    pub month_digits : Digits (slice 8 10 s)
    month_digits = rw (bytes 2 8 10 refl (omega arith)) pairs.1

    pub day_digits : Digits (slice 10 12 s)
    day_digits = rw (bytes 2 10 12 refl (omega arith)) pairs.2

  -- what the reader's answer says of the bytes
  pub outside : (e : Refusal) → read_said (Err e) ≡ read_symbol s → is_symbol s ≡ false
  unfolding parts_of
  outside e h = go (is_symbol s) refl
    where
      go : (b : Bool) → is_symbol s ≡ b → is_symbol s ≡ false
      go true f = let z = ap (λ (x : SymbolRead). x.parts.year) (h ∙ read_of s long f) in absurd (omega (arith, z))
      go false f = f

  pub inside : (p : SymbolParts) → read_said (Ok p) ≡ read_symbol s → (is_symbol s ≡ true) × (p ≡ parts_of s)
  inside p h = go (is_symbol s) refl
    where
      go : (b : Bool) → is_symbol s ≡ b → (is_symbol s ≡ true) × (p ≡ parts_of s)
      go true f = (f, ap (λ (x : SymbolRead). x.parts) (h ∙ read_of s long f))
      go false f = let z : ◌≡◌ {A = ℕ} 0 4 = ap (λ (x : SymbolRead). x.number) (h ∙ read_outside s long f) in absurd (omega arith)

-- the leap day is February's, which has 28 days without it
days_small : (year month : ℕ) → days_in year month ≤ 31
unfolding days_in leap_day
days_small year month = go (eqb month 2 && eqb (year % 4) 0) refl
  where
    go : (leap : Bool) → eqb month 2 && eqb (year % 4) 0 ≡ leap → get_or month_lengths (month - 1) 0 + cond leap 1 0 ≤ 31
    go true e = rw (eqb-true month 2 (and_both _ _ e).0) (omega arith)
    go false e = omega (arith, month_small (month - 1))

abbrev pub Small : SymbolParts → Type 0
Small p = (p.year ≤ 2099) × (p.month ≤ 12) × (p.day ≤ 31) × (p.strike.0 ≤ 99999999)

small : (p : SymbolParts) → in_limits p ≡ true → Small p
unfolding in_limits day_exists
small p h =
    let l = limits p h in
    let a = (and_both _ (is_right p.right) (and_both _ (is_strike p.strike) h).0).0 in
    let day = within_both 1 (days_in p.year p.month) p.day (and_both (within 2000 2099 p.year && within 1 12 p.month) _ a).1 in
    (l.to, l.month, omega (arith, day.1, days_small p.year p.month), l.strike)

-- in every answer: the parts of a refusal are all zero
pub parts_small : (s : List ℕ) → Small (read_symbol s).parts
unfolding is_symbol
parts_small s =
    ⊎_elim
    (λ good. rw good.2 (small (parts_of s) (and_both (is_root (slice 0 6 s) && are_digits 10 48 (slice 6 12 s) && are_digits 10 48 (slice 13 21 s)) _ good.1).1))
    (λ bad. ⊎_elim (λ e. rw e zeros) (λ e. rw e zeros) bad)
    (read_cases s)
  where
    zeros : Small (refused_read 0).parts
    zeros = (omega arith, omega arith, omega arith, omega arith)

-- what is read is small
pub read_small : (s : List ℕ) (p : SymbolParts) → read_said (Ok p) ≡ read_symbol s → Small p
read_small s p h = rw (ap (λ (x : SymbolRead). x.parts) h) (parts_small s)
