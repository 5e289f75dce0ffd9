-- One leg: its root and its tag.
use mathlib.Core.Path.{◌≡◌, refl, sym, ap, subst, ◌∙◌}
use mathlib.Core.List.{List, [], ◌∷◌}
use mathlib.Core.Bool.{Bool, true, false, not}
use Prim.Native.Nat.{ℕ, suc, ◌+◌, ◌*◌, ◌^◌, ◌≤◌, ◌<◌}
use native.Mathlib.Omega.{arith}
use lib.ListN.{length, get_or}
use lib.Seq.{slice}
use lib.Dec.{eqb}
use borrow.Author.Tests.{le-leb, lt-ltb, eqb-true}
use Rattle.std.proofs.Common.{Option, Some, None, Result, Ok, Err}
use Rattle.std.specs.Option.{IfSome, option_eq}
use Rattle.std.specs.Result.{result_ok}
use Rattle.answers.specs.declared.Refusal.{Refusal}
use Rattle.answers.specs.Answers.{read_said}
use Rattle.rules.specs.declared.Series.{Series}
use Rattle.rules.specs.declared.SymbolParts.{SymbolParts}
use Rattle.rules.specs.declared.RawLeg.{RawLeg}
use Rattle.rules.specs.Numerals.{value, numeral, are_digits}
use Rattle.rules.specs.Symbol.{is_root, parts_of, is_symbol, read_symbol}
use Rattle.rules.specs.Order.{series_of, leg_of}
use Rattle.rules.specs.Pairing.{digit}
use Rattle.rules.specs.Valid.{InRange}
use Rattle.rules.proofs.Numerals.{numeral_value, value_below}
use Rattle.rules.proofs.Slices.{bytes_at, slice_bytes}
use Rattle.rules.proofs.Symbols.{limits, laid, parts_in_layout}
use Rattle.symbol.proofs.Laws.{inside, outside, read_small}
use Rattle.keys.specs.Tags.{key_of, tag_of}
use Rattle.leg_tag.specs.Known.{IsKnown, tag_at}

-- six bytes that say a known root's number are its bytes
byte_digits : (bs : List ℕ) → ((i : ℕ) → get_or bs i 0 < 256) → are_digits 256 0 bs ≡ true
unfolding are_digits
byte_digits [] h = refl
byte_digits (b ∷ bs) h = rw (le-leb 0 b (omega arith), lt-ltb b (0 + 256) (omega (arith, h 0))) (byte_digits bs (λ i. h (suc i)))

pub root_again : (bs : List ℕ) → length bs ≡ 6 → ((i : ℕ) → get_or bs i 0 < 256) → IsKnown (value 256 0 bs) → is_root bs ≡ true
root_again bs l h known =
    let d = byte_digits bs h in
    let same : numeral 256 0 6 (value 256 0 bs) ≡ bs = rw l at (numeral_value 256 0 (omega arith) bs d) in
    let below : value 256 0 bs < 256 ^ 6 = rw l at (value_below 256 0 (omega arith) bs d) in
    ap is_root (sym same) ∙ known below

pub known_root : (known : Option ℕ) {root : ℕ} (bs : List ℕ) → IfSome known IsKnown → length bs ≡ 6 → root ≡ value 256 0 bs → ((i : ℕ) → get_or bs i 0 < 256) → option_eq eqb known (Some root) ≡ true → true ≡ is_root bs
known_root None bs k l e h t = cc
known_root (Some x) {root} bs k l e h t = sym (root_again bs l h (subst IsKnown (eqb-true x root t ∙ e) k))

module _ (s : List ℕ) (long : length s ≡ 21) where
  -- what is said of the bytes of the root
  root_bytes : slice 0 6 s ≡ bytes_at 6 0 s
  root_bytes = slice_bytes 6 0 6 s refl (omega arith)

  pub root_counted : (root : ℕ) → root ≡ value 256 0 (slice 0 6 s) → root ≡ value 256 0 (bytes_at 6 0 s)
  root_counted root e = e ∙ ap (value 256 0) root_bytes

  pub root_good : is_root (bytes_at 6 0 s) ≡ true → is_root (slice 0 6 s) ≡ true
  root_good h = ap is_root root_bytes ∙ h

  pub root_bad : is_root (slice 0 6 s) ≡ false → is_symbol s ≡ false
  unfolding is_symbol
  root_bad h = rw h

  pub root_known : is_symbol s ≡ true → IsKnown (parts_of s).root
  root_known h = λ w. (laid (parts_of s) (parts_in_layout s long h)).1

  -- no tag is 0: the year is not
  tag_some : is_symbol s ≡ true → (bought : Bool) → 0 < tag_at s bought
  tag_some h bought = rw h (omega (arith, (limits (parts_of s) (laid (parts_of s) (parts_in_layout s long h)).2).from))

  -- what the reader gives
  module _ (r : Result SymbolParts Refusal) (read : read_said r ≡ read_symbol s) where
    pub no_tag : None ≡ result_ok r → (bought : Bool) → 0 ≡ tag_at s bought
    no_tag h bought = go r read h
      where
        go : (r : Result SymbolParts Refusal) → read_said r ≡ read_symbol s → None ≡ result_ok r → 0 ≡ tag_at s bought
        go (Ok p) e h = cc
        go (Err x) e h = rw (outside s long x e)

    parts_read : {p : SymbolParts} → Some p ≡ result_ok r → read_said (Ok p) ≡ read_symbol s
    parts_read {p} h = go r read h
      where
        go : (r : Result SymbolParts Refusal) → read_said r ≡ read_symbol s → Some p ≡ result_ok r → read_said (Ok p) ≡ read_symbol s
        go (Ok q) e h = cc
        go (Err x) e h = cc

    module _ {p : SymbolParts} (some : Some p ≡ result_ok r) where
      pub parts_few : (p.year ≤ 2099) × (p.month ≤ 12) × (p.day ≤ 31)
      parts_few = let m = read_small s p (parts_read some) in (m.0, m.1, m.2)

      pub parts_range : {x : Series} → x ≡ series_of p → InRange x
      parts_range e = let m = read_small s p (parts_read some) in rw e (record { expiry = omega (arith, m.0, m.1, m.2); strike = m.3 })

      pub tag_read : {x : Series} {t : ℕ} (bought : Bool) → x ≡ series_of p → t ≡ key_of false x * 2 + digit bought → (t ≡ tag_at s bought) × (0 < t)
      tag_read {x} {t} bought e f =
          let i = inside s long p (parts_read some) in
          let g : t ≡ tag_at s bought = f ∙ rw (e, i.0, i.1) in
          (g, subst (λ n. 0 < n) (sym g) (tag_some i.0 bought))

-- what a tag says of a leg
module _ (raw : RawLeg) where
  pub no_leg : length raw.symbol ≡ 21 → 0 ≡ tag_at raw.symbol raw.bought → not (is_symbol raw.symbol) ≡ true
  no_leg long e = go (is_symbol raw.symbol) refl
    where
      go : (b : Bool) → is_symbol raw.symbol ≡ b → not b ≡ true
      go true h = absurd (omega (arith, tag_some raw.symbol long h raw.bought, e))
      go false h = refl

  pub leg_read : {t : ℕ} → t ≡ tag_at raw.symbol raw.bought → 0 < t → (not (is_symbol raw.symbol) ≡ false) × (t ≡ tag_of false (leg_of raw))
  unfolding leg_of
  leg_read {t} e h = go (is_symbol raw.symbol) refl
    where
      go : (b : Bool) → is_symbol raw.symbol ≡ b → (not b ≡ false) × (t ≡ tag_of false (leg_of raw))
      go true k = (refl, e ∙ rw k)
      go false k = let z : tag_at raw.symbol raw.bought ≡ 0 = rw k in absurd (omega (arith, e, z))
