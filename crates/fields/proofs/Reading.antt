-- The field at a place, by what the steps to it find.
use mathlib.Core.Path.{◌≡◌, refl, sym, ap, ◌∙◌}
use mathlib.Core.Bool.{Bool, true, false, cond}
use mathlib.Core.List.{List, [], ◌∷◌, ◌++◌}
use Prim.Native.Nat.{ℕ, zero, suc, ◌+◌, ◌≤◌, ◌<◌}
use native.Mathlib.Omega.{arith}
use lib.Dec.{eqb}
use lib.ListN.{length, get_or, drop, length-drop, drop_of_length-le}
use lib.Seq.{take-append-le, drop-drop}
use borrow.Author.Tests.{ne_eqb}
use Rattle.rules.specs.Lists.{all}
use Rattle.rules.specs.Symbol.{is_digit}
use Rattle.rules.specs.Fix.{leading_digits, is_field, tag_of, fields_of}
use Rattle.rules.proofs.Tests.{and_both, within_both}
use Rattle.field_laws.proofs.Fields.{in_field, Fields, none, some, fields_are, ends_at}
use Rattle.fields.specs.declared.Tag.{Tag}
use Rattle.fields.specs.Fields.{first_at, field_at}
use Rattle.fields.specs.Steps.{tag_in}
use Rattle.fields.proofs.Laws.{field_parts, equals_inside}
use Rattle.fields.proofs.Tags.{Tagged, tagged, no_tag_lem}
use Rattle.fields.proofs.Runs.{run, first_one, no_one}
use Rattle.std.specs.Prelude.{Some, None, position}

-- what the byte 1 behind a field, and all behind that, leave as it is
module _ (r : List ℕ) where
  digits_cut : (f : List ℕ) → leading_digits (f ++ (1 ∷ r)) ≡ leading_digits f
  unfolding leading_digits
  digits_cut [] = refl
  digits_cut (b ∷ f) = rw (digits_cut f)

  byte_cut : (f : List ℕ) (i b : ℕ) → i ≤ length f → 1 < b → eqb (get_or (f ++ (1 ∷ r)) i 0) b ≡ eqb (get_or f i 0) b
  byte_cut [] zero b h k = ne_eqb 1 b (λ e. omega arith) ∙ sym (ne_eqb 0 b (λ e. omega arith))
  byte_cut [] (suc i) b h k = absurd (omega arith)
  byte_cut (x ∷ f) zero b h k = refl
  byte_cut (x ∷ f) (suc i) b h k = byte_cut f i b (omega arith) k

digits_inside : (f : List ℕ) → leading_digits f ≤ length f
unfolding leading_digits
digits_inside [] = omega arith
digits_inside (b ∷ f) = go (is_digit b) (digits_inside f)
  where
    go : (d : Bool) → leading_digits f ≤ length f → cond d (suc (leading_digits f)) 0 ≤ suc (length f)
    go true h = omega arith
    go false h = omega arith

module _ (f r : List ℕ) where
  field_cut : is_field (f ++ (1 ∷ r)) ≡ is_field f
  unfolding is_field
  field_cut = rw (digits_cut r f, byte_cut r f 0 48 (omega arith) (omega arith), byte_cut r f (leading_digits f) 61 (digits_inside f) (omega arith))

  tag_cut : tag_of (f ++ (1 ∷ r)) ≡ tag_of f
  unfolding tag_of
  tag_cut = rw (digits_cut r f, take-append-le (leading_digits f) f (1 ∷ r) (digits_inside f))

-- no byte 1 is among the digits of a tag and its =
run_behind : (s : List ℕ) → get_or s (leading_digits s) 0 ≡ 61 → run s ≡ leading_digits s + 1 + run (drop (leading_digits s + 1) s)
unfolding leading_digits
run_behind [] h = absurd (omega arith)
run_behind (b ∷ s) h = go (is_digit b) refl (run_behind s)
  where
    go : (d : Bool) → is_digit b ≡ d → (get_or s (leading_digits s) 0 ≡ 61 → run s ≡ leading_digits s + 1 + run (drop (leading_digits s + 1) s))
        → run (b ∷ s) ≡ leading_digits (b ∷ s) + 1 + run (drop (leading_digits (b ∷ s) + 1) (b ∷ s))
    go true d ih =
        let k : suc (leading_digits s) + 1 ≡ suc (leading_digits s + 1) = omega arith in
        rw (ne_eqb b 1 (λ x. omega (arith, within_both 48 57 b d)), d, k) (omega (arith, ih (rw d at h)))
    go false d ih = let e : b ≡ 61 = rw d at h in rw (ne_eqb b 1 (λ x. omega arith), d) (omega arith)

run_none : (s : List ℕ) → all in_field s ≡ true → run s ≡ length s
unfolding all
run_none [] h = refl
run_none (b ∷ s) h = let k = and_both (in_field b) _ h in rw k.0 (omega (arith, run_none s k.1))

run_some : (f r : List ℕ) → all in_field f ≡ true → run (f ++ (1 ∷ r)) ≡ length f
unfolding all
run_some [] r h = refl
run_some (b ∷ f) r h = let k = and_both (in_field b) _ h in rw k.0 (omega (arith, run_some f r k.1))

module _ (m : List ℕ) (at : ℕ) where
  pub past_end : length m < at → None ≡ field_at m at
  unfolding field_at first_at fields_of
  past_end h = let k : length m ≤ at = omega arith in rw (drop_of_length-le m {i = at} k)

  pub no_tag : None ≡ tag_in (drop at m) → None ≡ field_at m at
  unfolding field_at first_at
  no_tag n = go (fields_are (drop at m))
    where
      x : is_field (drop at m) ≡ false
      x = no_tag_lem (drop at m) n

      go : Fields (drop at m) → None ≡ field_at m at
      go (none h e) = rw e
      go (some f r h d e) = rw (e, sym (field_cut f r) ∙ ap is_field (sym d) ∙ x)

module _ (m : List ℕ) (at : ℕ) {t : Tag} (e : Some t ≡ tag_in (drop at m)) where
  g : Tagged (drop at m) t
  g = tagged (drop at m) e

  pub start_inside : at + t.digits + 1 ≤ length m
  start_inside = omega (arith, g.digits, equals_inside (drop at m) g.stands, length-drop at m)

  abbrev start : ℕ
  start = at + t.digits + 1

  from_place : start + run (drop start m) ≡ at + run (drop at m)
  from_place =
      let s = drop at m in
      let k : start ≡ at + (leading_digits s + 1) = omega (arith, g.digits) in
      let d : drop start m ≡ drop (leading_digits s + 1) s = rw (k, drop-drop (leading_digits s + 1) at m) in
      omega (arith, g.digits, ap run d, run_behind s (field_parts s g.stands).equals)

  pub no_end : None ≡ position (λ b. eqb b 1) (drop start m) → None ≡ field_at m at
  unfolding field_at first_at
  no_end x = go (fields_are (drop at m))
    where
      go : Fields (drop at m) → None ≡ field_at m at
      go (none h y) = rw y
      go (some f r h d y) = absurd (omega (arith, from_place, no_one (drop start m) x, length-drop start m, start_inside, ap run d, run_some f r h, ends_at m at f r d))

  -- `n` bytes stand before the byte 1
  pub whole : {n : ℕ} → Some n ≡ position (λ b. eqb b 1) (drop start m) → Some (record { tag = t.number; value = record { start = start; end = start + n }; next = start + n + 1 }) ≡ field_at m at
  unfolding field_at first_at
  whole {n} x = go (fields_are (drop at m))
    where
      one : (n ≡ run (drop start m)) × (n < length (drop start m))
      one = first_one (drop start m) x

      go : Fields (drop at m) → Some (record { tag = t.number; value = record { start = start; end = start + n }; next = start + n + 1 }) ≡ field_at m at
      go (none h y) = absurd (omega (arith, from_place, one.0, one.1, run_none (drop at m) h, length-drop at m, length-drop start m, start_inside))
      go (some f r h d y) =
          let k : is_field f ≡ true = sym (field_cut f r) ∙ ap is_field (sym d) ∙ g.stands in
          let c : t.number ≡ tag_of f = g.number ∙ ap tag_of d ∙ tag_cut f r in
          let l : leading_digits (drop at m) ≡ leading_digits f = ap leading_digits d ∙ digits_cut r f in
          let a : start ≡ at + (leading_digits f + 1) = omega (arith, g.digits) in
          let b : start + n ≡ at + length f = omega (arith, from_place, one.0, ap run d, run_some f r h) in
          rw (y, k, c, b, a)
