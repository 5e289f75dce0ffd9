-- The field at a place of a message: what it is, where it stands, and what comes behind it.
use mathlib.Core.Path.{◌≡◌, refl, sym, ap, ◌∙◌}
use mathlib.Core.Bool.{Bool, true, false, cond, not, ◌&&◌}
use mathlib.Core.List.{List, [], ◌∷◌}
use Prim.Native.Nat.{ℕ, zero, suc, ◌+◌, ◌-◌, ◌≤◌, ◌<◌, suc-le-suc}
use native.Mathlib.Omega.{arith}
use native.Mathlib.Nat.{one-le-pow, le-mul_of_pos_right}
use lib.Dec.{eqb}
use lib.ListN.{length, get_or, take, drop, length-drop}
use lib.Seq.{length-take-le, take-add, take_all, drop_at, slice}
use borrow.Author.Tests.{eqb-true, eqb-false}
use Rattle.rules.specs.Limits.{within}
use Rattle.rules.specs.Numerals.{value}
use Rattle.rules.specs.Symbol.{is_digit}
use Rattle.rules.specs.Fix.{leading_digits, is_field, tag_of, value_of, fields_of}
use Rattle.rules.proofs.Tests.{and_both, within_both, not_eq}
use Rattle.field_laws.proofs.Fields.{first_is, ends_at, rest_at, part_at}
use Rattle.fields.specs.declared.Field.{Field}
use Rattle.fields.specs.Fields.{placed_at, first_at, field_at, all_at, fields_at, value_in, Inside}
use Rattle.std.specs.Prelude.{Some, None}
use Rattle.rules.specs.Lists.{All}

-- the part of a message between two places, as code lends it
pub lent : (a e : ℕ) (m : List ℕ) → a ≤ e → e ≤ length m → take (e - a) (drop a m) ≡ slice a e m
lent a e m h k =
    let s : e ≡ a + (e - a) = omega arith in
    let front = drop_at (take a m) (take (e - a) (drop a m)) a (length-take-le a m (omega arith)) in
    sym (ap (λ (n : ℕ). drop a (take n m)) s ∙ ap (drop a) (take-add a (e - a) m) ∙ front)

-- the bytes from a place on, as code lends them
pub behind : (v : List ℕ) (k : ℕ) → take (length v - k) (drop k v) ≡ drop k v
behind v k = take_all (length v - k) (drop k v) (omega (arith, length-drop k v))

-- what a field is, part by part
pub record IsField (f : List ℕ) : Type 0 where
  pub some : 1 ≤ leading_digits f
  pub nine : leading_digits f ≤ 9
  pub first : get_or f 0 0 ≡ 48 → ⊥
  pub equals : get_or f (leading_digits f) 0 ≡ 61

pub field_parts : (f : List ℕ) → is_field f ≡ true → IsField f
unfolding is_field
field_parts f h =
    let a = and_both (within 1 9 (leading_digits f) && not (eqb (get_or f 0 0) 48)) _ h in
    let b = and_both (within 1 9 (leading_digits f)) _ a.0 in
    let w = within_both 1 9 (leading_digits f) b.0 in
    record { some = w.0; nine = w.1; first = eqb-false (get_or f 0 0) 48 (not_eq _ b.1); equals = eqb-true _ 61 a.1 }

-- a byte that is not 0, which stands for none, is among the bytes
byte_inside : (s : List ℕ) (k : ℕ) → 0 < get_or s k 0 → k < length s
byte_inside [] k e = omega arith
byte_inside (x ∷ s) zero e = omega arith
byte_inside (x ∷ s) (suc k) e = suc-le-suc (byte_inside s k e)

-- the = is among the bytes
pub equals_inside : (f : List ℕ) → is_field f ≡ true → leading_digits f < length f
equals_inside f h = let p = field_parts f h in byte_inside f (leading_digits f) (omega (arith, p.equals))

-- a field has no tag 0
pub tag_not_zero : (f : List ℕ) → is_field f ≡ true → tag_of f ≡ 0 → ⊥
unfolding tag_of leading_digits value
tag_not_zero [] h e = omega (arith, (field_parts [] h).some)
tag_not_zero (b ∷ s) h e = go (is_digit b) refl (field_parts (b ∷ s) h)
  where
    go : (d : Bool) → is_digit b ≡ d → IsField (b ∷ s) → ⊥
    go true d p =
        let v = rw d at e in
        let w = within_both 48 57 b d in
        omega (arith, p.first, le-mul_of_pos_right (b - 48) (one-le-pow (length (take (leading_digits s) s)) 10 (omega arith)))
    go false d p = omega (arith, rw d at p.some)

-- the first field from a place on stands at that place
pub stands : (m : List ℕ) (at : ℕ) (f : List ℕ) (fs : List (List ℕ)) → fields_of (drop at m) ≡ f ∷ fs → is_field f ≡ true → field_at m at ≡ Some (placed_at at f)
unfolding field_at first_at
stands m at f fs e h = rw (e, h)

module _ (m : List ℕ) (at : ℕ) (f : List ℕ) (fs : List (List ℕ)) (e : fields_of (drop at m) ≡ f ∷ fs) where
  -- the places of a field's value are its places in the message
  pub value_at_lem : value_in m (placed_at at f) ≡ value_of f
  unfolding value_of
  value_at_lem = let s = first_is (drop at m) f fs e in part_at m at f s.rest s.whole (leading_digits f + 1)

  -- behind it stand the other fields
  pub behind_at : (fields_of (drop (at + length f + 1) m) ≡ fs) × (at + length f + 1 ≤ length m)
  behind_at =
      let s = first_is (drop at m) f fs e in
      (rw (rest_at m at f s.rest s.whole) s.others, omega (arith, ends_at m at f s.rest s.whole))

  -- its value is a part of the message
  pub inside_at : is_field f ≡ true → Inside (length m) (placed_at at f).value
  inside_at h = omega (arith, behind_at.1, equals_inside f h)

-- what stands at a place
pub data Found (m : List ℕ) (at : ℕ) : Type 0 where
  nothing : field_at m at ≡ None → fields_at m at ≡ [] → Found m at
  field : (f : List ℕ) (fs : List (List ℕ)) → fields_of (drop at m) ≡ f ∷ fs → is_field f ≡ true → field_at m at ≡ Some (placed_at at f) → fields_at m at ≡ placed_at at f ∷ fields_at m (placed_at at f).next → Found m at

pub found : (m : List ℕ) (at : ℕ) → Found m at
unfolding field_at first_at fields_at all_at
found m at = go (fields_of (drop at m)) refl
  where
    go : (fs : List (List ℕ)) → fields_of (drop at m) ≡ fs → Found m at
    go [] e = nothing (rw e) (rw e)
    go (f ∷ fs) e = one (is_field f) refl
      where
        one : (b : Bool) → is_field f ≡ b → Found m at
        one true h = field f fs e h (rw (e, h)) (rw (e, h, (behind_at m at f fs e).0))
        one false h = nothing (rw (e, h)) (rw (e, h))

module _ (m : List ℕ) (at : ℕ) where
  pub none_left : None ≡ field_at m at → fields_at m at ≡ []
  none_left e = go (found m at)
    where
      go : Found m at → fields_at m at ≡ []
      go (nothing a b) = b
      go (field f fs k h a b) = absurd cc

  module _ {f : Field} (e : Some f ≡ field_at m at) where
    pub one_left : fields_at m at ≡ f ∷ fields_at m f.next
    one_left = go (found m at)
      where
        go : Found m at → fields_at m at ≡ f ∷ fields_at m f.next
        go (nothing a b) = absurd cc
        go (field g fs k h a b) = let s : f ≡ placed_at at g = cc in rw s b

    pub field_inside : Inside (length m) f.value
    field_inside = go (found m at)
      where
        go : Found m at → Inside (length m) f.value
        go (nothing a b) = absurd cc
        go (field g fs k h a b) = let s : f ≡ placed_at at g = cc in rw s (inside_at m at g fs k h)

    -- a field ends behind its place, and in the message
    pub forward : (at < f.next) × (f.next ≤ length m)
    forward = go (found m at)
      where
        go : Found m at → (at < f.next) × (f.next ≤ length m)
        go (nothing a b) = absurd cc
        go (field g fs k h a b) = let s : f ≡ placed_at at g = cc in rw s (omega arith, (behind_at m at g fs k).1)

-- every value is a part of the message
pub each_inside : (m : List ℕ) (at : ℕ) → All (λ f. Inside (length m) f.value) (fields_at m at)
unfolding fields_at all_at
each_inside m at = go (fields_of (drop at m)) at refl
  where
    go : (fs : List (List ℕ)) (at : ℕ) → fields_of (drop at m) ≡ fs → All (λ f. Inside (length m) f.value) (all_at at fs)
    go [] at e = tt
    go (f ∷ fs) at e = one (is_field f) refl (go fs (at + length f + 1) (behind_at m at f fs e).0)
      where
        one : (b : Bool) → is_field f ≡ b → All (λ f. Inside (length m) f.value) (all_at (at + length f + 1) fs) → All (λ f. Inside (length m) f.value) (cond b (placed_at at f ∷ all_at (at + length f + 1) fs) [])
        one true h ih = (inside_at m at f fs e h, ih)
        one false h ih = tt
