-- One field at a place of a message, by its list of fields: what stands behind it, or, where there is none, whether that is the message's end.
use mathlib.Core.Path.{◌≡◌, refl, sym, ap}
use mathlib.Core.List.{List, [], ◌∷◌, ◌++◌}
use mathlib.Core.Bool.{Bool, true, false, ◌&&◌, true≢false}
use Prim.Native.Nat.{ℕ, ◌+◌, ◌≤◌}
use native.Mathlib.Omega.{arith}
use lib.Dec.{eqb}
use lib.ListN.{length, drop, length-append, length-drop}
use borrow.Author.Tests.{ne_eqb}
use Rattle.rules.specs.Lists.{all}
use Rattle.rules.specs.Fix.{fields_of, bytes_of, is_field, value_of, are_fields}
use Rattle.rules.proofs.Tests.{and_both, and_no, and_true}
use Rattle.std.specs.Prelude.{Some, None}
use Rattle.fields.specs.declared.Field.{Field}
use Rattle.fields.specs.Fields.{placed_at, first_at, field_at, fields_at, Inside, value_in}
use Rattle.fields.proofs.Laws.{inside_at, one_left, stands, value_at_lem, behind_at}
use Rattle.scan_laws.proofs.Tests.{same_eqb}

-- in a message of fields each is one
pub each_field : (m : List ℕ) → are_fields m ≡ true → all is_field (fields_of m) ≡ true
unfolding are_fields
each_field m h = (and_both (eqb (length (bytes_of (fields_of m))) (length m)) _ h).1

-- a field, by its bytes, at the place `at`, and the others behind it
pub record Standing (m : List ℕ) (at : ℕ) : Type 0 where
  pub bytes : List ℕ
  pub others : List (List ℕ)
  pub are : fields_of (drop at m) ≡ bytes ∷ others
  pub whole : is_field bytes ≡ true

module _ (m : List ℕ) (at : ℕ) (a : Standing m at) where
  pub one_at : field_at m at ≡ Some (placed_at at a.bytes)
  one_at = stands m at a.bytes a.others a.are a.whole

  pub one_inside : Inside (length m) (placed_at at a.bytes).value
  one_inside = inside_at m at a.bytes a.others a.are a.whole

  pub one_value : value_in m (placed_at at a.bytes) ≡ value_of a.bytes
  one_value = value_at_lem m at a.bytes a.others a.are

  -- the place behind it
  abbrev pub past : ℕ
  past = at + length a.bytes + 1

  pub behind_one : (fields_of (drop past m) ≡ a.others) × (past ≤ length m)
  behind_one = behind_at m at a.bytes a.others a.are

  -- it is the first of the fields from there on
  pub one_first : fields_at m at ≡ placed_at at a.bytes ∷ fields_at m past
  one_first = one_left m at (sym one_at)

  -- there the bytes are fields where they are from it on
  pub fields_behind : are_fields (drop at m) ≡ are_fields (drop past m)
  unfolding are_fields bytes_of all
  fields_behind =
      let b = behind_one in
      let l = length-append a.bytes (1 ∷ bytes_of a.others) in
      let d = length-drop at m in
      let k = length-drop past m in
      let same = same_eqb (length (a.bytes ++ (1 ∷ bytes_of a.others))) (length (drop at m)) (length (bytes_of a.others)) (length (drop past m)) (λ h. omega arith) (λ h. omega arith) in
      rw (a.are, b.0, a.whole) (ap (λ (x : Bool). x && all is_field a.others) same)

module _ (m : List ℕ) (at : ℕ) where
  -- what stands at a place: no field, which is right at the message's end alone, or a field
  pub data Place : Type 0 where
    stop : field_at m at ≡ None → eqb at (length m) ≡ are_fields (drop at m) → (are_fields (drop at m) ≡ true → fields_of (drop at m) ≡ []) → Place
    field : Standing m at → Place

  pub place : at ≤ length m → Place
  unfolding field_at first_at are_fields bytes_of all
  place h = go (fields_of (drop at m)) refl
    where
      go : (fs : List (List ℕ)) → fields_of (drop at m) ≡ fs → Place
      go [] e =
          let d = length-drop at m in
          stop (rw e) (rw (e, and_true) (same_eqb at (length m) 0 (length (drop at m)) (λ k. omega arith) (λ k. omega arith))) (λ k. e)
      go (f ∷ fs) e = one (is_field f) refl
        where
          one : (b : Bool) → is_field f ≡ b → Place
          one true g = field (record { bytes = f; others = fs; are = e; whole = g })
          one false g =
              let b = behind_at m at f fs e in
              stop (rw (e, g)) (rw (e, g, and_no) (ne_eqb at (length m) (λ k. omega arith))) (λ k. absurd (true≢false (sym (rw (e, g, and_no) at k))))

  -- a field that is found stands there
  pub standing : at ≤ length m → {f : Field} → field_at m at ≡ Some f → Standing m at
  standing h {f} n = go (place h)
    where
      go : Place → Standing m at
      go (stop t e l) = absurd cc
      go (field a) = a
