-- The head of a message, read by places, is its first three fields: they are there where the head is right, and where the frame is.
use mathlib.Core.Path.{◌≡◌, refl, sym, ap, ◌∙◌}
use mathlib.Core.List.{List, [], ◌∷◌}
use mathlib.Core.Bool.{Bool, true, cond, ◌&&◌, true≢false}
use Prim.Native.Nat.{ℕ}
use native.Mathlib.Omega.{arith}
use lib.Dec.{eqb}
use lib.ListN.{drop}
use Rattle.rules.specs.Lists.{all}
use Rattle.rules.specs.Fix.{fields_of, is_field, tag_of, value_of, are_fields, is_number, number_of, says, version, multileg, all_but_last, last_of, has_frame}
use Rattle.rules.proofs.Tests.{and_both}
use Rattle.fields.specs.Fields.{placed_at, field_at}
use Rattle.std.specs.Prelude.{Option, Some, None, option_and_then}
use Rattle.fields.specs.declared.Field.{Field}
use Rattle.frame.specs.declared.Head.{Head}
use Rattle.frame.specs.Frame.{head_from, head_of}
use Rattle.scan_laws.proofs.Standing.{each_field, Standing, one_at, one_value, past, behind_one, fields_behind, standing}

-- the first three fields of a message
pub record Opened (m : List ℕ) : Type 0 where
  pub field8 : Standing m 0
  pub field9 : Standing m (past m 0 field8)
  pub field35 : Standing m (past m _ field9)

-- what a step that may fail gives to the next
and_then_some : {A B : Type 0} {k : A → Option B} {b : B} (o : Option A) → option_and_then k o ≡ Some b → (x : A) × ((o ≡ Some x) × (k x ≡ Some b))
and_then_some None e = absurd cc
and_then_some (Some x) e = (x, (refl, e))

module _ (m : List ℕ) where
  pub head_opened : {h : Head} → head_of m ≡ Some h → Opened m
  unfolding head_of
  head_opened {h} r =
      let (f8, (p8, r8)) = and_then_some (field_at m 0) r in
      let a = standing m 0 (omega arith) p8 in
      let s8 : f8 ≡ placed_at 0 a.bytes = cc (one_at m 0 a) in
      let (f9, (p9, r9)) = and_then_some (field_at m f8.next) r8 in
      let b = standing m (past m 0 a) (behind_one m 0 a).1 (ap (λ (f : Field). field_at m f.next) (sym s8) ∙ p9) in
      let s9 : f9 ≡ placed_at (past m 0 a) b.bytes = cc (one_at m _ b) in
      let (f35, (p35, r35)) = and_then_some (field_at m f9.next) r9 in
      record { field8 = a; field9 = b; field35 = standing m (past m _ b) (behind_one m _ b).1 (ap (λ (f : Field). field_at m f.next) (sym s9) ∙ p35) }

  pub frame_opened : are_fields m && has_frame (fields_of m) ≡ true → Opened m
  unfolding all has_frame
  frame_opened h = let k = and_both (are_fields m) _ h in go (fields_of m) refl (each_field m k.0) k.1
    where
      go : (fs : List (List ℕ)) → fields_of m ≡ fs → all is_field fs ≡ true → has_frame fs ≡ true → Opened m
      go [] e t f = absurd (true≢false (sym f))
      go (f8 ∷ []) e t f = absurd (true≢false (sym f))
      go (f8 ∷ f9 ∷ []) e t f = absurd (true≢false (sym f))
      go (f8 ∷ f9 ∷ f35 ∷ rest) e t f =
          let k = and_both (is_field f8) _ t in
          let l = and_both (is_field f9) _ k.1 in
          let a : Standing m 0 = record { bytes = f8; others = f9 ∷ f35 ∷ rest; are = e; whole = k.0 } in
          let b : Standing m (past m 0 a) = record { bytes = f9; others = f35 ∷ rest; are = (behind_one m 0 a).0; whole = l.0 } in
          record { field8 = a; field9 = b; field35 = record { bytes = f35; others = rest; are = (behind_one m _ b).0; whole = (and_both (is_field f35) _ l.1).0 } }

-- what the head says of them
module _ (m : List ℕ) (o : Opened m) where
  abbrev pub f8 : List ℕ
  f8 = o.field8.bytes

  abbrev pub f9 : List ℕ
  f9 = o.field9.bytes

  abbrev pub f35 : List ℕ
  f35 = o.field35.bytes

  abbrev pub rest : List (List ℕ)
  rest = o.field35.others

  -- without field 10, and that field
  abbrev pub inner : List (List ℕ)
  inner = all_but_last rest

  abbrev pub last : List ℕ
  last = last_of rest

  abbrev at9 : ℕ
  at9 = past m 0 o.field8

  abbrev pub at35 : ℕ
  at35 = past m at9 o.field9

  abbrev pub body : ℕ
  body = past m at35 o.field35

  pub opened_fields : fields_of m ≡ f8 ∷ f9 ∷ f35 ∷ rest
  opened_fields =
      let e = sym (behind_one m at9 o.field9).0 ∙ o.field35.are in
      o.field8.are ∙ ap (λ (fs : List (List ℕ)). f8 ∷ fs) (sym (behind_one m 0 o.field8).0 ∙ o.field9.are ∙ ap (λ (fs : List (List ℕ)). f9 ∷ fs) e)

  -- what is tested of them
  abbrev pub right : Bool
  right = says 8 version f8 && ((eqb (tag_of f9) 9 && is_number (value_of f9)) && says 35 multileg f35)

  -- what they say
  abbrev pub told : Head
  told = record { said = number_of (value_of f9); counted = at35; body = body }

  pub head_is : head_of m ≡ cond right (Some told) None
  unfolding head_of head_from
  head_is = rw (one_at m 0 o.field8, one_at m at9 o.field9, one_at m at35 o.field35, one_value m 0 o.field8, one_value m at9 o.field9, one_value m at35 o.field35)

  pub body_fields : are_fields m ≡ are_fields (drop body m)
  body_fields = fields_behind m 0 o.field8 ∙ fields_behind m at9 o.field9 ∙ fields_behind m at35 o.field35
