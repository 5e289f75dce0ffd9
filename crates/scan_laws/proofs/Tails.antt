-- The end of a message of fields: field 10 is the last of them, its value is where the loop says, and the counted and summed bytes stand before it.
use mathlib.Core.Path.{◌≡◌, refl, sym, ap, ◌∙◌}
use mathlib.Core.List.{List, [], ◌∷◌, ◌++◌}
use mathlib.Core.Bool.{true, false, not, ◌&&◌}
use Prim.Native.Nat.{ℕ, ◌+◌, ◌≤◌}
use native.Mathlib.Omega.{arith}
use lib.Dec.{eqb}
use lib.ListN.{length, take, drop, length-append}
use lib.Seq.{slice}
use borrow.Author.Tests.{eqb-true}
use Rattle.rules.specs.Lists.{all}
use Rattle.rules.specs.Fix.{fields_of, bytes_of, is_field, tag_of, value_of, are_fields, is_frame_tag}
use Rattle.rules.proofs.Tests.{and_both}
use Rattle.std.specs.Prelude.{Some, is_some}
use Rattle.fields.specs.Fields.{Inside}
use Rattle.frame.specs.declared.Closing.{Closing}
use Rattle.frame.specs.Frame.{no_tail}
use Rattle.frame_laws.specs.Runs.{run_tail}
use Rattle.frame_laws.proofs.Tail.{tail_right, closing_at, Placed, tail_places}
use Rattle.scan.specs.declared.Scan.{Scan}
use Rattle.scan.specs.Scanning.{begun, scanned}
use Rattle.scan_laws.specs.Runs.{run_scan}
use Rattle.laws.proofs.Lists.{all_joined}
use Rattle.scan_laws.proofs.Bytes.{fronted, Fronted}
use Rattle.scan_laws.proofs.Heads.{Opened, f8, f9, f35, rest, inner, last, at35, body, opened_fields, body_fields}
use Rattle.scan_laws.proofs.Loop.{scan_ends, scan_runs}
use Rattle.scan_laws.proofs.Parts.{tail_run}
use Rattle.scan_laws.proofs.Standing.{each_field, Standing, one_inside, one_value, behind_one}

-- behind the first three fields
module _ (m : List ℕ) (o : Opened m) where
  -- what the loop makes there
  abbrev pub seen : Scan
  seen = scanned m (body m o)

  pub behind35 : (fields_of (drop (body m o) m) ≡ rest m o) × (body m o ≤ length m)
  behind35 = behind_one m (at35 m o) o.field35

  pub ends : eqb seen.next (length m) ≡ are_fields m
  ends = scan_ends m (body m o) behind35.1 ∙ sym (body_fields m o)

  -- where all are fields
  module _ (a : are_fields m ≡ true) where
    pub each_rest : all is_field (rest m o) ≡ true
    each_rest = rw behind35.0 at (each_field (drop (body m o) m) (sym (body_fields m o) ∙ a))

    pub ran : seen ≡ run_scan m (body m o) (begun (body m o)) (rest m o)
    ran = let b = behind35 in rw (← b.0) (scan_runs m (body m o) b.1 (sym (body_fields m o) ∙ a))

    pub tail_is : seen.tail ≡ run_tail (body m o) no_tail (rest m o)
    tail_is = ap (λ (s : Scan). s.tail) ran ∙ tail_run m (rest m o) (body m o) (begun (body m o)) refl

    pub ends_right : (is_some seen.tail.closing && not seen.tail.stray) ≡ (all (λ f. not (is_frame_tag (tag_of f))) (inner m o) && eqb (tag_of (last m o)) 10)
    ends_right = rw tail_is (tail_right (body m o) (rest m o))

-- a message of fields, the last of them field 10
pub record Closed (m : List ℕ) : Type 0 where
  pub opened : Opened m
  pub fields : are_fields m ≡ true
  pub ended : is_some (seen m opened).tail.closing ≡ true
  pub clean : (seen m opened).tail.stray ≡ false

abbrev pub closed : (m : List ℕ) (o : Opened m) → eqb (seen m o).next (length m) ≡ true → is_some (seen m o).tail.closing ≡ true → (seen m o).tail.stray ≡ false → Closed m
closed m o h e n = record { opened = o; fields = sym (ends m o) ∙ h; ended = e; clean = n }

module _ (m : List ℕ) (c : Closed m) where
  abbrev o : Opened m
  o = c.opened

  -- the fields before field 10
  abbrev front : List (List ℕ)
  front = f8 m o ∷ f9 m o ∷ f35 m o ∷ inner m o

  placed : Placed (body m o) (rest m o) (seen m o).tail
  placed = let t = tail_is m o c.fields in rw t (tail_places (body m o) (rest m o) (rw t at c.ended) (rw t at c.clean))

  pub rest_is : rest m o ≡ inner m o ++ (last m o ∷ [])
  rest_is = placed.1

  -- field 10, where it stands
  abbrev pub at10 : ℕ
  at10 = body m o + length (bytes_of (inner m o))

  abbrev pub closing : Closing
  closing = closing_at at10 (last m o)

  pub closing_is : (seen m o).tail.closing ≡ Some closing
  closing_is = placed.0

  pub last_tag : tag_of (last m o) ≡ 10
  last_tag = eqb-true (tag_of (last m o)) 10 (and_both (all _ (inner m o)) _ (sym (ends_right m o c.fields) ∙ rw (c.ended, c.clean))).1

  fronts : Fronted m front (last m o ∷ [])
  fronts = fronted front (last m o ∷ []) m (opened_fields m o ∙ ap (λ (fs : List (List ℕ)). f8 m o ∷ f9 m o ∷ f35 m o ∷ fs) rest_is)

  pub counted_bytes : at10 ≡ at35 m o + length (bytes_of (f35 m o ∷ inner m o))
  unfolding bytes_of
  counted_bytes = omega (arith, length-append (f35 m o) (1 ∷ bytes_of (inner m o)))

  at_is : at10 ≡ length (bytes_of front)
  unfolding bytes_of
  at_is = omega (arith, counted_bytes, length-append (f8 m o) (1 ∷ bytes_of (f9 m o ∷ f35 m o ∷ inner m o)), length-append (f9 m o) (1 ∷ bytes_of (f35 m o ∷ inner m o)))

  pub summed_bytes : take at10 m ≡ bytes_of front
  summed_bytes = rw at_is fronts.bytes

  each_is : (all is_field (inner m o) ≡ true) × (is_field (last m o) && true ≡ true)
  unfolding all
  each_is = and_both (all is_field (inner m o)) _ (sym (all_joined is_field (inner m o) (last m o ∷ [])) ∙ rw (← rest_is) (each_rest m o c.fields))

  pub each_inner : all is_field (inner m o) ≡ true
  each_inner = each_is.0

  abbrev field10 : Standing m at10
  field10 = record { bytes = last m o; others = []; are = rw at_is fronts.behind; whole = (and_both (is_field (last m o)) true each_is.1).0 }

  pub sum_value : slice closing.value.start closing.value.end m ≡ value_of (last m o)
  sum_value = one_value m at10 field10

  pub last_inside : (at10 ≤ length m) × Inside (length m) closing.value
  last_inside = let i = one_inside m at10 field10 in (omega arith, i)
