-- The tests of the frame, by places, are those of document 02, test for test, where a message opens with three fields.
use mathlib.Core.Path.{◌≡◌, sym, ap, ◌∙◌}
use mathlib.Core.List.{List, ◌∷◌}
use mathlib.Core.Bool.{Bool, true, false, cond, not, ◌&&◌}
use Prim.Native.Nat.{ℕ, ◌-◌}
use native.Mathlib.Omega.{arith}
use lib.Dec.{eqb}
use lib.ListN.{length}
use Rattle.rules.specs.Lists.{all, same_numbers}
use Rattle.rules.specs.Fix.{fields_of, bytes_of, tag_of, value_of, are_fields, is_number, number_of, says, version, multileg, sum_digits, is_frame_tag, is_framed, has_frame}
use Rattle.std.specs.Prelude.{Some, None, is_some}
use Rattle.rules.proofs.Tests.{and_assoc, and_both, not_eq}
use Rattle.frame.specs.Frame.{head_of}
use Rattle.scan_laws.specs.Message.{is_closed_by, is_framed_by, has_frame_by}
use Rattle.scan_laws.proofs.Heads.{Opened, f8, f9, f35, inner, last, opened_fields, right, told, head_is}
use Rattle.scan_laws.proofs.Tails.{seen, ends, ends_right, Closed, closed, at10, closing_is, counted_bytes, summed_bytes, sum_value}
use Rattle.scan_laws.proofs.Tests.{guarded, regrouped}

module _ (m : List ℕ) (o : Opened m) where
  -- the head is right, every byte is in a field, and field 10 is the last
  abbrev pub found : Bool
  found = right m o && (eqb (seen m o).next (length m) && (is_some (seen m o).tail.closing && not (seen m o).tail.stray))

  abbrev pub found_closed : found ≡ true → Closed m
  found_closed h =
      let k = and_both (eqb (seen m o).next (length m)) _ (and_both (right m o) _ h).1 in
      let t = and_both (is_some (seen m o).tail.closing) _ k.1 in
      closed m o k.0 t.0 (not_eq (seen m o).tail.stray t.1)

  -- what document 02 tests: no tag of the frame in the body, the length, the sum
  abbrev clean : Bool
  clean = all (λ f. not (is_frame_tag (tag_of f))) (inner m o)

  abbrev counts : Bool
  counts = eqb (number_of (value_of (f9 m o))) (length (bytes_of (f35 m o ∷ inner m o)))

  abbrev sums : Bool
  sums = same_numbers (value_of (last m o)) (sum_digits (bytes_of (f8 m o ∷ f9 m o ∷ f35 m o ∷ inner m o)))

  found_is : found
      ≡ (says 8 version (f8 m o) && ((eqb (tag_of (f9 m o)) 9 && is_number (value_of (f9 m o))) && says 35 multileg (f35 m o))) && (are_fields m && (clean && eqb (tag_of (last m o)) 10))
  found_is = ap (λ (b : Bool). right m o && b) (guarded _ _ _ _ (ends m o) (λ h. ends_right m o (sym (ends m o) ∙ h)))

  -- then length and sum are taken of the same bytes
  sums_are : found ≡ true → is_closed_by m (told m o) (seen m o).tail.closing ≡ counts && sums
  unfolding is_closed_by
  sums_are h =
      let c = found_closed h in
      let d : at10 m c - (told m o).counted ≡ length (bytes_of (f35 m o ∷ inner m o)) = omega (arith, counted_bytes m c) in
      rw (closing_is m c, d, summed_bytes m c, sum_value m c)

  seen_framed : right m o && is_framed_by m (told m o) (seen m o) ≡ (are_fields m && has_frame (fields_of m))
  unfolding is_framed_by has_frame is_framed
  seen_framed =
      let r = regrouped (says 8 version (f8 m o)) (eqb (tag_of (f9 m o)) 9) (is_number (value_of (f9 m o))) (are_fields m) (says 35 multileg (f35 m o)) clean (eqb (tag_of (last m o)) 10) counts sums in
      rw (opened_fields m o) (sym (and_assoc (right m o) _ _) ∙ guarded _ _ _ _ found_is sums_are ∙ r)

  pub opened_framed : has_frame_by m (head_of m) ≡ (are_fields m && has_frame (fields_of m))
  unfolding has_frame_by
  opened_framed = go (right m o) (head_is m o) seen_framed
    where
      go : (b : Bool) → head_of m ≡ cond b (Some (told m o)) None → b && is_framed_by m (told m o) (seen m o) ≡ (are_fields m && has_frame (fields_of m)) → has_frame_by m (head_of m) ≡ (are_fields m && has_frame (fields_of m))
      go true e f = rw e f
      go false e f = rw e f
