-- A frame written around fields that nothing is wrong with is right, and its fields and body are read again: they hold no byte 1.
use mathlib.Core.Path.{◌≡◌, refl, sym, ap, ◌∙◌}
use mathlib.Core.List.{List, [], ◌∷◌, ◌++◌, append-nil}
use mathlib.Core.Bool.{true, false, not, ◌&&◌}
use Prim.Native.Nat.{ℕ, ◌%◌, ◌^◌, ◌<◌}
use native.Mathlib.Omega.{arith}
use lib.Dec.{lit≤}
use lib.ListN.{length, drop}
use borrow.Author.Tests.{eq-eqb}
use Rattle.rules.specs.Lists.{All, all, total, same_numbers}
use Rattle.rules.specs.Numerals.{value, numeral, are_digits}
use Rattle.rules.specs.Fix.{fields_of, bytes_of, leading_digits, is_field, tag_of, value_of, are_fields, says, version, multileg, sum_digits, all_but_last, last_of, is_frame_tag, is_framed, has_frame, body_of, is_formed, digits_for, decimal, field_for, behind9, before10, framed}
use Rattle.rules.proofs.Numerals.{numeral_digits}
use Rattle.rules.proofs.Tests.{and_of}
use Rattle.laws.proofs.Sorting.{all_append, all_weaken}
use Rattle.field_laws.proofs.Fields.{fields_append}
use Rattle.message_theorems.specs.Groups.{IsPart}
use Rattle.laws.proofs.Lists.{all_pass, every_passes, same_self}
use Rattle.message_theorems.proofs.Laws.{last_behind, others_before}
use Rattle.message_theorems.proofs.Decimals.{decimal_digits, decimal_value, decimal_number, digits_part}

-- a field of a body that nothing is wrong with
abbrev pub Sound : List ℕ → Type 0
Sound f = (is_field f ≡ true) × IsPart f × (is_frame_tag (tag_of f) ≡ false) × (is_formed f ≡ true)

-- a field with no byte 1 within
abbrev IsWhole : List ℕ → Type 0
IsWhole f = (is_field f ≡ true) × IsPart f

before_last : (fs : List (List ℕ)) (f : List ℕ) → all_but_last (fs ++ (f ∷ [])) ≡ fs
unfolding all_but_last
before_last fs f = others_before fs f [] ∙ append-nil fs

last_is : (fs : List (List ℕ)) (f : List ℕ) → last_of (fs ++ (f ∷ [])) ≡ f
unfolding last_of
last_is fs f = last_behind fs f []

-- the frame's own fields
says8 : says 8 version (field_for 8 version) ≡ true
unfolding tag_of value_of leading_digits value numeral digits_for same_numbers
says8 = refl

says35 : says 35 multileg (field_for 35 multileg) ≡ true
unfolding tag_of value_of leading_digits value numeral digits_for same_numbers
says35 = refl

says10 : (v : List ℕ) → says 10 v (field_for 10 v) ≡ true
unfolding tag_of value_of leading_digits value numeral digits_for
says10 v = same_self v

tag9 : (v : List ℕ) → tag_of (field_for 9 v) ≡ 9
unfolding tag_of leading_digits value numeral digits_for
tag9 v = refl

value9 : (v : List ℕ) → value_of (field_for 9 v) ≡ v
unfolding value_of leading_digits numeral digits_for
value9 v = refl

-- a frame around a body, which field 9 can count
module _ (body : List (List ℕ)) (h : All Sound body) (small : length (bytes_of (behind9 body)) < 10 ^ 15) where
  abbrev bytes : ℕ
  bytes = length (bytes_of (behind9 body))

  abbrev sum : List ℕ
  sum = sum_digits (bytes_of (before10 body))

  abbrev fields : List (List ℕ)
  fields = before10 body ++ (field_for 10 sum ∷ [])

  sum_digits_lem : are_digits 10 48 sum ≡ true
  sum_digits_lem = numeral_digits 10 48 (lit≤ tt) 3 (total (bytes_of (before10 body)) % 256) (omega arith)

  all_whole : All IsWhole fields
  unfolding all is_field tag_of value_of leading_digits value numeral digits_for
  all_whole =
      let inside = all_append IsWhole body (field_for 10 sum ∷ []) (all_weaken body (λ f s. (s.0, s.1)) h) ((refl, digits_part sum sum_digits_lem), tt) in
      ((refl, refl), ((refl, digits_part (decimal bytes) (decimal_digits bytes small)), ((refl, refl), inside)))

  fields_read : fields_of (framed body) ≡ fields
  unfolding framed fields_of
  fields_read =
      ap fields_of (sym (append-nil (bytes_of fields))) ∙ fields_append fields [] (all_weaken fields (λ f w. w.1) all_whole) ∙ append-nil fields

  are_fields_lem : are_fields (framed body) ≡ true
  unfolding are_fields framed
  are_fields_lem = rw fields_read (and_of (eq-eqb (length (bytes_of fields)) _ refl) (all_pass is_field (λ f w. w.0) fields all_whole))

  has_frame_lem : has_frame fields ≡ true
  unfolding has_frame is_framed
  has_frame_lem =
      let others = all_pass (λ f. not (is_frame_tag (tag_of f))) (λ f s. ap not s.2) body h in
      rw (before_last body (field_for 10 sum), last_is body (field_for 10 sum), tag9 (decimal bytes), value9 (decimal bytes), decimal_value bytes small)
      (every_passes _ (says8, (refl, (decimal_number bytes small, (eq-eqb bytes bytes refl, (says35, (others, (says10 sum, tt))))))))

  pub right_frame : are_fields (framed body) && has_frame (fields_of (framed body)) ≡ true
  right_frame = and_of are_fields_lem (ap has_frame fields_read ∙ has_frame_lem)

  pub frame_body : body_of (framed body) ≡ body
  frame_body = ap (λ fs. all_but_last (drop 3 fs)) fields_read ∙ before_last body (field_for 10 sum)
