-- A message written for an order says that order: its fields are read again, each further field is stepped over, and each needed one is of its form.
use mathlib.Core.Path.{◌≡◌, refl, sym, ap, ap₂, ◌∙◌}
use mathlib.Core.List.{List, [], ◌∷◌, ◌++◌, map, append-nil}
use mathlib.Core.Bool.{Bool, true, false, cond, not, ◌||◌, true≢false}
use Prim.Native.Nat.{ℕ, zero, suc, ◌*◌, ◌^◌, ◌≤◌, ◌<◌}
use native.Mathlib.Omega.{arith}
use lib.Dec.{eqb}
use lib.ListN.{length, length-append}
use lib.Seq.{take_at, drop_at}
use borrow.Author.Tests.{eq-eqb, ne_eqb}
use Rattle.rules.specs.declared.RawLeg.{RawLeg}
use Rattle.rules.specs.Lists.{All, all, any, same_numbers}
use Rattle.rules.specs.Numerals.{value, numeral}
use Rattle.rules.specs.Numbers.{first_of, outcome}
use Rattle.rules.specs.Fix.{bytes_of, leading_digits, is_field, tag_of, value_of, is_frame_tag, body_of, how_often, before, value_at, behind, number_said, leg_number, group_fields, behind_groups, group_tags, is_group_tag, is_needed_tag, is_further, in_sequence, one, two, is_one_or_two, has_form, is_formed, legs_said, price_said, kind_said, SaidOrder, order_in, message_refusal, check_fix, digits_for, decimal, field_for, price_for, groups_for, body_for, behind9, message_of}
use Rattle.rules.proofs.Tests.{not_eq, or_neither}
use Rattle.laws.proofs.Sorting.{all_append, all_weaken}
use Rattle.message_theorems.specs.Groups.{IsPart}
use Rattle.message_theorems.specs.Written.{IsSayable, InForm, IsFurther, Written}
use Rattle.laws.proofs.Lists.{all_pass, none_pass, every_passes, same_self}
use Rattle.message_theorems.proofs.Laws.{is_of_group}
use Rattle.message_theorems.proofs.Framed.{Sound, right_frame, frame_body}
use Rattle.message_theorems.proofs.Decimals.{decimal_digits, decimal_value, decimal_number, digits_part, price_form, price_part, price_said_lem}

abbrev IsOneOrTwo : List ℕ → Type 0
IsOneOrTwo v = is_one_or_two v ≡ true

-- ---- further fields

-- a further tag is none of the frame's, and none that is needed
further_tag : (t : ℕ) → is_further t ≡ true → (is_frame_tag t ≡ false) × (is_needed_tag t ≡ false)
unfolding is_further
further_tag t h = or_neither (is_frame_tag t) _ (not_eq _ h)

-- it has no form
no_form : (t : ℕ) (v : List ℕ) → is_needed_tag t ≡ false → has_form t v ≡ true
unfolding has_form
no_form t v h =
    let a = or_neither _ (is_group_tag t) h in
    let b = or_neither _ (eqb t 555) a.0 in
    let c = or_neither (eqb t 40) _ b.0 in
    let d = or_neither _ (eqb t 624) a.1 in
    let e = or_neither (eqb t 600) _ d.0 in
    rw (c.0, c.1, b.1, d.1, e.0, e.1)

further_sound : (f : List ℕ) → IsFurther f → Sound f
further_sound f (a, b, c) = let n = further_tag (tag_of f) c in (a, b, n.0, no_form (tag_of f) (value_of f) n.1)

-- no field has this tag
abbrev Lacks : ℕ → List (List ℕ) → Type 0
Lacks t fs = any (λ f. eqb (tag_of f) t) fs ≡ false

further_lack : (t : ℕ) → is_needed_tag t ≡ true → (fs : List (List ℕ)) → All IsFurther fs → Lacks t fs
further_lack t h = none_pass (λ f. eqb (tag_of f) t) other
  where
    other : (f : List ℕ) → IsFurther f → eqb (tag_of f) t ≡ false
    other f (a, b, c) = ne_eqb (tag_of f) t (λ e. true≢false (sym h ∙ ap is_needed_tag (sym e) ∙ (further_tag (tag_of f) c).1))

further_group : (f : List ℕ) → IsFurther f → is_of_group f ≡ false
further_group f (a, b, c) = let t = tag_of f in (or_neither (eqb t 40 || eqb t 44 || eqb t 555) _ (further_tag t c).1).1

-- fields that lack a tag are passed by
record Past (t : ℕ) (xs ys : List (List ℕ)) : Type 0 where
  often : how_often t (xs ++ ys) ≡ how_often t ys
  front : before t (xs ++ ys) ≡ xs ++ before t ys
  value : value_at t (xs ++ ys) ≡ value_at t ys
  back : behind t (xs ++ ys) ≡ behind t ys

past : (t : ℕ) (xs ys : List (List ℕ)) → Lacks t xs → Past t xs ys
unfolding any how_often before value_at behind
past t [] ys h = record { often = refl; front = refl; value = refl; back = refl }
past t (x ∷ xs) ys h =
    let k = or_neither (eqb (tag_of x) t) _ h in
    let p = past t xs ys k.1 in
    record { often = rw k.0 p.often; front = rw k.0 (ap (λ l. x ∷ l) p.front); value = rw k.0 p.value; back = rw k.0 p.back }

none : (t : ℕ) (xs : List (List ℕ)) → Lacks t xs → how_often t xs ≡ 0
unfolding how_often
none t xs h = ap (how_often t) (sym (append-nil xs)) ∙ (past t xs [] h).often

-- ---- the fields of the groups

-- what holds of both values
either : (P : List ℕ → Type 0) (b : Bool) {x y : List ℕ} → P x → P y → P (cond b x y)
either P true h k = h
either P false h k = k

groups_sound : (rs : List RawLeg) → All IsSayable rs → All Sound (groups_for rs)
unfolding groups_for all is_field tag_of value_of leading_digits value numeral digits_for has_form same_numbers
groups_sound [] h = tt
groups_sound (r ∷ rs) ((a, b, c), h) = (
  (refl, b, refl, eq-eqb (length r.symbol) 21 a),
  (
    (refl, digits_part (decimal r.size) (decimal_digits r.size c), refl, decimal_number r.size c),
    ((refl, either IsPart r.bought refl refl, refl, either IsOneOrTwo r.bought refl refl), groups_sound rs h),
  ),
)

groups_tags : (rs : List RawLeg) → map tag_of (groups_for rs) ≡ group_tags (length rs)
unfolding groups_for group_tags tag_of leading_digits value numeral digits_for
groups_tags [] = refl
groups_tags (r ∷ rs) = ap (λ (l : List ℕ). 600 ∷ 623 ∷ 624 ∷ l) (groups_tags rs)

groups_length : (rs : List RawLeg) → length (groups_for rs) ≡ 3 * length rs
unfolding groups_for
groups_length [] = refl
groups_length (r ∷ rs) = omega (arith, groups_length rs)

groups_lack : (t : ℕ) → eqb 600 t ≡ false → eqb 623 t ≡ false → eqb 624 t ≡ false → (rs : List RawLeg) → Lacks t (groups_for rs)
unfolding groups_for any tag_of leading_digits value numeral digits_for
groups_lack t a b c [] = refl
groups_lack t a b c (r ∷ rs) = rw (a, b, c) (groups_lack t a b c rs)

side_said : (b : Bool) → same_numbers (cond b one two) one ≡ b
unfolding same_numbers
side_said true = refl
side_said false = refl

number_said_lem : (rs : List RawLeg) → All IsSayable rs → legs_said (groups_for rs) ≡ rs
unfolding groups_for legs_said value_of leading_digits numeral digits_for
number_said_lem [] h = refl
number_said_lem (r ∷ rs) ((a, b, c), h) =
    ap₂ ◌∷◌ (λ i. record { bought = side_said r.bought i; size = decimal_value r.size c i; symbol = r.symbol }) (number_said_lem rs h)

-- ---- the body

-- each field has a byte at least, its byte 1
field_bytes : (fs : List (List ℕ)) → length fs ≤ length (bytes_of fs)
unfolding bytes_of
field_bytes [] = omega arith
field_bytes (f ∷ fs) = omega (arith, field_bytes fs, length-append f (1 ∷ bytes_of fs))

kind_said_lem : (k : ℕ) → k ≤ 1 → kind_said (cond (eqb k 0) two one) ≡ k
unfolding same_numbers
kind_said_lem zero h = refl
kind_said_lem (suc zero) h = refl
kind_said_lem (suc (suc k)) h = absurd (omega arith)

module _ (front back : List (List ℕ)) (o : SaidOrder) (hf : All IsFurther front) (hb : All IsFurther back) (form : InForm o)
    (small : length (bytes_of (behind9 (body_for front back o))) < 10 ^ 15) where
  abbrev body : List (List ℕ)
  body = body_for front back o

  abbrev kind : List ℕ
  kind = cond (eqb o.kind 0) two one

  abbrev price : List ℕ
  price = price_for o.price

  abbrev number : List ℕ
  number = decimal (length o.legs)

  abbrev groups : List (List ℕ)
  groups = groups_for o.legs

  abbrev needed : List (List ℕ)
  needed = field_for 40 kind ∷ field_for 44 price ∷ field_for 555 number ∷ (groups ++ back)

  few_legs : length o.legs < 10 ^ 15
  few_legs = omega (arith, field_bytes (behind9 body), length-append front needed, length-append groups back, groups_length o.legs)

  body_sound : All Sound body
  unfolding all is_field tag_of value_of leading_digits value numeral digits_for has_form same_numbers
  body_sound =
      all_append Sound front needed (all_weaken front further_sound hf) (
        (refl, either IsPart (eqb o.kind 0) refl refl, refl, either IsOneOrTwo (eqb o.kind 0) refl refl),
        (
          (refl, price_part o.price form.price, refl, price_form o.price form.price),
          (
            (refl, digits_part number (decimal_digits (length o.legs) few_legs), refl, decimal_number (length o.legs) few_legs),
            all_append Sound groups back (groups_sound o.legs form.legs) (all_weaken back further_sound hb),
          ),
        ),
      )

  at_front : (t : ℕ) → is_needed_tag t ≡ true → Past t front needed
  at_front t h = past t front needed (further_lack t h front hf)

  -- a tag that the fields before the groups have once
  once : (t : ℕ) → is_needed_tag t ≡ true → eqb 600 t ≡ false → eqb 623 t ≡ false → eqb 624 t ≡ false
      → how_often t needed ≡ suc (how_often t (groups ++ back)) → eqb (how_often t body) 1 ≡ true
  once t h a b c e =
      let g = (past t groups back (groups_lack t a b c o.legs)).often in
      eq-eqb (how_often t body) 1 ((at_front t h).often ∙ e ∙ ap suc (g ∙ none t back (further_lack t h back hb)))

  kind_value : value_at 40 body ≡ kind
  unfolding value_at tag_of value_of leading_digits value numeral digits_for
  kind_value = (at_front 40 refl).value

  price_value : value_at 44 body ≡ price
  unfolding value_at tag_of value_of leading_digits value numeral digits_for
  price_value = (at_front 44 refl).value

  leg_number_lem : leg_number body ≡ length o.legs
  unfolding number_said value_at tag_of value_of leading_digits value numeral digits_for
  leg_number_lem =
      ap number_said (at_front 555 refl).value ∙ rw (decimal_number (length o.legs) few_legs) (decimal_value (length o.legs) few_legs)

  behind_number : behind 555 body ≡ groups ++ back
  unfolding behind tag_of leading_digits value numeral digits_for
  behind_number = (at_front 555 refl).back

  before_number : before 555 body ≡ front ++ (field_for 40 kind ∷ field_for 44 price ∷ [])
  unfolding before tag_of leading_digits value numeral digits_for
  before_number = (at_front 555 refl).front

  group_fields_lem : group_fields body ≡ groups
  group_fields_lem = rw (leg_number_lem, behind_number) (take_at groups back (3 * length o.legs) (groups_length o.legs))

  behind_fields : behind_groups body ≡ back
  behind_fields = rw (leg_number_lem, behind_number) (drop_at groups back (3 * length o.legs) (groups_length o.legs))

  in_groups : same_numbers (map tag_of (group_fields body)) (group_tags (leg_number body)) ≡ true
  in_groups = rw (group_fields_lem, leg_number_lem, groups_tags o.legs) (same_self (group_tags (length o.legs)))

  none_before : not (any is_of_group (before 555 body)) ≡ true
  unfolding tag_of leading_digits value numeral digits_for
  none_before =
      let h = all_append (λ f. is_of_group f ≡ false) front (field_for 40 kind ∷ field_for 44 price ∷ []) (all_weaken front further_group hf) (refl, (refl, tt)) in
      ap not (ap (any is_of_group) before_number ∙ none_pass is_of_group (λ f e. e) _ h)

  none_behind : not (any is_of_group (behind_groups body)) ≡ true
  none_behind = ap not (ap (any is_of_group) behind_fields ∙ none_pass is_of_group further_group back hb)

  sequenced : in_sequence body ≡ true
  unfolding in_sequence how_often tag_of leading_digits value numeral digits_for
  sequenced =
      every_passes _ (
        once 40 refl refl refl refl refl,
        (once 44 refl refl refl refl refl, (once 555 refl refl refl refl refl, (in_groups, (none_before, (none_behind, tt))))),
      )

  formed : all is_formed body ≡ true
  formed = all_pass is_formed (λ f s. s.3) body body_sound

  said : order_in body ≡ o
  unfolding order_in
  said =
      let k = ap kind_said kind_value ∙ kind_said_lem o.kind form.kind in
      let p = ap price_said price_value ∙ price_said_lem o.price form.price in
      let l = ap legs_said group_fields_lem ∙ number_said_lem o.legs form.legs in
      λ i. record { kind = k i; price = p i; legs = l i }

  accepted : message_refusal (message_of front back o) ≡ 0
  unfolding message_refusal first_of
  accepted = rw (right_frame body body_sound small, frame_body body body_sound small, sequenced, formed)

  order_said : order_in (body_of (message_of front back o)) ≡ o
  order_said = ap order_in (frame_body body body_sound small) ∙ said

pub written : Written
unfolding check_fix outcome
written front back o hf hb form small =
    let a = accepted front back o hf hb form small in
    let e = order_said front back o hf hb form small in
    record { accepted = a; order = e; answer = λ i. rw (a, e) }
