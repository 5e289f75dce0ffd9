-- The definitions of the order check, case by case.
use mathlib.Core.Path.{◌≡◌, refl, sym, ap, ◌∙◌}
use mathlib.Core.List.{List, [], ◌∷◌, ◌++◌, map}
use mathlib.Core.Bool.{Bool, true, false, cond, true≢false}
use Prim.Native.Nat.{ℕ, zero, suc, ◌/◌, ◌≤◌, ◌<◌}
use native.Mathlib.Omega.{arith}
use lib.ListN.{length, take, length-map}
use lib.Seq.{length-take-le}
use Rattle.rules.specs.declared.RawLeg.{RawLeg}
use Rattle.rules.specs.declared.Leg.{Leg}
use Rattle.rules.specs.declared.Order.{Order}
use Rattle.rules.specs.declared.Terms.{Terms}
use Rattle.rules.specs.declared.Settings.{Settings}
use Rattle.rules.specs.declared.Market.{Market}
use Rattle.rules.specs.declared.OrderAnswer.{OrderAnswer}
use Rattle.rules.specs.Order.{raw_legs, record_legs, Recorded, leg_of, legs_of}
use Rattle.rules.specs.Pairing.{by_strike}
use Rattle.rules.specs.Market.{settings_hold, market_holds}
use Rattle.rules.specs.Valid.{AreValid}
use Rattle.rules.specs.Kinds.{is_refused}
use Rattle.rules.specs.Numbers.{first_of, refusal, judged, refused, outcome, check_legs, check_order, are_whole, check_slices}
use Rattle.answers.specs.declared.Refusal.{Refusal}
use Rattle.answers.specs.Answers.{refusal_number}
use Rattle.answers.proofs.Laws.{refusal_refuses}
use Rattle.sorting.specs.Keys.{sort_keys, with_places}
use Rattle.keys.specs.Tags.{tag_of, legs_in, ValidTags, Arranged}
use Rattle.arranging.proofs.Valid.{root_of, valid_tags, valid_legs}
use Rattle.reading.specs.declared.Read.{Read}
use Rattle.reading.specs.Legs.{read_refusals, GoodRead}
use Rattle.validity.proofs.Laws.{above, wrong_length, not_refused}

pub outcome_none : (n : ℕ) (a : OrderAnswer) → n ≡ 0 → outcome n a ≡ a
unfolding outcome
outcome_none n a h = rw h

pub outcome_some : (n : ℕ) (a : OrderAnswer) → (n ≡ 0 → ⊥) → outcome n a ≡ refused n
unfolding outcome
outcome_some zero a h = absurd (h refl)
outcome_some (suc n) a h = refl

module _ (st : Settings) (m : Market) where
  pub order_refused : (o : Order) (n : ℕ) → n ≡ refusal st m o.terms o.len (record_legs o) → (n ≡ 0 → ⊥) → check_order st m o ≡ refused n
  unfolding check_order check_legs
  order_refused o n e h = ap (λ (k : ℕ). outcome k (judged st m o.terms (by_strike (legs_of (record_legs o))))) (sym e) ∙ outcome_some n _ h

  order_valid : (o : Order) (n : ℕ) → n ≡ refusal st m o.terms o.len (record_legs o) → n ≡ 0 → check_order st m o ≡ judged st m o.terms (by_strike (legs_of (record_legs o)))
  unfolding check_order check_legs
  order_valid o n e h = outcome_none _ _ (sym e ∙ h)

  pub too_many_legs : (t : Terms) (n : ℕ) (rs : List RawLeg) → 16 < n → check_legs st m t n rs ≡ refused 3
  unfolding check_legs outcome
  too_many_legs t n rs k = ap (λ (r : ℕ). outcome r (judged st m t (by_strike (legs_of rs)))) (wrong_length st m t n rs (above n k))

  module _ (t : Terms) (symbols counts : List ℕ) where
    pub not_whole : are_whole symbols counts ≡ false → check_slices st m t symbols counts ≡ refused 1
    unfolding check_slices
    not_whole h = rw h

    whole : are_whole symbols counts ≡ true → check_slices st m t symbols counts ≡ check_legs st m t (length counts / 8) (raw_legs (length counts / 8) symbols counts)
    unfolding check_slices
    whole h = rw h

    pub too_many : are_whole symbols counts ≡ true → 16 < length counts / 8 → check_slices st m t symbols counts ≡ refused 3
    too_many h k = let n = length counts / 8 in whole h ∙ too_many_legs t n (raw_legs n symbols counts) k

    pub as_record : are_whole symbols counts ≡ true → (o : Order) → Recorded (length counts / 8) (raw_legs (length counts / 8) symbols counts) t o → check_slices st m t symbols counts ≡ check_order st m o
    unfolding check_order
    as_record h o r = whole h ∙ sym (rw (r.legs, r.len, r.terms))

-- ---- an order that is refused

-- a refusal has a number
numbered : (e : Refusal) → refusal_number e ≡ 0 → ⊥
numbered e h = absurd (true≢false (sym (refusal_refuses e) ∙ ap is_refused h))

-- the first of a list is the first of a longer one
first_before : (es fs : List (Bool × ℕ)) (n : ℕ) → n ≡ first_of es → (n ≡ 0 → ⊥) → n ≡ first_of (es ++ fs)
unfolding first_of
first_before [] fs n e h = absurd (h e)
first_before (x ∷ es) fs n e h = go x.0 e (first_before es fs n)
  where
    go : (b : Bool) → n ≡ cond b x.1 (first_of es) → (n ≡ first_of es → (n ≡ 0 → ⊥) → n ≡ first_of (es ++ fs)) → n ≡ cond b x.1 (first_of (es ++ fs))
    go true k ih = k
    go false k ih = ih k h

module _ (st : Settings) (m : Market) (o : Order) where
  -- by reading
  pub refused_read : (e : Refusal) → refusal_number e ≡ first_of (read_refusals o.len (record_legs o)) → check_order st m o ≡ refused (refusal_number e)
  unfolding refusal
  refused_read e h =
      order_refused st m o (refusal_number e) (first_before (read_refusals o.len (record_legs o)) _ _ h (numbered e)) (numbered e)

  -- after it
  pub refused_later : (e : Refusal) → refusal_number e ≡ refusal st m o.terms o.len (record_legs o) → check_order st m o ≡ refused (refusal_number e)
  refused_later e h = order_refused st m o (refusal_number e) h (numbered e)

-- ---- the arrays of a valid order

-- `after` are the places sorted, `tags` and `left` what is arranged by them
module _ (st : Settings) (m : Market) (o : Order) (places sizes roots after : List ℕ) (read : Read)
    (good : GoodRead o.legs o.len places sizes roots read)
    (none : refusal st m o.terms o.len (record_legs o) ≡ 0)
    (sorted : take read.len after ≡ sort_keys (take read.len places)) where
  abbrev ls : List Leg
  ls = legs_of (record_legs o)

  abbrev pub ValidOrder : Type 0
  ValidOrder = (1 ≤ o.len) × (o.len ≤ 16) × AreValid ls × (settings_hold st ≡ true) × (market_holds m ≡ true)

  pub valid_order : ValidOrder
  valid_order = not_refused st m o.terms o.len (record_legs o) none

  module _ (full : length o.legs ≡ 16) where
    many : length ls ≡ read.len
    unfolding legs_of
    many = length-map (record_legs o) leg_of ∙ length-take-le o.len o.legs (omega (arith, valid_order.1)) ∙ sym good.len

    order : take read.len after ≡ sort_keys (with_places 0 (map (tag_of false) ls))
    order = sorted ∙ ap sort_keys (rw many at good.placed.each_tag)

    counts : take read.len sizes ≡ map (λ x. x.size) ls
    counts = rw many at good.placed.each_size

    module _ (tags left : List ℕ) (arranged : Arranged (take read.len after) sizes (take read.len tags) (take read.len left)) where
      pub order_tags : length tags ≡ 16 → length left ≡ 16 → ValidTags read.len tags left
      order_tags = valid_tags ls valid_order.2 read.len many good.few (take read.len after) sizes tags left order counts arranged

      order_legs_lem : legs_in (root_of ls) false read.len tags left ≡ by_strike ls
      order_legs_lem = valid_legs ls valid_order.2 read.len many good.few (take read.len after) sizes tags left order counts arranged

      -- what is judged of the arrays, with the order's terms, is the answer
      pub order_judged : (a : OrderAnswer) → ((root : ℕ) → a ≡ judged st m o.terms (legs_in root false read.len tags left)) → a ≡ check_order st m o
      order_judged a h = h (root_of ls) ∙ ap (judged st m o.terms) order_legs_lem ∙ sym (order_valid st m o 0 (sym none) refl)
