-- Answers, field by field; legs of a valid order, with their unit counts.
use mathlib.Core.Path.{◌≡◌, refl, sym, ap, ap₂, ◌∙◌}
use mathlib.Core.List.{List, [], ◌∷◌, map, zip_with}
use mathlib.Core.Bool.{Bool, true, false, not}
use Prim.Native.Nat.{ℕ, zero, suc, ◌≤◌}
use native.Mathlib.Nat.{div-le_self, le_trans}
use native.Mathlib.Omega.{arith}
use lib.ListN.{length, length-map, take, get_or}
use lib.Seq.{length-take-le}
use Rattle.rules.specs.declared.Leg.{Leg}
use Rattle.rules.specs.declared.Terms.{Terms}
use Rattle.rules.specs.declared.Settings.{Settings}
use Rattle.rules.specs.declared.Market.{Market}
use Rattle.rules.specs.declared.OrderAnswer.{OrderAnswer}
use Rattle.rules.specs.Lists.{All}
use Rattle.rules.specs.Order.{is_yes, common_divisor, divided, units, is_simple, is_complex}
use Rattle.rules.specs.Pairing.{both_walks}
use Rattle.rules.specs.Class.{class_of, shape_of}
use Rattle.rules.specs.Market.{settings_hold}
use Rattle.rules.specs.Numbers.{rejection, judged}
use Rattle.rules.specs.Valid.{UnitWithin, ComplexOrder}
use Rattle.laws.proofs.Simple.{simple_length, simple_same}
use Rattle.keys.specs.Tags.{leg_at, legs_from, legs_in, ValidTags}
use Rattle.arranging.proofs.Zip.{zip_length}
use Rattle.complex_checks.proofs.Laws.{strike_bound}

-- ---- answers

abbrev answer_of : ℕ → ℕ → ℕ → ℕ → OrderAnswer
answer_of number class shape pairings = record { number = number; class = class; shape = shape; pairings = pairings }

pub answer : {n m c d s t p q : ℕ} → n ≡ m → c ≡ d → s ≡ t → p ≡ q → answer_of n c s p ≡ answer_of m d t q
answer a b c d = λ i. answer_of (a i) (b i) (c i) (d i)

-- the answer to legs, from the numbers of their unit legs
pub judged_by : (st : Settings) (m : Market) (t : Terms) (ls us : List Leg) {number class shape pairings : ℕ} → us ≡ units ls
    → class ≡ class_of us (both_walks (is_yes st.european) ls)
    → shape ≡ shape_of us
    → pairings ≡ length (both_walks (is_yes st.european) ls).pairs
    → number ≡ rejection st m t us class
    → answer_of number class shape pairings ≡ judged st m t ls
unfolding judged
judged_by st m t ls us e c s p n =
    let d = c ∙ ap (λ (vs : List Leg). class_of vs (both_walks (is_yes st.european) ls)) e in
    answer (n ∙ ap₂ (rejection st m t) e d) d (s ∙ ap shape_of e) p

-- ---- legs of a valid order, with their unit counts

module _ (root n : ℕ) (tags left : List ℕ) (v : ValidTags n tags left) where
  pub legs_length : length (legs_in root false n tags left) ≡ n
  legs_length =
      let e = zip_length (leg_at root false) tags left (v.valid.full ∙ sym v.full) in
      length-take-le n (legs_from root false tags left) (omega (arith, e, v.valid.few, v.valid.full))

  legs_within : All UnitWithin (legs_in root false n tags left)
  unfolding zip_with
  legs_within = go n tags left v.counts
    where
      go : (n : ℕ) (tags left : List ℕ) → All (λ s. (1 ≤ s) × (s ≤ 10000)) (take n left) → All UnitWithin (legs_in root false n tags left)
      go zero tags left h = tt
      go (suc n) [] left h = tt
      go (suc n) (t ∷ tags) [] h = tt
      go (suc n) (t ∷ tags) (s ∷ left) h = (record { size = h.0.1; strike = strike_bound root t s }, go n tags left h.1)

  -- the order of one leg
  pub one_leg : n ≡ 1 → (legs_in root false n tags left ≡ leg_at root false (get_or tags 0 0) (get_or left 0 0) ∷ []) × (1 ≤ get_or left 0 0)
  unfolding zip_with
  one_leg e = go n tags left e v.valid.full v.full v.counts
    where
      go : (n : ℕ) (tags left : List ℕ) → n ≡ 1 → length tags ≡ 16 → length left ≡ 16 → All (λ s. (1 ≤ s) × (s ≤ 10000)) (take n left)
          → (legs_in root false n tags left ≡ leg_at root false (get_or tags 0 0) (get_or left 0 0) ∷ []) × (1 ≤ get_or left 0 0)
      go zero tags left e f g h = absurd (omega arith)
      go (suc zero) [] left e f g h = absurd (omega arith)
      go (suc zero) (t ∷ tags) [] e f g h = absurd (omega arith)
      go (suc zero) (t ∷ tags) (s ∷ left) e f g h = (refl, h.0.0)
      go (suc (suc n)) tags left e f g h = absurd (omega arith)

within_divided : (g : ℕ) (ls : List Leg) → All UnitWithin ls → All UnitWithin (map (divided g) ls)
within_divided g [] h = tt
within_divided g (x ∷ ls) h =
    (record { size = le_trans (div-le_self x.size g) h.0.size; strike = h.0.strike }, within_divided g ls h.1)

-- dividing leaves the number of legs
units_length : (ls : List Leg) → length (units ls) ≡ length ls
unfolding units
units_length ls = length-map ls _

units_within : (ls : List Leg) → All UnitWithin ls → All UnitWithin (units ls)
unfolding units
units_within ls h = within_divided (common_divisor ls) ls h

-- the unit legs of a complex order
pub complex_units : (st : Settings) (t : Terms) (n : ℕ) (tags left : List ℕ) (us : List Leg) → settings_hold st ≡ true → ValidTags n tags left → 1 ≤ n
    → is_complex t (legs_in 0 false n tags left) ≡ true
    → us ≡ units (legs_in 0 false n tags left)
    → ComplexOrder st t us
complex_units st t n tags left us s v some c e =
    let ls = legs_in 0 false n tags left in
    let same = ap length e ∙ units_length ls in
    let many = legs_length 0 n tags left v in
    record {
      settings = s;
      complex = ap not (simple_same t us ls same) ∙ c;
      some = omega (arith, same, many, some);
      few = omega (arith, same, many, v.valid.few);
      each = rw e (units_within ls (legs_within 0 n tags left v));
    }

-- ---- orders of one leg, and others: `simple` is what the code asks of the number of legs

module _ (t : Terms) (n : ℕ) (tags left : List ℕ) (v : ValidTags n tags left) {simple : Bool} (asked : (ls : List Leg) → length ls ≡ n → simple ≡ is_simple t ls) where
  asked_legs : simple ≡ is_simple t (legs_in 0 false n tags left)
  asked_legs = asked (legs_in 0 false n tags left) (legs_length 0 n tags left v)

  simple_one : simple ≡ true → n ≡ 1
  simple_one h = sym (legs_length 0 n tags left v) ∙ simple_length t (legs_in 0 false n tags left) (sym asked_legs ∙ h)

  pub simple_unit : simple ≡ true → is_simple t (leg_at 0 false (get_or tags 0 0) 1 ∷ []) ≡ true
  simple_unit h =
      let e = (one_leg 0 n tags left v (simple_one h)).0 in
      simple_same t (leg_at 0 false (get_or tags 0 0) 1 ∷ []) (legs_in 0 false n tags left) (ap length (sym e)) ∙ sym asked_legs ∙ h

  pub complex_legs : simple ≡ false → is_complex t (legs_in 0 false n tags left) ≡ true
  complex_legs h = ap not (sym asked_legs ∙ h)

  -- the answer to the one leg of a simple order is the order's
  pub judged_leg : simple ≡ true → (st : Settings) (m : Market) (root : ℕ) {r : OrderAnswer}
      → ((root size : ℕ) → 1 ≤ size → r ≡ judged st m t (leg_at root false (get_or tags 0 0) size ∷ []))
      → r ≡ judged st m t (legs_in root false n tags left)
  judged_leg h st m root r =
      let o = one_leg root n tags left v (simple_one h) in
      r root (get_or left 0 0) o.1 ∙ ap (judged st m t) (sym o.0)
