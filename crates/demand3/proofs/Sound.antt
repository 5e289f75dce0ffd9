-- At its net worth under a fair table no order is rejected by checks 20 to 24.
use mathlib.Core.Path.{◌≡◌, refl, sym, ap, ◌∙◌}
use mathlib.Core.List.{List, [], ◌∷◌}
use mathlib.Core.Bool.{Bool, true, false, cond, ◌&&◌, not, true≢false}
use mathlib.Core.Logic.{◌⊎◌, inl, inr}
use Prim.Native.Nat.{ℕ, zero, suc, ◌+◌, ◌-◌, ◌*◌, ◌≤◌, ◌<◌}
use native.Mathlib.Nat.{div_self, mul-le-mul_left}
use native.Mathlib.Omega.{arith}
use lib.Dec.{ltb, leb, eqb}
use lib.IntN.{pos, neg_ℤ, ◌-ℤ◌}
use borrow.Author.Tests.{ltb-true, leb-true, leb-false, eqb-true}
use Rattle.rules.specs.declared.Mills.{Mills}
use Rattle.rules.specs.declared.Price.{Price}
use Rattle.rules.specs.declared.Terms.{Terms}
use Rattle.rules.specs.declared.Series.{Series}
use Rattle.rules.specs.declared.Leg.{Leg}
use Rattle.rules.specs.declared.Settings.{Settings}
use Rattle.rules.specs.declared.Market.{Market}
use Rattle.rules.specs.Lists.{All, same_bool, all, every}
use Rattle.rules.specs.Order.{is_yes, size_of, is_below_zero, signed_price, gcd, gcd_within, common_divisor, units}
use Rattle.rules.specs.Pairing.{Walked, both_walks}
use Rattle.rules.specs.Class.{is_vertical, is_butterfly, has_own_class, is_box, shape_of, all_of, pair_class, class_with, class_of}
use Rattle.rules.specs.Checks.{is_limit, is_positive, is_negative, put_test, call_test, simple_buy, sizes, is_below, same_side_below, buy_buy, debit_credit, maximum_of, allowance, has_maximum, maximum_value}
use Rattle.demand3.specs.Fair.{Has, Fair}
use Rattle.laws.proofs.Simple.{simple_length}
use Rattle.rules.proofs.Tests.{and_both, or_either, not_eq, passed}
use Rattle.laws.proofs.Sorting.{all_map}
use Rattle.demand3.proofs.Worth.{worth}
use Rattle.demand3.proofs.Units.{Sized, units_order}
use Rattle.demand3.proofs.Signs.{minus_up, minus_down}
use Rattle.demand3.proofs.ClassWorth.{class_worth}
use Rattle.demand3.proofs.Shapes.{fly_class, vertical_max, fly_max, box_max}

-- the price that is `B` less `S`
pub record PriceIs (p : Price) (B S : ℕ) : Type 0 where
  pub paid : p.received ≡ false → S ≤ B
  pub got : p.received ≡ true → B ≤ S
  pub size : p.size.0 ≡ (B - S) + (S - B)

turned_size : (n : ℕ) → size_of (neg_ℤ (pos n)) ≡ n
turned_size zero = refl
turned_size (suc n) = refl

turned_sign : (n : ℕ) → 0 < n → is_below_zero (neg_ℤ (pos n)) ≡ true
turned_sign zero h = absurd (omega arith)
turned_sign (suc n) h = refl

difference_size : (B S : ℕ) → size_of (pos B -ℤ pos S) ≡ (B - S) + (S - B)
difference_size B S = go (leb S B) refl
  where
    go : (b : Bool) → leb S B ≡ b → size_of (pos B -ℤ pos S) ≡ (B - S) + (S - B)
    go true e = let h = leb-true S B e in ap size_of (minus_up B S h) ∙ omega arith
    go false e = let h = leb-false S B e in ap size_of (minus_down B S (omega arith)) ∙ turned_size (S - B) ∙ omega arith

pub price_is : (p : Price) (B S : ℕ) → signed_price p ≡ pos B -ℤ pos S → PriceIs p B S
price_is p B S h = record { paid = paid; got = got; size = size }
  where
    stands : (r : Bool) → p.received ≡ r → signed_price p ≡ cond r (neg_ℤ (pos p.size.0)) (pos p.size.0)
    stands r e = ap (λ (x : Bool). cond x (neg_ℤ (pos p.size.0)) (pos p.size.0)) e

    whole : (r : Bool) → p.received ≡ r → size_of (signed_price p) ≡ p.size.0
    whole true e = ap size_of (stands true e) ∙ turned_size p.size.0
    whole false e = ap size_of (stands false e)

    size : p.size.0 ≡ (B - S) + (S - B)
    size = sym (whole p.received refl) ∙ ap size_of h ∙ difference_size B S

    paid : p.received ≡ false → S ≤ B
    paid e = go (leb S B) refl
      where
        go : (b : Bool) → leb S B ≡ b → S ≤ B
        go true f = leb-true S B f
        go false f =
            let l = leb-false S B f in
            absurd (true≢false (sym (turned_sign (S - B) (omega arith)) ∙ ap is_below_zero (sym (minus_down B S (omega arith)) ∙ sym h ∙ stands false e)))

    got : p.received ≡ true → B ≤ S
    got e = go (leb B S) refl
      where
        go : (b : Bool) → leb B S ≡ b → B ≤ S
        go true f = leb-true B S f
        go false f =
            let l = leb-false B S f in
            absurd (true≢false (sym (turned_sign p.size.0 (omega (arith, size))) ∙ ap is_below_zero (sym (stands true e) ∙ h ∙ minus_up B S (omega arith))))

-- the class's number for a side
abbrev pub code_of : Bool → ℕ
code_of true = 1
code_of false = 2

pair_class_lem : (side : Bool) (w : Walked) → pair_class w ≡ code_of side → all_of side w ≡ true
unfolding pair_class
pair_class_lem side w = go side (all_of true w) refl (all_of false w) refl
  where
    go : (s a : Bool) → all_of true w ≡ a → (b : Bool) → all_of false w ≡ b → cond a 1 (cond b 2 0) ≡ code_of s → all_of s w ≡ true
    go true true e b f h = e
    go true false e true f h = absurd (omega arith)
    go true false e false f h = absurd (omega arith)
    go false true e b f h = absurd (omega arith)
    go false false e true f h = f
    go false false e false f h = absurd (omega arith)

side_of_lem : (b side : Bool) → cond b 2 1 ≡ code_of side → b ≡ not side
side_of_lem true true h = absurd (omega arith)
side_of_lem true false h = refl
side_of_lem false true h = refl
side_of_lem false false h = absurd (omega arith)

shaped : (b : Bool) (k : ℕ) → has_maximum (cond b k 0) ≡ true → (b ≡ true) × (has_maximum k ≡ true)
shaped true k h = (refl, h)
shaped false k h = absurd (true≢false (sym h))

true_shape : (b : Bool) → has_maximum (cond b 2 3) ≡ true → b ≡ true
true_shape true h = refl
true_shape false h = h

-- legs of one side leave nothing of the other
one_side : (v : Series → ℕ) (side : Bool) (us : List Leg) → all (λ u. same_bool side u.bought) us ≡ true → worth v (not side) us ≡ 0
unfolding all worth
one_side v side [] h = refl
one_side v side (u ∷ us) h =
    let k = and_both (same_bool side u.bought) _ h in
    omega (arith, one_side v side us k.1, none side u.bought k.0)
  where
    none : (s b : Bool) → same_bool s b ≡ true → cond (same_bool (not s) b) (u.size * v u.series) 0 ≡ 0
    none true true e = refl
    none true false e = cc
    none false true e = cc
    none false false e = refl

module _ (st : Settings) (mk : Market) (t : Terms) (legs : List Leg) (v : Series → ℕ) (fair : Fair st mk legs v) where
  abbrev Hs : List Leg → Type 0
  Hs = All (λ l. Has legs l.series)

  -- the class of unit legs, where pairs and loners bear theirs out
  class_us : (side : Bool) (us : List Leg) (w : Walked) → Hs us → (pair_class w ≡ code_of side → worth v (not side) us ≤ worth v side us)
      → class_of us w ≡ code_of side → worth v (not side) us ≤ worth v side us
  unfolding class_with
  class_us side [] w h r e = r e
  class_us side (a ∷ []) w h r e = r e
  class_us side (a ∷ b ∷ []) w h r e = r e
  class_us side (a ∷ m ∷ b ∷ []) w h r e = go (has_own_class a m b) refl e
    where
      go : (k : Bool) → has_own_class a m b ≡ k → cond k (cond m.bought 2 1) (pair_class w) ≡ code_of side → worth v (not side) (a ∷ m ∷ b ∷ []) ≤ worth v side (a ∷ m ∷ b ∷ [])
      go true f g = fly_class st mk legs v fair side a m b h.0 h.1.0 h.1.1.0 f (side_of_lem m.bought side g)
      go false f g = r g
  class_us side (a ∷ b ∷ c ∷ d ∷ q) w h r e = r e

  pub has_units : (ls : List Leg) → Hs ls → Hs (units ls)
  unfolding units
  has_units ls h = all_map (λ l. Has legs l.series) _ ls h

  -- the class of an order bears on its worth
  pub class_ls : (side : Bool) (ls : List Leg) → Hs ls → Sized ls → class_of (units ls) (both_walks (is_yes st.european) ls) ≡ code_of side → worth v (not side) (units ls) ≤ worth v side (units ls)
  class_ls side ls h z e =
      class_us side (units ls) (both_walks (is_yes st.european) ls) (has_units ls h)
      (λ f. units_order v (not side) side ls z (class_worth st mk legs v fair ls h side (pair_class_lem side (both_walks (is_yes st.european) ls) f)))
      e

  abbrev B : List Leg → ℕ
  B us = worth v true us

  abbrev S : List Leg → ℕ
  S us = worth v false us

  -- the price is the net worth
  abbrev pub Priced : List Leg → Type 0
  Priced us = PriceIs t.price (B us) (S us)

  -- one leg, bought
  single : (l : Leg) → 0 < l.size → l.bought ≡ true → Priced (units (l ∷ [])) → t.price.size.0 ≡ v l.series
  unfolding units common_divisor gcd gcd_within worth
  single l z b p =
      let w : B (units (l ∷ [])) ≡ v l.series = rw (b, div_self z) (omega arith) in
      let n : S (units (l ∷ [])) ≡ 0 = rw b (omega arith) in
      omega (arith, p.size)

  simple_sound : (test : Series → Mills → Bool) → ((s : Series) (paid : Mills) → Has legs s → paid.0 ≡ v s → test s paid ≡ true → ⊥)
      → (ls : List Leg) → Hs ls → Sized ls → Priced (units ls) → simple_buy test t (units ls) ≡ true → ⊥
  unfolding simple_buy units all
  simple_sound test never [] h z p e = let one = simple_length t [] (passed _ e).0 in absurd (omega arith)
  simple_sound test never (l ∷ []) h z p e =
      let (one, (skip, (paid, (each, rest)))) = passed _ e in
      let k = and_both _ true each in
      let f = and_both l.bought _ k.0 in
      never l.series t.price.size h.0 (single l z.0 f.0 p) f.1
  simple_sound test never (l ∷ k ∷ r) h z p e =
      let one = simple_length t (units (l ∷ k ∷ r)) (passed _ e).0 in
      absurd (omega arith)

  pub sound20 : (ls : List Leg) → Hs ls → Sized ls → Priced (units ls) → simple_buy put_test t (units ls) ≡ true → ⊥
  unfolding put_test
  sound20 = simple_sound put_test (λ s paid h e f. let k = and_both (not s.call) _ f in omega (arith, leb-true s.strike.0 paid.0 k.1, fair.put_below s h (not_eq s.call k.0)))

  pub sound21 : (ls : List Leg) → Hs ls → Sized ls → Priced (units ls) → simple_buy (call_test (is_yes st.adjusted) mk) t (units ls) ≡ true → ⊥
  unfolding call_test
  sound21 =
      simple_sound (call_test (is_yes st.adjusted) mk)
      (λ s paid h e f. let (c, (known, (above, rest))) = passed _ f in omega (arith, leb-true mk.underlying.0 paid.0 above, fair.call_below s h c (ltb-true 0 mk.underlying.0 known)))

  -- legs of one side are worth at least the net increment for each contract
  increments : (side : Bool) (us : List Leg) → Hs us → all (λ u. same_bool side u.bought) us ≡ true → sizes us * st.increment.0 ≤ worth v side us
  unfolding all sizes worth
  increments side [] h e = omega arith
  increments side (u ∷ us) h e =
      let k = and_both (same_bool side u.bought) _ e in
      rw k.0 (omega (arith, increments side us h.1 k.1, mul-le-mul_left u.size (fair.at_least u.series h.0)))

  -- an amount paid (received) that is the worth of one side's legs is below no smaller sum
  not_below : (side : Bool) (us : List Leg) (n : ℕ) → Priced us → worth v (not side) us ≡ 0 → n ≤ worth v side us → is_below side t.price n ≡ true → ⊥
  unfolding is_below
  not_below true us n p z h e = go (or_either _ _ e)
    where
      go : (is_negative t.price ≡ true) ⊎ (ltb t.price.size.0 n ≡ true) → ⊥
      go (inl f) = let k = and_both t.price.received _ f in omega (arith, p.got k.0, p.size, ltb-true 0 t.price.size.0 k.1)
      go (inr f) = omega (arith, p.size, ltb-true t.price.size.0 n f)
  not_below false us n p z h e = go (or_either _ _ e)
    where
      go : (is_positive t.price ≡ true) ⊎ (ltb t.price.size.0 n ≡ true) → ⊥
      go (inl f) =
          let k = and_both (not t.price.received) _ f in
          omega (arith, p.paid (not_eq t.price.received k.0), p.size, ltb-true 0 t.price.size.0 k.1)
      go (inr f) = omega (arith, p.size, ltb-true t.price.size.0 n f)

  pub sound22 : (us : List Leg) → Hs us → Priced us → buy_buy st t us ≡ true → ⊥
  unfolding buy_buy same_side_below
  sound22 us h p e = go (or_either _ _ (passed _ e).1.1.0)
    where
      side : (s : Bool) → same_side_below st t us s ≡ true → ⊥
      side s f =
          let (on, (shares, (below, z))) = passed _ f in
          not_below s us (sizes us * st.increment.0) p (one_side v s us on) (increments s us h on) below

      go : (same_side_below st t us true ≡ true) ⊎ (same_side_below st t us false ≡ true) → ⊥
      go (inl f) = side true f
      go (inr f) = side false f

  pub sound23 : (us : List Leg) (class : ℕ) → Priced us → (class ≡ 1 → S us ≤ B us) → (class ≡ 2 → B us ≤ S us) → debit_credit t us class ≡ true → ⊥
  unfolding debit_credit
  sound23 us class p d c e = let (complex, (none, (tested, z))) = passed _ e in go (or_either _ _ tested)
    where
      go : (every (is_limit t ∷ eqb class 1 ∷ is_negative t.price ∷ []) ≡ true) ⊎ (eqb class 2 && is_positive t.price ≡ true) → ⊥
      go (inl f) =
          let (f0, (f1, (f2, z))) = passed _ f in
          let k = and_both t.price.received _ f2 in
          omega (arith, d (eqb-true class 1 f1), p.got k.0, p.size, ltb-true 0 t.price.size.0 k.1)
      go (inr f) =
          let g = and_both (eqb class 2) _ f in
          let k = and_both (not t.price.received) _ g.1 in
          omega (arith, c (eqb-true class 2 g.0), p.size, p.paid (not_eq t.price.received k.0), ltb-true 0 t.price.size.0 k.1)

  -- a shape with a maximum value keeps to it
  shape_max : (us : List Leg) → Hs us → has_maximum (shape_of us) ≡ true → (B us ≤ S us + maximum_of us) × (S us ≤ B us + maximum_of us)
  unfolding shape_of maximum_of
  shape_max [] h e = absurd (true≢false (sym e))
  shape_max (a ∷ []) h e = absurd (true≢false (sym e))
  shape_max (a ∷ b ∷ []) h e = vertical_max st mk legs v fair a b h.0 h.1.0 (shaped (is_vertical a b) 1 e).0
  shape_max (a ∷ m ∷ b ∷ []) h e =
      let k = shaped (is_butterfly a m b) _ e in
      fly_max st mk legs v fair a m b h.0 h.1.0 h.1.1.0 k.0 (eqb-true _ _ (true_shape _ k.1))
  shape_max (p ∷ q ∷ d ∷ c ∷ []) h e = box_max st mk legs v fair p q d c h.0 h.1.0 h.1.1.0 h.1.1.1.0 (shaped (is_box p q d c) 4 e).0
  shape_max (a ∷ b ∷ c ∷ d ∷ x ∷ r) h e = absurd (true≢false (sym e))

  pub sound24 : (us : List Leg) → Hs us → Priced us → maximum_value st t us ≡ true → ⊥
  unfolding maximum_value
  sound24 us h p e =
      let (none, (shape, (over, z))) = passed _ e in
      let w = shape_max us h shape in
      omega (arith, p.size, ltb-true (maximum_of us + allowance st (maximum_of us)) t.price.size.0 over, w.0, w.1)
