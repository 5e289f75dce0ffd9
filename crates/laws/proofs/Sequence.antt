-- The order check does not look at the sequence of the legs: refusals test each leg or every two, and all else is of the sorted legs.
use mathlib.Core.Path.{◌≡◌, refl, sym, ap, ap₂}
use mathlib.Core.List.{List, ◌++◌}
use mathlib.Core.Bool.{Bool, true, false, cond, not}
use Prim.Native.Nat.{ℕ}
use native.Mathlib.Omega.{arith}
use lib.Dec.{eqb}
use borrow.Author.Tests.{eqb-true, eq-eqb}
use Rattle.rules.specs.declared.RawLeg.{RawLeg}
use Rattle.rules.specs.declared.Terms.{Terms}
use Rattle.rules.specs.declared.Leg.{Leg}
use Rattle.rules.specs.declared.Settings.{Settings}
use Rattle.rules.specs.declared.Market.{Market}
use Rattle.rules.specs.Lists.{Perm, same_bool}
use Rattle.rules.specs.Symbol.{is_symbol}
use Rattle.rules.specs.Order.{leg_of, legs_of}
use Rattle.rules.specs.Pairing.{digit, strike_key, whole_leg, by_strike}
use Rattle.rules.specs.Checks.{is_positive, is_negative}
use Rattle.rules.specs.Numbers.{is_bad_count, is_same_series, is_other_root, is_bad_price, refusal, outcome, judged, check_legs}
use Rattle.rules.proofs.Tests.{same_test}
use Rattle.laws.proofs.Simple.{simple_same}
use Rattle.laws.proofs.Sorting.{map_perm, length_perm, any_perm, all_test_perm, some_pair_perm, sort_perm, sort_is_perm}

digit_inj : (a b : Bool) → digit a ≡ digit b → a ≡ b
digit_inj true true h = refl
digit_inj true false h = absurd (omega arith)
digit_inj false true h = absurd (omega arith)
digit_inj false false h = refl

-- the key tells any two legs apart
leg_eq : (a b : Leg) → ◌≡◌ {A = List ℕ} (strike_key a.series ++ whole_leg a) (strike_key b.series ++ whole_leg b) → a ≡ b
leg_eq a b e =
    let c : digit a.series.call ≡ digit b.series.call = cc in
    let p : a.series.call ≡ b.series.call = digit_inj _ _ c in
    let q : a.series.expiry ≡ b.series.expiry = cc in
    let r : a.series.strike.0 ≡ b.series.strike.0 = cc in
    let d : digit a.bought ≡ digit b.bought = cc in
    let s : a.bought ≡ b.bought = digit_inj _ _ d in
    let t : a.size ≡ b.size = cc in
    let u : a.root ≡ b.root = cc in
    λ i. record { root = u i; series = record { call = p i; expiry = q i; strike = record { 0 = r i } }; bought = s i; size = t i }

-- sorting makes the sequence irrelevant
pub by_strike_perm : {xs ys : List Leg} → Perm xs ys → by_strike xs ≡ by_strike ys
unfolding by_strike
by_strike_perm p = sort_perm _ leg_eq p

pub by_strike_is_perm : (xs : List Leg) → Perm (by_strike xs) xs
unfolding by_strike
by_strike_is_perm xs = sort_is_perm _ xs

pub legs_perm : {xs ys : List RawLeg} → Perm xs ys → Perm (legs_of xs) (legs_of ys)
unfolding legs_of
legs_perm p = map_perm leg_of p

pub eqb_turn : (a b : ℕ) → eqb a b ≡ eqb b a
eqb_turn a b = same_test _ _ (λ e. eq-eqb b a (sym (eqb-true a b e))) (λ e. eq-eqb a b (sym (eqb-true b a e)))

same_turn : (a b : Bool) → same_bool a b ≡ same_bool b a
same_turn true true = refl
same_turn true false = refl
same_turn false true = refl
same_turn false false = refl

pub same_series_turn : (a b : Leg) → is_same_series a b ≡ is_same_series b a
same_series_turn a b =
    cc (
      eqb_turn a.root b.root,
      same_turn a.series.call b.series.call,
      eqb_turn a.series.expiry b.series.expiry,
      eqb_turn a.series.strike.0 b.series.strike.0,
    )

pub other_root_turn : (a b : Leg) → is_other_root a b ≡ is_other_root b a
other_root_turn a b = ap not (eqb_turn a.root b.root)

module _ (st : Settings) (m : Market) (t : Terms) where
  bad_price_perm : {xs ys : List Leg} → Perm xs ys → is_bad_price t xs ≡ is_bad_price t ys
  unfolding is_bad_price
  bad_price_perm {xs} {ys} p = rw (simple_same t xs ys (length_perm p), all_test_perm (λ l. not (cond l.bought (is_positive t.price) (is_negative t.price))) p)

  refusal_perm : (n : ℕ) {xs ys : List RawLeg} → Perm xs ys → refusal st m t n xs ≡ refusal st m t n ys
  unfolding refusal
  refusal_perm n p =
      rw (
        any_perm (λ r. not (is_symbol r.symbol)) p,
        any_perm is_bad_count p,
        some_pair_perm is_same_series same_series_turn (legs_perm p),
        some_pair_perm is_other_root other_root_turn (legs_perm p),
        bad_price_perm (legs_perm p),
      )

  pub check_perm : (n : ℕ) {xs ys : List RawLeg} → Perm xs ys → check_legs st m t n xs ≡ check_legs st m t n ys
  unfolding check_legs
  check_perm n p = ap₂ outcome (refusal_perm n p) (ap (judged st m t) (by_strike_perm (legs_perm p)))
