-- Scaling all counts by a number above 0 changes neither the sequence of the legs nor pairings, class, shape and answer, whatever the legs.
-- Walks of scaled legs make scaled pairs and leave scaled legs, and the common divisor is scaled too, so unit counts stay.
use mathlib.Core.Path.{◌≡◌, refl, sym, ap}
use mathlib.Core.List.{List, [], ◌∷◌, map, map-append}
use mathlib.Core.Bool.{Bool, true, false, cond, not, ◌&&◌, ◌||◌}
use Prim.Native.Nat.{ℕ, zero, suc, ◌-◌, ◌*◌, ◌/◌, ◌%◌, ◌≤◌, ◌<◌, min}
use native.Mathlib.Nat.{min-eq_left, min-eq_right, mul-le-mul_left, mul-lt-mul_of_pos_left, mul-pos, mul-sub, mul-zero, mul_assoc, mul-div-mul_left, mod-lt, mod-eq-sub-mul-div}
use native.Mathlib.Omega.{arith}
use lib.Dec.{eqb, leb, ltb}
use lib.ListN.{length, length-map}
use borrow.Author.Tests.{leb-true, leb-false, ltb-true, ltb-false, lt-ltb, le-ltb, ne_eqb}
use Rattle.rules.specs.declared.Series.{Series}
use Rattle.rules.specs.declared.Leg.{Leg}
use Rattle.rules.specs.declared.Terms.{Terms}
use Rattle.rules.specs.declared.Settings.{Settings}
use Rattle.rules.specs.declared.Market.{Market}
use Rattle.rules.specs.Lists.{same_bool, lex, insert, sort, all}
use Rattle.rules.specs.Order.{is_yes, gcd, common_divisor, divided, units}
use Rattle.rules.specs.Pairing.{Pair, Walked, Reached, less, pair_of, matched, reach, walk, digit, whole_leg, one_expiry, one_strike, by_strike, by_expiry, both_walks, is_debit}
use Rattle.rules.specs.Class.{shape_of, all_of, pair_class, class_with, class_of}
use Rattle.rules.specs.Numbers.{judged}
use Rattle.laws.proofs.Divisor.{gcd_zero, gcd_step}

module _ (k : ℕ) where
  -- the leg with `k` times the contracts
  abbrev pub scaled : Leg → Leg
  scaled l = record { root = l.root; series = l.series; bought = l.bought; size = k * l.size }

  -- the same of a pair, and of all that a walk leaves
  abbrev pub scaled_pair : Pair → Pair
  scaled_pair m = record { buy = m.buy; sell = m.sell; size = k * m.size }

  abbrev pub scaled_walk : Walked → Walked
  scaled_walk w = record { pairs = map scaled_pair w.pairs; legs = map scaled w.legs }

  abbrev scaled_reach : Reached → Reached
  scaled_reach r = record { pairs = map scaled_pair r.pairs; leg = scaled r.leg; legs = map scaled r.legs }

pair_some : (x y : Leg) (n : ℕ) → 0 < n
    → pair_of x y n ≡ record { buy = cond x.bought x.series y.series; sell = cond x.bought y.series x.series; size = n } ∷ []
unfolding pair_of
pair_some x y zero h = absurd (omega arith)
pair_some x y (suc n) h = refl

module _ (k : ℕ) (above : 0 < k) where
  -- numbers
  min_scaled : (a b : ℕ) → min (k * a) (k * b) ≡ k * min a b
  min_scaled a b = go (leb a b) refl
    where
      go : (t : Bool) → leb a b ≡ t → min (k * a) (k * b) ≡ k * min a b
      go true e = let h = leb-true a b e in rw (min-eq_left (mul-le-mul_left k h), min-eq_left h)
      go false e =
          let h : b ≤ a = omega (arith, leb-false a b e) in
          rw (min-eq_right (mul-le-mul_left k h), min-eq_right h)

  ltb_scaled : (a b : ℕ) → ltb (k * a) (k * b) ≡ ltb a b
  ltb_scaled a b = go (ltb a b) refl
    where
      go : (t : Bool) → ltb a b ≡ t → ltb (k * a) (k * b) ≡ t
      go true e = lt-ltb (k * a) (k * b) (mul-lt-mul_of_pos_left (ltb-true a b e) above)
      go false e = le-ltb (k * a) (k * b) (mul-le-mul_left k (ltb-false a b e))

  zero_scaled : (a : ℕ) → eqb (k * a) 0 ≡ eqb a 0
  zero_scaled zero = rw (mul-zero k)
  zero_scaled (suc a) =
      let h : 0 < k * suc a = mul-pos above (omega arith) in
      rw (ne_eqb (k * suc a) 0 (λ e. omega arith), ne_eqb (suc a) 0 (λ e. omega arith))

  module _ (same : Series → Series → Bool) where
    matched_scaled : (x y : Leg) → matched same (scaled k x) (scaled k y) ≡ k * matched same x y
    unfolding matched
    matched_scaled x y = go (same x.series y.series && not (same_bool x.bought y.bought))
      where
        go : (b : Bool) → cond b (min (k * x.size) (k * y.size)) 0 ≡ k * cond b (min x.size y.size) 0
        go true = min_scaled x.size y.size
        go false = sym (mul-zero k)

    pair_scaled : (x y : Leg) (n : ℕ) → pair_of (scaled k x) (scaled k y) (k * n) ≡ map (scaled_pair k) (pair_of x y n)
    unfolding pair_of
    pair_scaled x y zero = rw (mul-zero k)
    pair_scaled x y (suc n) = pair_some (scaled k x) (scaled k y) (k * suc n) (mul-pos above (omega arith))

    reach_scaled : (x : Leg) (ys : List Leg) → reach same (scaled k x) (map (scaled k) ys) ≡ scaled_reach k (reach same x ys)
    unfolding reach
    reach_scaled x [] = refl
    reach_scaled x (y ∷ ys) =
        let n = matched same x y in
        let r = reach same (less x n) ys in
        rw (
          matched_scaled x y,
          pair_scaled x y n,
          ← (mul-sub k x.size n),
          ← (mul-sub k y.size n),
          reach_scaled (less x n) ys,
          map-append (scaled_pair k) (pair_of x y n) r.pairs,
        )

    walk_scaled : (xs : List Leg) → walk same (map (scaled k) xs) ≡ scaled_walk k (walk same xs)
    unfolding walk
    walk_scaled [] = refl
    walk_scaled (x ∷ xs) =
        let w = walk same xs in
        rw (walk_scaled xs, reach_scaled x w.legs, map-append (scaled_pair k) w.pairs (reach same x w.legs).pairs)

  -- sequences: the size is an entry of the key, and scaling keeps its order
  module _ (first second third : Series → ℕ) where
    abbrev key : Leg → List ℕ
    key l = first l.series ∷ second l.series ∷ third l.series ∷ whole_leg l

    lex_scaled : (x y : Leg) → lex (key (scaled k x)) (key (scaled k y)) ≡ lex (key x) (key y)
    unfolding lex
    lex_scaled x y = rw (ltb_scaled x.size y.size, ltb_scaled y.size x.size)

    insert_scaled : (x : Leg) (ys : List Leg) → insert key (scaled k x) (map (scaled k) ys) ≡ map (scaled k) (insert key x ys)
    unfolding insert
    insert_scaled x [] = refl
    insert_scaled x (y ∷ ys) = rw (lex_scaled x y, insert_scaled x ys) (go (lex (key x) (key y)) (x ∷ y ∷ ys) (y ∷ insert key x ys))
      where
        go : (b : Bool) (us vs : List Leg) → cond b (map (scaled k) us) (map (scaled k) vs) ≡ map (scaled k) (cond b us vs)
        go true us vs = refl
        go false us vs = refl

    sort_scaled : (xs : List Leg) → sort key (map (scaled k) xs) ≡ map (scaled k) (sort key xs)
    unfolding sort
    sort_scaled [] = refl
    sort_scaled (x ∷ xs) = rw (sort_scaled xs) (insert_scaled x (sort key xs))

  -- scaled legs come in the same sequence
  pub by_strike_scaled : (ls : List Leg) → by_strike (map (scaled k) ls) ≡ map (scaled k) (by_strike ls)
  unfolding by_strike
  by_strike_scaled ls = sort_scaled (λ s. digit s.call) (λ s. s.expiry) (λ s. cond s.call (99999999 - s.strike.0) s.strike.0) ls

  by_expiry_scaled : (ls : List Leg) → by_expiry (map (scaled k) ls) ≡ map (scaled k) (by_expiry ls)
  unfolding by_expiry
  by_expiry_scaled ls = sort_scaled (λ s. digit s.call) (λ s. s.strike.0) (λ s. s.expiry) ls

  -- both walks of scaled legs make the scaled pairs and leave the scaled legs
  pub pairing_scaled : (european : Bool) (ls : List Leg) → both_walks european (map (scaled k) ls) ≡ scaled_walk k (both_walks european ls)
  unfolding both_walks
  pairing_scaled true ls = walk_scaled one_expiry ls
  pairing_scaled false ls =
      let w = walk one_expiry ls in
      let b = by_expiry w.legs in
      let u = walk one_strike b in
      rw (walk_scaled one_expiry ls, by_expiry_scaled w.legs, walk_scaled one_strike b, map-append (scaled_pair k) w.pairs u.pairs)

  -- scaled legs have as many pairings
  pub pairings_scaled : (european : Bool) (ls : List Leg)
      → length (both_walks european (map (scaled k) ls)).pairs ≡ length (both_walks european ls).pairs
  pairings_scaled european ls = rw (pairing_scaled european ls) (length-map (both_walks european ls).pairs (scaled_pair k))

  -- divisors and unit counts
  mod_scaled : (a b : ℕ) → k * a % (k * b) ≡ k * (a % b)
  mod_scaled a b =
      rw (
        mod-eq-sub-mul-div (k * a) (k * b),
        mul-div-mul_left a b above,
        mod-eq-sub-mul-div a b,
        mul-sub k a (b * (a / b)),
        mul_assoc k b (a / b),
      )

  gcd_none : (a : ℕ) → gcd (k * a) (k * 0) ≡ k * gcd a 0
  gcd_none a = rw (mul-zero k, gcd_zero (k * a), gcd_zero a)

  gcd_within_lem : (n a b : ℕ) → b ≤ n → gcd (k * a) (k * b) ≡ k * gcd a b
  gcd_within_lem zero a zero h = gcd_none a
  gcd_within_lem zero a (suc b) h = absurd (omega arith)
  gcd_within_lem (suc n) a zero h = gcd_none a
  gcd_within_lem (suc n) a (suc b) h =
      let l : a % suc b < suc b = mod-lt a (omega arith) in
      rw (gcd_step (k * a) (k * suc b) (mul-pos above (omega arith)), mod_scaled a (suc b), gcd_step a (suc b) (omega arith))
      (gcd_within_lem n (suc b) (a % suc b) (omega arith))

  divisor_scaled : (ls : List Leg) → common_divisor (map (scaled k) ls) ≡ k * common_divisor ls
  unfolding common_divisor
  divisor_scaled [] = sym (mul-zero k)
  divisor_scaled (l ∷ ls) = rw (divisor_scaled ls) (gcd_within_lem (common_divisor ls) l.size (common_divisor ls) (omega arith))

  divided_scaled : (g : ℕ) (ls : List Leg) → map (divided (k * g)) (map (scaled k) ls) ≡ map (divided g) ls
  divided_scaled g [] = refl
  divided_scaled g (l ∷ ls) = rw (mul-div-mul_left l.size g above, divided_scaled g ls)

  -- scaled legs have the same unit counts
  pub units_scaled : (ls : List Leg) → units (map (scaled k) ls) ≡ units ls
  unfolding units
  units_scaled ls = rw (divisor_scaled ls) (divided_scaled (common_divisor ls) ls)

  -- scaled legs have the same shape
  pub shape_scaled : (ls : List Leg) → shape_of (units (map (scaled k) ls)) ≡ shape_of (units ls)
  shape_scaled ls = ap shape_of (units_scaled ls)

  -- the class looks at no size but for whether it is 0
  pairs_side : (side : Bool) (ms : List Pair) → let f : Pair → Bool = λ m. same_bool side (is_debit m.buy m.sell) in
      all f (map (scaled_pair k) ms) ≡ all f ms
  unfolding all
  pairs_side side [] = refl
  pairs_side side (m ∷ ms) = rw (pairs_side side ms)

  legs_side : (side : Bool) (ls : List Leg) → let f : Leg → Bool = λ l. eqb l.size 0 || same_bool side l.bought in
      all f (map (scaled k) ls) ≡ all f ls
  unfolding all
  legs_side side [] = refl
  legs_side side (l ∷ ls) = rw (zero_scaled l.size, legs_side side ls)

  pair_class_scaled : (w : Walked) → pair_class (scaled_walk k w) ≡ pair_class w
  unfolding pair_class all_of
  pair_class_scaled w = rw (pairs_side true w.pairs, legs_side true w.legs, pairs_side false w.pairs, legs_side false w.legs)

  class_of_scaled : (us : List Leg) (w : Walked) → class_of us (scaled_walk k w) ≡ class_of us w
  class_of_scaled us w = ap (class_with us) (pair_class_scaled w)

  -- scaled legs have the same class
  pub class_scaled : (european : Bool) (ls : List Leg)
      → class_of (units (map (scaled k) ls)) (both_walks european (map (scaled k) ls)) ≡ class_of (units ls) (both_walks european ls)
  class_scaled european ls = rw (units_scaled ls, pairing_scaled european ls) (class_of_scaled (units ls) (both_walks european ls))

  -- scaled legs of a valid order get the same answer: number, class, shape and pairings
  pub judged_scaled : (st : Settings) (m : Market) (t : Terms) (ls : List Leg)
      → judged st m t (by_strike (map (scaled k) ls)) ≡ judged st m t (by_strike ls)
  unfolding judged
  judged_scaled st m t ls =
      let e = is_yes st.european in
      let b = by_strike ls in
      rw (by_strike_scaled ls, class_scaled e b, units_scaled b, pairings_scaled e b)
