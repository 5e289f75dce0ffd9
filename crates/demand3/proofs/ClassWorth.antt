-- Where all pairs and loners of an order are of one class, its worth is of that sign under every table by which its pairs are right, and so under a fair table.
use mathlib.Core.Path.{◌≡◌, refl, sym, ap, ◌∙◌}
use mathlib.Core.List.Memᴰ
use mathlib.Core.List.{List, [], ◌∷◌}
use mathlib.Core.Bool.{Bool, true, false, cond, ◌||◌, not, true≢false}
use Prim.Native.Nat.{ℕ, ◌*◌, ◌≤◌, ◌<◌}
use native.Mathlib.Nat.{mul-le-mul_left, zero-mul}
use native.Mathlib.Omega.{arith}
use lib.Dec.{ltb, eqb}
use borrow.Author.Tests.{ltb-true, ltb-false, eqb-true, eqb-false, eq-eqb}
use Rattle.rules.specs.declared.Series.{Series}
use Rattle.rules.specs.declared.Leg.{Leg}
use Rattle.rules.specs.declared.Settings.{Settings}
use Rattle.rules.specs.declared.Market.{Market}
use Rattle.rules.specs.Lists.{All, same_bool, all}
use Rattle.rules.specs.Order.{is_yes}
use Rattle.rules.specs.Pairing.{Pair, Walked, walk, one_expiry, one_strike, by_expiry, both_walks, is_debit}
use Rattle.rules.specs.Class.{all_of}
use Rattle.demand3.specs.Fair.{Has, Fair, ShareExpiry, ShareStrike}
use Rattle.rules.proofs.Tests.{and_both}
use Rattle.laws.proofs.Sorting.{all_perm, all_append, perm_sym, sort_is_perm}
use Rattle.demand3.proofs.Worth.{worth, pairs_worth, pairing_worth, walk_all}
use Rattle.demand3.proofs.Groups.{one_expiry_lem, one_strike_lem, series_eq}

-- a pair that is a debit is not cheaper bought than sold, and one that is a credit not dearer
abbrev pub Right : (Series → ℕ) → Series → Series → Type 0
Right v b s = v (cond (is_debit b s) s b) ≤ v (cond (is_debit b s) b s)

right_of : (v : Series → ℕ) (b s : Series) (d : Bool) → is_debit b s ≡ d → v (cond d s b) ≤ v (cond d b s) → Right v b s
right_of v b s d e h = rw e h

pub right_eq : (v : Series → ℕ) (b s : Series) → v b ≡ v s → Right v b s
right_eq v b s e = go (is_debit b s)
  where
    go : (d : Bool) → v (cond d s b) ≤ v (cond d b s)
    go true = omega arith
    go false = omega arith

-- loners of one side
pub loners : (v : Series → ℕ) (side : Bool) (ls : List Leg) → all (λ l. eqb l.size 0 || same_bool side l.bought) ls ≡ true → worth v (not side) ls ≡ 0
unfolding all worth
loners v side [] h = refl
loners v side (l ∷ ls) h =
    let k = and_both (eqb l.size 0 || same_bool side l.bought) _ h in
    omega (arith, loners v side ls k.1, none' (eqb l.size 0) refl side l.bought k.0)
  where
    none' : (z : Bool) → eqb l.size 0 ≡ z → (s b : Bool) → z || same_bool s b ≡ true → cond (same_bool (not s) b) (l.size * v l.series) 0 ≡ 0
    none' true f s b e = go (same_bool (not s) b)
      where
        go : (c : Bool) → cond c (l.size * v l.series) 0 ≡ 0
        go true = rw (eqb-true l.size 0 f, zero-mul)
        go false = refl
    none' false f true true e = refl
    none' false f true false e = cc
    none' false f false true e = cc
    none' false f false false e = refl

-- pairs of one side
sided : (v : Series → ℕ) (side : Bool) (ms : List Pair) → All (λ m. Right v m.buy m.sell) ms → all (λ m. same_bool side (is_debit m.buy m.sell)) ms ≡ true → pairs_worth v (not side) ms ≤ pairs_worth v side ms
unfolding all pairs_worth
sided v side [] r h = omega arith
sided v side (m ∷ ms) r h =
    let k = and_both (same_bool side (is_debit m.buy m.sell)) _ h in
    omega (arith, sided v side ms r.1 k.1, one side (is_debit m.buy m.sell) k.0 r.0)
  where
    one : (s d : Bool) → same_bool s d ≡ true → v (cond d m.sell m.buy) ≤ v (cond d m.buy m.sell) → m.size * v (cond (not s) m.buy m.sell) ≤ m.size * v (cond s m.buy m.sell)
    one true true e g = mul-le-mul_left m.size g
    one true false e g = absurd (true≢false (sym e))
    one false true e g = absurd (true≢false (sym e))
    one false false e g = mul-le-mul_left m.size g

pub has_all : (legs : List Leg) → All (λ l. Has legs l.series) legs
has_all [] = tt
has_all (l ∷ legs) = (Memᴰ.head refl, more legs (has_all legs))
  where
    more : (ks : List Leg) → All (λ k. Has legs k.series) ks → All (λ k. Has (l ∷ legs) k.series) ks
    more [] h = tt
    more (k ∷ ks) h = (Memᴰ.tail h.0, more ks h.1)

-- `H` tells the series that the table is asked for
module _ (v : Series → ℕ) (H : Series → Type 0) where
  -- pairs of one type and expiry, where calls do not rise and puts do not fall with strike
  module _ (falls : (s t : Series) → H s → H t → ShareExpiry s t → s.call ≡ true → s.strike.0 < t.strike.0 → v t ≤ v s)
      (rises : (s t : Series) → H s → H t → ShareExpiry s t → s.call ≡ false → s.strike.0 < t.strike.0 → v s ≤ v t) where
    pub expiry_right : (s t : Series) → H s → H t → ShareExpiry s t → Right v s t
    unfolding is_debit
    expiry_right s t hs ht e = go s.call refl (ltb s.strike.0 t.strike.0) refl (ltb t.strike.0 s.strike.0) refl
      where
        x : eqb s.expiry t.expiry ≡ true
        x = eq-eqb s.expiry t.expiry e.1

        back : ShareExpiry t s
        back = (sym e.0, sym e.1)

        go : (c : Bool) → s.call ≡ c → (l : Bool) → ltb s.strike.0 t.strike.0 ≡ l → (k : Bool) → ltb t.strike.0 s.strike.0 ≡ k → Right v s t
        go c f false g false j = right_eq v s t (ap v (series_eq s t e.0 e.1 (omega (arith, ltb-false s.strike.0 t.strike.0 g, ltb-false t.strike.0 s.strike.0 j))))
        go c f true g true j = absurd (omega (arith, ltb-true s.strike.0 t.strike.0 g, ltb-true t.strike.0 s.strike.0 j))
        go true f true g false j = right_of v s t true (rw (x, f, g)) (falls s t hs ht e f (ltb-true s.strike.0 t.strike.0 g))
        go false f true g false j = right_of v s t false (rw (x, f, j)) (rises s t hs ht e f (ltb-true s.strike.0 t.strike.0 g))
        go true f false g true j = right_of v s t false (rw (x, f, g)) (falls t s ht hs back (sym e.0 ∙ f) (ltb-true t.strike.0 s.strike.0 j))
        go false f false g true j = right_of v s t true (rw (x, f, j)) (rises t s ht hs back (sym e.0 ∙ f) (ltb-true t.strike.0 s.strike.0 j))

  -- legs of such series, in any sequence, where the pairs of each walk are right
  module _ (european : Bool) (at_expiry : (s t : Series) → H s → H t → ShareExpiry s t → Right v s t)
      (at_strike : european ≡ false → (s t : Series) → H s → H t → ShareStrike s t → Right v s t)
      (ls : List Leg) (has : All (λ l. H l.series) ls) where
    abbrev Rights : List Pair → Type 0
    Rights = All (λ m. Right v m.buy m.sell)

    pairing_right : Rights (both_walks european ls).pairs
    unfolding both_walks by_expiry
    pairing_right = go european refl
      where
        w : Walked
        w = walk one_expiry ls

        one : Rights w.pairs × All (λ l. H l.series) w.legs
        one = walk_all one_expiry H (Right v) (λ s t hs ht x. let f = one_expiry_lem s t x in (at_expiry s t hs ht f, at_expiry t s ht hs (sym f.0, sym f.1))) ls has

        left : All (λ l. H l.series) (by_expiry w.legs)
        left = all_perm _ (perm_sym (sort_is_perm _ w.legs)) one.1

        two : european ≡ false → Rights (walk one_strike (by_expiry w.legs)).pairs
        two f = (walk_all one_strike H (Right v) (λ s t hs ht x. let g = one_strike_lem s t x in (at_strike f s t hs ht g, at_strike f t s ht hs (sym g.0, sym g.1))) (by_expiry w.legs) left).0

        go : (b : Bool) → european ≡ b → Rights (both_walks b ls).pairs
        go true f = one.0
        go false f = all_append _ w.pairs (walk one_strike (by_expiry w.legs)).pairs one.0 (two f)

    pub sided_worth : (side : Bool) → all_of side (both_walks european ls) ≡ true → worth v (not side) ls ≤ worth v side ls
    unfolding all_of
    sided_worth side h =
        let p = both_walks european ls in
        let k = and_both (all (λ m. same_bool side (is_debit m.buy m.sell)) p.pairs) _ h in
        omega (arith, pairing_worth v side european ls, pairing_worth v (not side) european ls, sided v side p.pairs pairing_right k.0, loners v side p.legs k.1)

-- under a fair table
module _ (st : Settings) (mk : Market) (legs : List Leg) (v : Series → ℕ) (fair : Fair st mk legs v) where
  strike_right : is_yes st.european ≡ false → (s t : Series) → Has legs s → Has legs t → ShareStrike s t → Right v s t
  unfolding is_debit
  strike_right eu s t hs ht e = go (eqb s.expiry t.expiry) refl (ltb t.expiry s.expiry) refl
    where
      go : (q : Bool) → eqb s.expiry t.expiry ≡ q → (k : Bool) → ltb t.expiry s.expiry ≡ k → Right v s t
      go true f k j = right_eq v s t (ap v (series_eq s t e.0 (eqb-true s.expiry t.expiry f) e.1))
      go false f true j = right_of v s t true (rw (f, j)) (fair.farther eu t s ht hs (sym e.0, sym e.1) (ltb-true t.expiry s.expiry j))
      go false f false j = right_of v s t false (rw (f, j)) (fair.farther eu s t hs ht e (omega (arith, ltb-false t.expiry s.expiry j, eqb-false s.expiry t.expiry f)))

  -- `ls` are legs of the order, in any sequence
  pub class_worth : (ls : List Leg) → All (λ l. Has legs l.series) ls → (side : Bool) → all_of side (both_walks (is_yes st.european) ls) ≡ true → worth v (not side) ls ≤ worth v side ls
  class_worth ls has side h =
      sided_worth v (Has legs) (is_yes st.european) (expiry_right v (Has legs) fair.calls_fall fair.puts_rise) strike_right ls has side h
