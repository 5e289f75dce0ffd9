-- A sell mirrors a buy: with every price mirrored, the other side's quote gets the same.
use mathlib.Core.Path.{◌≡◌, refl, sym, ap, ap₂, ◌∙◌}
use mathlib.Core.Logic.{◌⊎◌, inr, ⊎_elim}
use mathlib.Core.List.{List, [], ◌∷◌, map}
use mathlib.Core.Bool.{Bool, true, false, cond, not, ◌&&◌, ◌||◌}
use Prim.Native.Nat.{ℕ, zero, suc, ◌<◌}
use native.Mathlib.Omega.{arith}
use lib.ListN.{length, get_or, length-map}
use borrow.Author.Tests.{eqb-false, ne_eqb}
use Rattle.rules.specs.declared.Mills.{Mills}
use Rattle.rules.specs.Order.{is_yes}
use Rattle.rules.specs.Market.{is_missing, at_or_past}
use Rattle.rules.specs.Crossing.{Crossing, is_bought, may_fill, is_booked, execution}
use Rattle.crossing_theorems.specs.Crossed.{IsPrice, Good, price_at, mirrored_price, mirrored}
use Rattle.crossing_theorems.proofs.Sides.{mirrored_better, mirrored_past}
use Rattle.crossing_theorems.proofs.Fills.{fills_same}

-- ---- lists of mirrored prices

mirrored_at : (ps : List ℕ) (i : ℕ) → i < length ps → get_or (map mirrored_price ps) i 0 ≡ mirrored_price (get_or ps i 0)
mirrored_at [] i l = absurd (omega arith)
mirrored_at (p ∷ ps) zero l = refl
mirrored_at (p ∷ ps) (suc i) l = mirrored_at ps i (omega arith)

mirrored_price_lem : (p : ℕ) → IsPrice p → IsPrice (mirrored_price p)
mirrored_price_lem p h = (omega arith, omega arith)

-- the other side
other_side : (b : Bool) → not (is_yes (cond b 1 0)) ≡ not b
other_side true = refl
other_side false = refl

-- ---- the away price

abbrev mirrored_away : Bool → Mills → Mills
mirrored_away missing away = cond missing away (record { 0 = mirrored_price away.0 })

module _ (away : Mills) (some : (away.0 ≡ 0) ⊎ IsPrice away.0) where
  is_price_lem : (away.0 ≡ 0 → ⊥) → IsPrice away.0
  is_price_lem h = ⊎_elim (λ e. absurd (h e)) (λ p. p) some

  mirrored_away_lem : (b : Bool) → is_missing away ≡ b → ((mirrored_away b away).0 ≡ 0) ⊎ IsPrice (mirrored_away b away).0
  mirrored_away_lem true e = some
  mirrored_away_lem false e = inr (mirrored_price_lem away.0 (is_price_lem (eqb-false away.0 0 e)))

  -- a test that says the same of a mirrored price says the same of a mirrored away price, unless it is missing
  same_away : (test other : ℕ → Bool) → (IsPrice away.0 → other (mirrored_price away.0) ≡ test away.0)
      → (b : Bool) → is_missing away ≡ b → is_missing (mirrored_away b away) || other (mirrored_away b away).0 ≡ is_missing away || test away.0
  same_away test other h true e = rw e
  same_away test other h false e =
      let p = is_price_lem (eqb-false away.0 0 e) in
      let f : is_missing (record { 0 = mirrored_price away.0 }) ≡ false = ne_eqb (mirrored_price away.0) 0 (λ q. omega (arith, p.1, q)) in
      ap₂ ◌||◌ (f ∙ sym e) (h p)

-- ---- the whole

module _ (room : ℕ) (c : Crossing) (g : Good room c) where
  long : length (mirrored c).prices ≡ length c.prices
  long = length-map c.prices mirrored_price

  -- a place of the mirrored list, in the list
  place : (i : ℕ) → i < length (mirrored c).prices → i < length c.prices
  place i l = omega (arith, l, long)

  at : (i : ℕ) → i < length (mirrored c).prices → price_at (mirrored c) i ≡ mirrored_price (price_at c i)
  at i l = mirrored_at c.prices i (place i l)

  pub mirrored_good : Good room (mirrored c)
  mirrored_good =
      record {
        long = rw long g.long;
        lent = rw long g.lent;
        sized = g.sized ∙ sym long;
        prices = λ i l. rw (at i l) (mirrored_price_lem (price_at c i) (g.prices i (place i l)));
        sizes = λ i l. g.sizes i (place i l);
        sequence = λ i j l k.
            let h : i < length (mirrored c).prices = omega arith in
            rw (at i h, at j k, other_side (is_bought c)) (mirrored_better (is_bought c) (price_at c i) (price_at c j) (g.prices i (place i h)).1 (g.prices j (place j k)).1 (g.sequence i j l (place j k)));
        size = g.size;
        away = mirrored_away_lem c.away g.away (is_missing c.away) refl;
      }

  module _ (price : Mills) (q : IsPrice price.0) where
    abbrev other : Mills
    other = record { 0 = mirrored_price price.0 }

    may_same : (p : ℕ) → IsPrice p → may_fill (not (is_bought c)) other (mirrored c).away (mirrored_price p) ≡ may_fill (is_bought c) price c.away p
    unfolding may_fill
    may_same p h =
        ap₂ ◌&&◌ (mirrored_past (is_bought c) price.0 p q.1 h.1)
        (same_away c.away g.away (λ a. at_or_past (is_bought c) a p) (λ a. at_or_past (not (is_bought c)) a (mirrored_price p)) (λ k. mirrored_past (is_bought c) c.away.0 p k.1 h.1) (is_missing c.away) refl)

    booked_same : is_booked (not (is_bought c)) other (mirrored c).away ≡ is_booked (is_bought c) price c.away
    unfolding is_booked
    booked_same =
        same_away c.away g.away (λ a. not (at_or_past (is_bought c) price.0 a)) (λ a. not (at_or_past (not (is_bought c)) (mirrored_price price.0) a)) (λ k. ap not (mirrored_past (is_bought c) price.0 c.away.0 q.1 k.1)) (is_missing c.away) refl

    pub mirrored_same : execution room other (mirrored c) ≡ execution room price c
    unfolding execution
    mirrored_same =
        rw (
          other_side (is_bought c),
          fills_same (may_fill (is_bought c) price c.away) (may_fill (not (is_bought c)) other (mirrored c).away) mirrored_price c.size c.prices c.sizes (λ i l. may_same (price_at c i) (g.prices i l)),
          booked_same,
        )
