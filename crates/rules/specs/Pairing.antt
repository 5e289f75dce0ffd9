-- Document 01, Pairing, with document 02's S-5.
use Rattle.std.specs.Prelude.{List, [], ◌∷◌, ◌++◌, Bool, cond, not, ◌&&◌, ℕ, zero, suc, ◌-◌, min, eqb, ltb}
use Rattle.rules.specs.declared.Series.{Series}
use Rattle.rules.specs.declared.Leg.{Leg}
use Rattle.rules.specs.Lists.{same_bool, sort}

-- "A pairing is one match of two legs, of as many contracts as the smaller has open"
pub record Pair : Type 0 where
  pub buy : Series
  pub sell : Series
  pub size : ℕ

-- the match of `x` and `y`, of `n` contracts: none where `n` is 0
unfoldable pub pair_of : Leg → Leg → ℕ → List Pair
pair_of x y zero = []
pair_of x y (suc n) = record { buy = cond x.bought x.series y.series; sell = cond x.bought y.series x.series; size = suc n } ∷ []

-- the leg with `n` contracts fewer open
abbrev pub less : Leg → ℕ → Leg
less x n = record { root = x.root; series = x.series; bought = x.bought; size = x.size - n }

-- what a walk leaves: the pairs made, and every leg with the contracts that it still has open, latest walked first
pub record Walked : Type 0 where
  pub pairs : List Pair
  pub legs : List Leg

-- the same where a leg has just been reached
pub record Reached : Type 0 where
  pub pairs : List Pair
  pub leg : Leg
  pub legs : List Leg

-- `same` tells which series are walked together
module _ (same : Series → Series → Bool) where
  -- how many contracts of the two legs are matched: those of the other side
  unfoldable pub matched : Leg → Leg → ℕ
  matched x y = cond (same x.series y.series && not (same_bool x.bought y.bought)) (min x.size y.size) 0

  -- "Contracts at the strike reached are matched with open contracts of the other side, latest-walked strike first."
  unfoldable pub reach : Leg → List Leg → Reached
  reach x [] = record { pairs = []; leg = x; legs = [] }
  reach x (y ∷ ys) =
      let n = matched x y in
      let r = reach (less x n) ys in
      record { pairs = pair_of x y n ++ r.pairs; leg = r.leg; legs = less y n ∷ r.legs }

  -- legs are listed latest walked first, so `x` is reached after `xs`
  unfoldable pub walk : List Leg → Walked
  walk [] = record { pairs = []; legs = [] }
  walk (x ∷ xs) =
      let w = walk xs in
      let r = reach x w.legs in
      record { pairs = w.pairs ++ r.pairs; legs = r.leg ∷ r.legs }

abbrev pub digit : Bool → ℕ
digit b = cond b 1 0

-- the whole leg, so that no two legs have one key
abbrev pub whole_leg : Leg → List ℕ
whole_leg l = digit l.series.call ∷ l.series.expiry ∷ l.series.strike.0 ∷ digit l.bought ∷ l.size ∷ l.root ∷ []

-- 1. "Within each type and expiry, calls are walked from the lowest strike up, puts from the highest down."
abbrev pub one_expiry : Series → Series → Bool
one_expiry s t = same_bool s.call t.call && eqb s.expiry t.expiry

-- the first walk's sequence, latest walked first
abbrev pub strike_key : Series → List ℕ
strike_key s = digit s.call ∷ s.expiry ∷ cond s.call (99999999 - s.strike.0) s.strike.0 ∷ []

unfoldable pub by_strike : List Leg → List Leg
by_strike = sort (λ l. strike_key l.series ++ whole_leg l)

-- Document 01, step 2, as amended by S-5: "what is left at one type and strike is walked" from "the farthest expiry" "towards the nearest", "same manner"
abbrev pub one_strike : Series → Series → Bool
one_strike s t = same_bool s.call t.call && eqb s.strike.0 t.strike.0

-- the second walk's sequence, latest walked first: the nearest expiry, which is walked last, is the first
abbrev pub expiry_key : Series → List ℕ
expiry_key s = digit s.call ∷ s.strike.0 ∷ s.expiry ∷ []

unfoldable pub by_expiry : List Leg → List Leg
by_expiry = sort (λ l. expiry_key l.series ++ whole_leg l)

-- Both walks of legs in the first walk's sequence; the second "Unless the class is European index style".
unfoldable pub both_walks : Bool → List Leg → Walked
both_walks european ls =
    let w = walk one_expiry ls in
    let u = walk one_strike (by_expiry w.legs) in
    cond european w (record { pairs = w.pairs ++ u.pairs; legs = u.legs })

-- "A call pair of one expiry is a debit if the buy has the lower strike, a put pair if the buy has the higher; a pair of one strike is a debit if the buy expires later. Otherwise it is a credit."
unfoldable pub is_debit : Series → Series → Bool
is_debit buy sell =
    cond (eqb buy.expiry sell.expiry)
    (cond buy.call (ltb buy.strike.0 sell.strike.0) (ltb sell.strike.0 buy.strike.0))
    (ltb sell.expiry buy.expiry)
