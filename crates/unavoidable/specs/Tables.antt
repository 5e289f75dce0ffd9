-- Document 02, S-8: the premium tables that it speaks of, and the two tables of an undetermined order.
use Rattle.std.specs.Prelude.{◌≡◌, List, [], ◌∷◌, Bool, true, false, cond, ◌&&◌, ℕ, ◌≤◌, ◌<◌, eqb, leb, ℤ, pos}
use Rattle.std.specs.Int.Signed.{lt_z}
use Rattle.rules.specs.declared.Series.{Series}
use Rattle.rules.specs.declared.Leg.{Leg}
use Rattle.rules.specs.Lists.{same_bool, all}
use Rattle.rules.specs.Order.{net_worth}
use Rattle.rules.specs.Pairing.{by_strike}
use Rattle.demand3.specs.Fair.{Has}

-- "every whole-number table, none negative, whose calls do not rise and puts do not fall with strike": a table is a function on series, and the order's series alone are bound
pub record Monotone (legs : List Leg) (premium : Series → ℕ) : Type 0 where
  pub calls : (s t : Series) → Has legs s → Has legs t → s.call ≡ true → t.call ≡ true → s.strike.0 < t.strike.0 → premium t ≤ premium s
  pub puts : (s t : Series) → Has legs s → Has legs t → s.call ≡ false → t.call ≡ false → s.strike.0 < t.strike.0 → premium s ≤ premium t

-- "orders of one expiry": every leg's expiry is the first leg's
unfoldable pub is_one_expiry : List Leg → Bool
is_one_expiry [] = true
is_one_expiry (l ∷ ls) = all (λ k. eqb k.series.expiry l.series.expiry) ls

-- The table of a series: 1 for a call at its strike or below it, or for a put at its strike or above it, whichever type it is of, and 0 for every other.
unfoldable pub step : Series → Series → ℕ
step x s =
    cond (same_bool x.call s.call && cond x.call (leb s.strike.0 x.strike.0) (leb x.strike.0 s.strike.0)) 1 0

-- a net worth "above zero", or "below"
abbrev pub is_beyond : Bool → ℤ → Bool
is_beyond above z = cond above (lt_z (pos 0) z) (lt_z z (pos 0))

-- the table of the first of these legs under which the order's net worth is above zero, or below; 0 for every series where there is none
unfoldable pub first_step : Bool → List Leg → List Leg → Series → ℕ
first_step above order [] s = 0
first_step above order (l ∷ ls) s = cond (is_beyond above (net_worth (step l.series) order)) (step l.series s) (first_step above order ls s)

-- "a table above zero and a table below", for an order's legs. They are tried in the first walk's sequence, so that the table does not depend on the sequence in which they came.
unfoldable pub witness : Bool → List Leg → Series → ℕ
witness above ls = first_step above ls (by_strike ls)
