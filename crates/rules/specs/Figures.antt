-- Document 02, S-3, by computing its definitions: a walk of four legs in two groups.
use Rattle.std.specs.Prelude.{◌≡◌, List, [], ◌∷◌, Bool, true, false, ℕ, ℤ, pos, neg_ℤ}
use Rattle.rules.specs.declared.Leg.{Leg}
use Rattle.rules.specs.Pairing.{walk, one_expiry}
use Rattle.rules.specs.OpenContracts.{sign, shows_other, open_contracts, begun, searched, figure}

-- a call's leg
abbrev leg : ℕ → ℕ → Bool → ℕ → Leg
leg expiry strike bought size = record { root = 0; series = record { call = true; expiry = expiry; strike = record { 0 = strike } }; bought = bought; size = size }

-- in the sequence in which the first walk reaches them: one of June is sold, then two of March are bought and one is sold
abbrev sold4 : Leg
sold4 = leg 270618 20000 false 4

abbrev bought1 : Leg
bought1 = leg 270319 20000 true 1

abbrev bought2 : Leg
bought2 = leg 270319 25000 true 2

abbrev sold5 : Leg
sold5 = leg 270319 30000 false 5

-- after each leg, latest walked first
abbrev first : List Leg
first = sold4 ∷ []

abbrev second : List Leg
second = bought1 ∷ first

abbrev third : List Leg
third = bought2 ∷ second

abbrev fourth : List Leg
fourth = sold5 ∷ third

-- the figure after so many matches of the last leg
abbrev matches : List Leg → ℤ
matches met = searched one_expiry (begun one_expiry (figure one_expiry third) sold5 third) sold5 met

-- the sum of what is open in the group of March
abbrev march : List Leg → ℤ
march ls = open_contracts one_expiry sold5.series ls

pub record Figures : Type 0 where
  -- 4 sold; in the next group 1 bought, then 3; at last 5 sold meet 3 bought, and 2 stay open
  pub legs : (figure one_expiry first ≡ neg_ℤ (pos 4)) × (figure one_expiry second ≡ pos 1) × (figure one_expiry third ≡ pos 3) × (figure one_expiry fourth ≡ neg_ℤ (pos 2))
  -- 3 before the first match, 1 after it, 0 after the second
  pub adjusts : (matches [] ≡ pos 3) × (matches (bought2 ∷ []) ≡ pos 1) × (matches (bought2 ∷ bought1 ∷ []) ≡ pos 0)
  -- what is open in the group, by the definition of the walk: what June has open does not count
  pub sums : (march (walk one_expiry third).legs ≡ pos 3) × (march (walk one_expiry fourth).legs ≡ neg_ℤ (pos 2))
  -- 3 bought are another side for what is sold, not for what is bought; where nothing is open there is no other side
  pub sides : (shows_other (pos 3) (sign false) ≡ true) × (shows_other (pos 3) (sign true) ≡ false) × (shows_other (neg_ℤ (pos 2)) (sign true) ≡ true) × (shows_other (pos 0) (sign true) ≡ false) × (shows_other (pos 0) (sign false) ≡ false)
