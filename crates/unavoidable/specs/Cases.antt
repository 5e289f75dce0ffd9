-- Document 02, S-8: two of document 01's undetermined examples and a ratio spread, each with its two tables.
use Rattle.std.specs.Prelude.{◌≡◌, List, [], ◌∷◌, map, Bool, true, false, ℕ, ℤ, pos}
use Rattle.rules.specs.declared.Leg.{Leg}
use Rattle.rules.specs.Order.{Lent, lent_legs, legs_of, net_worth}
use Rattle.rules.specs.Examples.{calls, puts, minus, given}
use Rattle.unavoidable.specs.Tables.{witness}

-- what an order is worth under one of its tables: the premium of each leg, and the net worth
pub record Worth : Type 0 where
  pub premiums : List ℕ
  pub net : ℤ

abbrev pub under : Bool → List Leg → Worth
under above ls = record { premiums = map (λ l. witness above ls l.series) ls; net = net_worth (witness above ls) ls }

-- an order with its class, and both of its tables
pub record Shown : Type 0 where
  pub class : ℕ
  pub above : Worth
  pub below : Worth

abbrev shown : ℤ → List Lent → Shown
shown price legs =
    let ls = legs_of (lent_legs legs) in
    record {
      class = (given (record { european = 0; price = price; legs = legs; expected = record { number = 0; class = 0; shape = 0; pairings = 0 } })).class;
      above = under true ls;
      below = under false ls;
    }

abbrev worth : List ℕ → ℤ → Worth
worth premiums net = record { premiums = premiums; net = net }

-- T2, T5, and one call bought for two sold at a higher strike; then T2's legs in another sequence
abbrev pub Cases : Type 0
Cases =
    shown (minus 20000) (calls (pos 10) 20 ∷ calls (minus 20) 25 ∷ calls (pos 10) 35 ∷ [])
    ∷ shown (pos 8000) (calls (pos 1) 10 ∷ calls (minus 2) 20 ∷ puts (pos 1) 15 ∷ [])
    ∷ shown (pos 1000) (calls (pos 3) 50 ∷ calls (minus 6) 55 ∷ [])
    ∷ shown (minus 20000) (calls (minus 20) 25 ∷ calls (pos 10) 35 ∷ calls (pos 10) 20 ∷ [])
    ∷ []
    ≡ record { class = 0; above = worth (1 ∷ 0 ∷ 0 ∷ []) (pos 1); below = worth (1 ∷ 1 ∷ 0 ∷ []) (minus 1) }
    ∷ record { class = 0; above = worth (0 ∷ 0 ∷ 1 ∷ []) (pos 1); below = worth (1 ∷ 1 ∷ 0 ∷ []) (minus 1) }
    ∷ record { class = 0; above = worth (1 ∷ 0 ∷ []) (pos 1); below = worth (1 ∷ 1 ∷ []) (minus 1) }
    ∷ record { class = 0; above = worth (0 ∷ 0 ∷ 1 ∷ []) (pos 1); below = worth (1 ∷ 0 ∷ 1 ∷ []) (minus 1) }
    ∷ []
