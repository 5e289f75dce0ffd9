-- What the words of demand 3 reach, by computing them: a definition that reaches less could be met by wrong rules.
use Rattle.std.specs.Prelude.{◌≡◌, List, [], ◌∷◌, true, ℕ, ℤ, pos, ◌≤ℤ◌}
use Rattle.rules.specs.declared.Order.{Order}
use Rattle.rules.specs.declared.Series.{Series}
use Rattle.rules.specs.declared.Leg.{Leg}
use Rattle.rules.specs.declared.Settings.{Settings}
use Rattle.rules.specs.declared.Market.{Market}
use Rattle.rules.specs.declared.OrderAnswer.{OrderAnswer}
use Rattle.rules.specs.Lists.{All, Perm, all}
use Rattle.rules.specs.Order.{Lent, record_legs, signed_price, legs_of, net_worth}
use Rattle.rules.specs.Kinds.{is_refused}
use Rattle.rules.specs.Numbers.{check_order, Inputs}
use Rattle.demand3.specs.Fair.{Fair}
use Rattle.demand3.specs.Demand3.{IsWhole, IsValid, NotRejected, arrival, order_legs, Demand3}

abbrev answer : ℕ → OrderAnswer
answer n = record { number = n; class = 0; shape = 0; pairings = 0 }

-- what is promised under fair tables, of two arrivals with the answers `x` and `y`
abbrev Promised : Settings → Market → ℤ → List Leg → OrderAnswer → OrderAnswer → Type 0
Promised st m price ls x y =
    IsValid x → (premium : Series → ℕ) → Fair st m ls premium
    → (x.class ≡ 1 → pos 0 ≤ℤ net_worth premium ls)
    × (x.class ≡ 2 → net_worth premium ls ≤ℤ pos 0)
    × (price ≡ net_worth premium ls → NotRejected x × NotRejected y)

-- any other sequence; every order that is not refused ("1 to 12", and the numbers of document 02); each of the five checks
pub record Reach : Type 0 where
  pub turned : Perm {A = ℕ} (1 ∷ 2 ∷ 3 ∷ []) (3 ∷ 2 ∷ 1 ∷ [])
  pub valid : All (λ n. IsValid (answer n)) (0 ∷ 20 ∷ 21 ∷ 22 ∷ 23 ∷ 24 ∷ 25 ∷ [])
  pub refused : all is_refused (1 ∷ 2 ∷ 3 ∷ 4 ∷ 5 ∷ 6 ∷ 7 ∷ 8 ∷ 9 ∷ 10 ∷ 11 ∷ 12 ∷ 30 ∷ 31 ∷ 32 ∷ 33 ∷ []) ≡ true
  pub rejected : All (λ n. NotRejected (answer n) → ⊥) (20 ∷ 21 ∷ 22 ∷ 23 ∷ 24 ∷ [])
  -- "For orders with shares the fair-table promise ends" (document 02, S-4): it stands whole for every order without, as the host lends it and as a record, whose shares of size 0 may be of either side
  pub whole : Demand3 → (a : Inputs) (xs ys : List Lent) → All IsWhole xs → Perm xs ys → a.shares ≡ pos 0 → Promised a.settings a.market a.price (order_legs xs) (arrival a xs) (arrival a ys)
  pub order_record : Demand3 → (st : Settings) (m : Market) (o p : Order) → o.terms ≡ p.terms → o.len ≡ p.len → Perm (record_legs o) (record_legs p) → o.terms.shares.size ≡ 0
      → Promised st m (signed_price o.terms.price) (legs_of (record_legs o)) (check_order st m o) (check_order st m p)
