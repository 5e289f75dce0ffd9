-- Demand 3, of the order check on the slices that the host lends.
use Rattle.std.specs.Prelude.{◌≡◌, List, true, false, ℕ, ◌≤◌, length, ℤ, pos, ◌≤ℤ◌}
use Rattle.rules.specs.declared.Order.{Order}
use Rattle.rules.specs.declared.Series.{Series}
use Rattle.rules.specs.declared.Leg.{Leg}
use Rattle.rules.specs.declared.Settings.{Settings}
use Rattle.rules.specs.declared.Market.{Market}
use Rattle.rules.specs.declared.OrderAnswer.{OrderAnswer}
use Rattle.rules.specs.Lists.{All, Perm}
use Rattle.rules.specs.Order.{Lent, symbols_of, counts_of, lent_legs, record_legs, signed_price, signed_shares, legs_of, net_worth}
use Rattle.demand3.specs.Fair.{Fair}
use Rattle.rules.specs.Kinds.{is_refused}
use Rattle.rules.specs.Numbers.{check_order, are_whole, Inputs, answer_to}

-- an arrival of legs; both are "alike in price, kind, flags, settings, market and all else", shares among it
abbrev pub arrival : Inputs → List Lent → OrderAnswer
arrival a xs = answer_to a (symbols_of xs) (counts_of xs)

-- "A leg is 21 symbol bytes, whatever they hold, with the count at the same place"
abbrev pub IsWhole : Lent → Type 0
IsWhole l = (length l.symbol ≡ 21) × (length l.count ≡ 8)

-- "An order not refused is valid."
abbrev pub IsValid : OrderAnswer → Type 0
IsValid r = is_refused r.number ≡ false

-- the legs of the order, as read
abbrev pub order_legs : List Lent → List Leg
order_legs xs = legs_of (lent_legs xs)

-- "is rejected by a check if it gets that check's number": not by the put, call, buy-buy/sell-sell, debit/credit or maximum-value check
abbrev pub NotRejected : OrderAnswer → Type 0
NotRejected r = 20 ≤ r.number → r.number ≤ 24 → ⊥

-- what is promised of two arrivals of one order with these legs, this price, this share count and the answers `x` and `y`
pub record Arrivals (st : Settings) (m : Market) (price shares : ℤ) (ls : List Leg) (x y : OrderAnswer) : Type 0 where
  -- "both arrivals [..] get the same number, class, shape and pairing count"; "equal treatment of both leg sequences continues" with shares (document 02, S-4)
  pub same : x ≡ y
  -- "For orders with shares the fair-table promise ends" (S-4): the three below are for a share count of 0.
  -- "If the order is valid, then under every premium table that is fair for it as document 01 defines it, net worth is zero or more where the class is debit"
  pub debit : shares ≡ pos 0 → IsValid x → (premium : Series → ℕ) → Fair st m ls premium → x.class ≡ 1 → pos 0 ≤ℤ net_worth premium ls
  -- "and zero or less where it is credit"
  pub credit : shares ≡ pos 0 → IsValid x → (premium : Series → ℕ) → Fair st m ls premium → x.class ≡ 2 → net_worth premium ls ≤ℤ pos 0
  -- "And under every such table where the order's price equals its net worth, neither arrival is rejected by the put, call, buy-buy/sell-sell, debit/credit or maximum-value check."
  pub sound : shares ≡ pos 0 → IsValid x → (premium : Series → ℕ) → Fair st m ls premium → price ≡ net_worth premium ls → NotRejected x × NotRejected y

-- "Whatever order arrives, refused ones included, and in whatever other sequence its legs come in a second arrival"
pub record Demand3 : Type 0 where
  -- any number of whole legs, damaged ones too
  pub whole : (a : Inputs) (xs ys : List Lent) → All IsWhole xs → Perm xs ys → Arrivals a.settings a.market a.price a.shares (order_legs xs) (arrival a xs) (arrival a ys)
  -- slices that do not divide into legs have no other sequence of legs: all of one length get one answer
  pub broken : (a : Inputs) (s t c d : List ℕ) → length s ≡ length t → length c ≡ length d → are_whole s c ≡ false → answer_to a s c ≡ answer_to a t d
  -- and there are no other slices: those that divide are whole legs end to end
  pub covers : (s c : List ℕ) → are_whole s c ≡ true → (xs : List Lent) × All IsWhole xs × (symbols_of xs ≡ s) × (counts_of xs ≡ c)
  -- the same of the order record, whatever it holds
  pub order_record : (st : Settings) (m : Market) (o p : Order) → o.terms ≡ p.terms → o.len ≡ p.len → Perm (record_legs o) (record_legs p)
      → Arrivals st m (signed_price o.terms.price) (signed_shares o.terms.shares) (legs_of (record_legs o)) (check_order st m o) (check_order st m p)
