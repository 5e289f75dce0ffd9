-- Document 02, S-8, of the order check's own answer: undetermined is unavoidable.
use Rattle.std.specs.Prelude.{◌≡◌, List, ◌↔◌, Bool, true, false, ◌||◌, ℕ, ◌/◌, eqb, length, ℤ, pos, ◌≤ℤ◌, ◌<ℤ◌}
use Rattle.rules.specs.declared.Order.{Order}
use Rattle.rules.specs.declared.Series.{Series}
use Rattle.rules.specs.declared.Leg.{Leg}
use Rattle.rules.specs.declared.Settings.{Settings}
use Rattle.rules.specs.declared.Market.{Market}
use Rattle.rules.specs.declared.OrderAnswer.{OrderAnswer}
use Rattle.rules.specs.Order.{raw_legs, record_legs, legs_of, net_worth}
use Rattle.rules.specs.Numbers.{check_order, Inputs, answer_to}
use Rattle.demand3.specs.Demand3.{IsValid}
use Rattle.unavoidable.specs.Tables.{Monotone, is_one_expiry, witness}

-- "butterflies aside": shapes 2 and 3
abbrev pub is_butterfly : OrderAnswer → Bool
is_butterfly r = eqb r.shape 2 || eqb r.shape 3

-- a statement of net worth "under every whole-number table, none negative, whose calls do not rise and puts do not fall with strike"
abbrev pub UnderEvery : List Leg → (ℤ → Type 0) → Type 0
UnderEvery ls holds = (premium : Series → ℕ) → Monotone ls premium → holds (net_worth premium ls)

-- what is promised of a valid order of one expiry without shares, with these legs and this answer
pub record Unavoidable (ls : List Leg) (r : OrderAnswer) : Type 0 where
  -- "debit is given exactly when net worth is zero or more under every" such table
  pub debit : is_butterfly r ≡ false → (r.class ≡ 1) ↔ UnderEvery ls (λ worth. pos 0 ≤ℤ worth)
  -- "Credit mirrors this."
  pub credit : is_butterfly r ≡ false → (r.class ≡ 2) ↔ UnderEvery ls (λ worth. worth ≤ℤ pos 0)
  -- "Thus each undetermined one has a table above zero and a table below.": of butterflies too
  pub above : r.class ≡ 0 → Monotone ls (witness true ls) × (pos 0 <ℤ net_worth (witness true ls) ls)
  pub below : r.class ≡ 0 → Monotone ls (witness false ls) × (net_worth (witness false ls) ls <ℤ pos 0)

-- "For valid orders of one expiry without shares", as the host lends them and as a record
pub record UndeterminedIsUnavoidable : Type 0 where
  pub slices : (a : Inputs) (symbols counts : List ℕ) → let ls = legs_of (raw_legs (length counts / 8) symbols counts) in
      IsValid (answer_to a symbols counts) → is_one_expiry ls ≡ true → a.shares ≡ pos 0 → Unavoidable ls (answer_to a symbols counts)
  pub order_record : (st : Settings) (m : Market) (o : Order) → let ls = legs_of (record_legs o) in
      IsValid (check_order st m o) → is_one_expiry ls ≡ true → o.terms.shares.size ≡ 0 → Unavoidable ls (check_order st m o)
