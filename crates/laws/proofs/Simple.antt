-- Simple and complex orders: what the shares and the number of legs say, and which checks do not apply.
use mathlib.Core.Path.{◌≡◌, ap}
use mathlib.Core.List.{List, [], ◌∷◌}
use mathlib.Core.Bool.{Bool, true, false, not, ◌&&◌}
use Prim.Native.Nat.{ℕ}
use lib.ListN.{length}
use lib.Dec.{eqb}
use borrow.Author.Tests.{eqb-true}
use Rattle.rules.specs.declared.Mills.{Mills}
use Rattle.rules.specs.declared.Series.{Series}
use Rattle.rules.specs.declared.Settings.{Settings}
use Rattle.rules.specs.declared.Market.{Market}
use Rattle.rules.specs.declared.Terms.{Terms}
use Rattle.rules.specs.declared.Leg.{Leg}
use Rattle.rules.specs.Lists.{every}
use Rattle.rules.specs.Order.{has_shares, is_simple, is_complex}
use Rattle.rules.specs.Class.{shape_of}
use Rattle.rules.specs.Checks.{simple_buy, buy_buy, debit_credit, maximum_value}
use Rattle.rules.specs.Market.{tick_distance}
use Rattle.rules.proofs.Tests.{and_both, and_no, not_eq}

module _ (t : Terms) where
  pub simple_length : (ls : List Leg) → is_simple t ls ≡ true → length ls ≡ 1
  unfolding is_simple
  simple_length ls h = eqb-true (length ls) 1 (and_both (not (has_shares t)) _ h).1

  -- legs of one number are simple together
  pub simple_same : (xs ys : List Leg) → length xs ≡ length ys → is_simple t xs ≡ is_simple t ys
  unfolding is_simple
  simple_same xs ys e = ap (λ (n : ℕ). not (has_shares t) && eqb n 1) e

  -- a check of complex orders, switched on or off, does not apply to a simple one
  module _ (ls : List Leg) (simple : is_simple t ls ≡ true) (on : Bool) where
    pub no_buy_buy : (st : Settings) → on && buy_buy st t ls ≡ false
    unfolding buy_buy every
    no_buy_buy st = rw simple (and_no on)

    pub no_debit_credit : (class : ℕ) → on && debit_credit t ls class ≡ false
    unfolding debit_credit every
    no_debit_credit class = rw simple (and_no on)

  -- one leg has no maximum value
  pub no_maximum : (u : Leg) (on : Bool) (st : Settings) → on && maximum_value st t (u ∷ []) ≡ false
  unfolding maximum_value every shape_of
  no_maximum u on st = rw (and_no (not (has_shares t))) (and_no on)

  -- a check of simple orders does not apply to a complex one
  module _ (ls : List Leg) (complex : is_complex t ls ≡ true) (on : Bool) where
    pub no_simple_buy : (test : Series → Mills → Bool) → on && simple_buy test t ls ≡ false
    unfolding simple_buy every
    no_simple_buy test = rw (not_eq (is_simple t ls) complex) (and_no on)

    pub no_tick_distance : (st : Settings) (m : Market) → on && tick_distance st m t ls ≡ false
    unfolding tick_distance every
    no_tick_distance st m = rw (not_eq (is_simple t ls) complex) (and_no on)
