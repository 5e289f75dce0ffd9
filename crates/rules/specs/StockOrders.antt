-- Document 02, S-4, by computing its definitions: 004's stock-option orders, and each sentence on both sides of its limits.
use Rattle.std.specs.Prelude.{List, [], ◌∷◌, true, false, ℕ, ◌^◌, ℤ, pos}
use Rattle.rules.specs.declared.Terms.{Terms}
use Rattle.rules.specs.declared.Settings.{Settings}
use Rattle.rules.specs.declared.Market.{Market}
use Rattle.rules.specs.declared.OrderAnswer.{OrderAnswer}
use Rattle.rules.specs.Order.{Lent, symbols_of, counts_of, shares_of, terms_of}
use Rattle.rules.specs.Market.{settings_of, market_of}
use Rattle.rules.specs.Numbers.{check_slices}
use Rattle.rules.specs.Examples.{example_settings, example_market, minus, lent, calls, puts}
use Rattle.rules.specs.Edges.{Hold, answers}

abbrev asked : Settings → Market → Terms → List Lent → OrderAnswer
asked st m t ls = check_slices st m t (symbols_of ls) (counts_of ls)

-- a limit order by its price and its shares, under the settings and the market of the examples
abbrev limit : ℤ → ℤ → List Lent → OrderAnswer
limit price shares ls = asked (example_settings 0) example_market (terms_of price 0 0 0 0 shares) ls

abbrev number : ℤ → ℤ → List Lent → ℕ
number price shares ls = (limit price shares ls).number

-- a market order
abbrev at_market : ℤ → ℤ → List Lent → ℕ
at_market price shares ls = (asked (example_settings 0) example_market (terms_of price 1 0 0 0 shares) ls).number

-- the examples' settings with this net increment and this switch of 22
abbrev settings : ℕ → ℕ → Settings
settings increment check22 = settings_of (1 ∷ 1 ∷ check22 ∷ 1 ∷ 1 ∷ 1 ∷ 1 ∷ 10 ∷ 10 ∷ increment ∷ 5 ∷ 5 ∷ 5 ∷ 5 ∷ 300 ∷ 0 ∷ 600 ∷ 4 ∷ 0 ∷ 0 ∷ [])

abbrev under : Settings → ℤ → ℤ → List Lent → ℕ
under st price shares ls = (asked st example_market (terms_of price 0 0 0 0 shares) ls).number

-- in a market with this underlying and this NBO
abbrev traded : ℕ → ℕ → ℤ → ℤ → List Lent → ℕ
traded underlying nbo price shares ls = (asked (example_settings 0) (market_of (1 ∷ 0 ∷ 0 ∷ underlying ∷ 0 ∷ nbo ∷ 0 ∷ 0 ∷ 0 ∷ [])) (terms_of price 0 0 0 0 shares) ls).number

-- March's calls at 45 and 50
abbrev one : ℤ → List Lent
one n = lent n 67 3 19 45 ∷ []

abbrev two : ℤ → List Lent
two n = lent n 67 3 19 45 ∷ lent n 67 3 19 50 ∷ []

-- January's vertical of 20 and 30, a true butterfly and a box, bought
abbrev vertical : List Lent
vertical = calls (pos 1) 20 ∷ calls (minus 1) 30 ∷ []

abbrev butterfly : List Lent
butterfly = calls (pos 1) 20 ∷ calls (minus 2) 30 ∷ calls (pos 1) 40 ∷ []

abbrev box : List Lent
box = calls (pos 1) 20 ∷ calls (minus 1) 45 ∷ puts (minus 1) 20 ∷ puts (pos 1) 45 ∷ []

pub record StockOrders : Type 0 where
  -- 004: "a limit order to sell 1 Mar 45 call and sell 100 shares of stock [..] would be rejected if it has a net price of $0.00, any net debit price, or a net credit price that is less than $0.01", and the same bought
  pub paper_one : Hold (
      (limit (pos 0) (minus 100) (one (minus 1)), answers 22 2 0 0)
      ∷ (limit (pos 1) (minus 100) (one (minus 1)), answers 22 2 0 0)
      ∷ (limit (minus 9) (minus 100) (one (minus 1)), answers 22 2 0 0)
      ∷ (limit (minus 10) (minus 100) (one (minus 1)), answers 0 2 0 0)
      ∷ (limit (pos 0) (pos 100) (one (pos 1)), answers 22 1 0 0)
      ∷ (limit (minus 1) (pos 100) (one (pos 1)), answers 22 1 0 0)
      ∷ (limit (pos 9) (pos 100) (one (pos 1)), answers 22 1 0 0)
      ∷ (limit (pos 10) (pos 100) (one (pos 1)), answers 0 1 0 0)
      ∷ [])
  -- "a limit order to sell 1 Mar 45 call, sell 1 Mar 50 call and sell 100 shares of stock [..] less than $0.02", and the same bought
  pub paper_two : Hold (
      (limit (pos 0) (minus 100) (two (minus 1)), answers 22 2 0 0)
      ∷ (limit (pos 1) (minus 100) (two (minus 1)), answers 22 2 0 0)
      ∷ (limit (minus 19) (minus 100) (two (minus 1)), answers 22 2 0 0)
      ∷ (limit (minus 20) (minus 100) (two (minus 1)), answers 0 2 0 0)
      ∷ (limit (pos 0) (pos 100) (two (pos 1)), answers 22 1 0 0)
      ∷ (limit (minus 1) (pos 100) (two (pos 1)), answers 22 1 0 0)
      ∷ (limit (pos 19) (pos 100) (two (pos 1)), answers 22 1 0 0)
      ∷ (limit (pos 20) (pos 100) (two (pos 1)), answers 0 1 0 0)
      ∷ [])
  -- its notes: a net increment of $0.05 gives $0.05 of one option leg, $0.10 of two
  pub paper_notes : Hold (
      (under (settings 50 1) (minus 49) (minus 100) (one (minus 1)), 22)
      ∷ (under (settings 50 1) (minus 50) (minus 100) (one (minus 1)), 0)
      ∷ (under (settings 50 1) (minus 99) (minus 100) (two (minus 1)), 22)
      ∷ (under (settings 50 1) (minus 100) (minus 100) (two (minus 1)), 0)
      ∷ [])
  -- 22 needs the shares on the options' side, be it one share
  pub side : Hold (
      (number (minus 9) (minus 1) (one (minus 1)), 22)
      ∷ (number (minus 9) (pos 1) (one (minus 1)), 0)
      ∷ (number (pos 9) (pos 1) (one (pos 1)), 22)
      ∷ (number (pos 9) (minus 1) (one (pos 1)), 0)
      ∷ (number (pos 5000) (pos 100) (two (minus 1)), 0)
      ∷ (number (minus 5000) (minus 100) (two (pos 1)), 0)
      ∷ (number (pos 0) (pos 100) vertical, 0)
      ∷ (number (pos 0) (minus 100) vertical, 0)
      -- only limit orders, and only where it is switched on
      ∷ (at_market (pos 0) (minus 100) (one (minus 1)), 0)
      ∷ (under (settings 10 0) (pos 0) (minus 100) (one (minus 1)), 0)
      ∷ [])
  -- its sum is that of the options' unit counts, however many shares
  pub sum : Hold (
      (number (pos 10) (pos 1000000) (one (pos 3)), 0)
      ∷ (number (pos 9) (pos 1000000) (one (pos 3)), 22)
      ∷ (number (pos 30) (pos 200) (calls (pos 2) 20 ∷ puts (pos 4) 20 ∷ []), 0)
      ∷ (number (pos 29) (pos 200) (calls (pos 2) 20 ∷ puts (pos 4) 20 ∷ []), 22)
      ∷ (number (minus 30) (minus 3) (calls (minus 2) 20 ∷ puts (minus 4) 20 ∷ []), 0)
      ∷ (number (minus 29) (minus 3) (calls (minus 2) 20 ∷ puts (minus 4) 20 ∷ []), 22)
      ∷ [])
  -- 20, 21, 25 and the sign rule of 8 do not touch one option leg with shares; each does without
  pub untouched : Hold (
      (traded 0 0 (pos 18000) (minus 100) (puts (pos 1) 18 ∷ []), 0)
      ∷ (traded 0 0 (pos 18000) (pos 100) (puts (pos 1) 18 ∷ []), 0)
      ∷ (traded 0 0 (pos 18000) (pos 0) (puts (pos 1) 18 ∷ []), 20)
      ∷ (traded 10000 0 (pos 10000) (minus 100) (calls (pos 1) 5 ∷ []), 0)
      ∷ (traded 10000 0 (pos 10000) (pos 0) (calls (pos 1) 5 ∷ []), 21)
      ∷ (traded 0 1200 (pos 1251) (minus 1) (calls (pos 1) 20 ∷ []), 0)
      ∷ (traded 0 1200 (pos 1251) (pos 1) (calls (pos 1) 20 ∷ []), 0)
      ∷ (traded 0 1200 (pos 1251) (pos 0) (calls (pos 1) 20 ∷ []), 25)
      ∷ (number (minus 5000) (minus 100) (one (pos 1)), 0)
      ∷ (number (pos 0) (minus 100) (one (pos 1)), 0)
      ∷ (number (pos 0) (pos 0) (one (pos 1)), 8)
      ∷ (number (pos 5000) (pos 100) (one (minus 1)), 0)
      ∷ (number (pos 5000) (pos 0) (one (minus 1)), 8)
      ∷ [])
  -- 23 and 24 do not apply; class, shape and pairings are the options'
  pub options : Hold (
      (limit (minus 5000) (minus 100) vertical, answers 0 1 1 1)
      ∷ (limit (minus 5000) (pos 0) vertical, answers 23 1 1 1)
      ∷ (limit (pos 10301) (minus 100) vertical, answers 0 1 1 1)
      ∷ (limit (pos 10301) (pos 0) vertical, answers 24 1 1 1)
      ∷ (limit (pos 10301) (pos 100) butterfly, answers 0 1 2 2)
      ∷ (limit (pos 10301) (pos 0) butterfly, answers 24 1 2 2)
      ∷ (limit (minus 25601) (pos 100) box, answers 0 1 4 2)
      ∷ (limit (pos 25601) (pos 0) box, answers 24 1 4 2)
      ∷ [])
  -- nor does 23 apply to a market order: a credit at a positive price
  pub credit_at_market : Hold (
      (at_market (pos 1) (minus 100) (calls (minus 1) 20 ∷ calls (pos 1) 30 ∷ []), 0)
      ∷ (at_market (pos 1) (pos 0) (calls (minus 1) 20 ∷ calls (pos 1) 30 ∷ []), 23)
      ∷ [])
  -- 33 beyond 1,000,000 of either side, with zeros elsewhere
  pub limits : Hold (
      (limit (pos 10) (pos 1000000) (one (pos 1)), answers 0 1 0 0)
      ∷ (limit (pos 10) (pos 1000001) (one (pos 1)), answers 33 0 0 0)
      ∷ (limit (minus 10) (minus 1000000) (one (minus 1)), answers 0 2 0 0)
      ∷ (limit (minus 10) (minus 1000001) (one (minus 1)), answers 33 0 0 0)
      ∷ (limit (pos 5000) (pos (2 ^ 63)) vertical, answers 33 0 0 0)
      ∷ (limit (pos 5000) (minus (2 ^ 63)) vertical, answers 33 0 0 0)
      ∷ [])
  -- after 8, which is for a price too large alone, and before 9 and 10
  pub sequence : Hold (
      (number (pos 1000000000001) (pos 1000001) (one (pos 1)), 8)
      ∷ (number (minus 5000) (pos 1000001) (one (pos 1)), 33)
      ∷ (number (minus 5000) (pos 1000001) (one (pos 0)), 5)
      ∷ (number (pos 5000) (pos 1000001) [], 3)
      ∷ ((asked (settings_of []) example_market (terms_of (pos 5000) 0 0 0 0 (pos 1000001)) vertical).number, 33)
      ∷ ((asked (settings_of []) example_market (terms_of (pos 5000) 0 0 0 0 (pos 1000000)) vertical).number, 9)
      ∷ ((asked (example_settings 0) (market_of []) (terms_of (pos 5000) 0 0 0 0 (minus 1000001)) vertical).number, 33)
      ∷ ((asked (example_settings 0) (market_of []) (terms_of (pos 5000) 0 0 0 0 (minus 1000000)) vertical).number, 10)
      ∷ [])
  -- side and size, the least 64-bit integer among them
  pub counts : Hold (
      (shares_of (pos 0), record { bought = true; size = 0 })
      ∷ (shares_of (pos 1), record { bought = true; size = 1 })
      ∷ (shares_of (minus 1), record { bought = false; size = 1 })
      ∷ (shares_of (minus (2 ^ 63)), record { bought = false; size = 9223372036854775808 })
      ∷ [])
