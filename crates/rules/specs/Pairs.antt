-- Document 02, S-2, by computing its definitions: each way that a pair can go, with the numbers of both orders.
use Rattle.std.specs.Prelude.{List, [], ◌∷◌, ℕ, ℤ, pos}
use Rattle.rules.specs.declared.Market.{Market}
use Rattle.rules.specs.declared.PairAnswer.{PairAnswer}
use Rattle.rules.specs.Order.{Lent, symbols_of, counts_of}
use Rattle.rules.specs.Market.{settings_of, market_of}
use Rattle.rules.specs.Examples.{example_settings, example_market, minus, lent, calls, puts}
use Rattle.rules.specs.Edges.{Hold}
use Rattle.rules.specs.Pair.{PairOrder, paired, check_pair}

-- each order's number, and whether it passes
abbrev answer : ℕ → ℕ → ℕ → ℕ → PairAnswer
answer agency a contra c = record { agency = record { number = agency; passes = a }; contra = record { number = contra; passes = c } }

-- an order by its legs, price, kind, flags and shares
abbrev shared : List Lent → ℤ → ℕ → ℕ → ℕ → ℕ → ℤ → PairOrder
shared ls price kind stop manual opening shares =
    record { symbols = symbols_of ls; counts = counts_of ls; price = price; kind = kind; stop = stop; manual = manual; opening = opening; shares = shares }

-- without shares
abbrev ordered : List Lent → ℤ → ℕ → ℕ → ℕ → ℕ → PairOrder
ordered ls price kind stop manual opening = shared ls price kind stop manual opening (pos 0)

-- a limit order with no flags
abbrev limit : ℤ → List Lent → PairOrder
limit price ls = ordered ls price 0 0 0 0

-- a vertical bought and sold: at a sound price 0, at a price of the other sign 23
abbrev bought : ℤ → PairOrder
bought price = limit price (calls (pos 1) 20 ∷ calls (minus 1) 30 ∷ [])

abbrev sold : ℤ → PairOrder
sold price = limit price (calls (minus 1) 20 ∷ calls (pos 1) 30 ∷ [])

-- refused ones: 3, no leg; 1, a count of one byte
abbrev empty : PairOrder
empty = limit (pos 5000) []

abbrev broken : PairOrder
broken = record { symbols = []; counts = 1 ∷ []; price = pos 5000; kind = 0; stop = 0; manual = 0; opening = 0; shares = pos 0 }

-- under the settings and the market of the examples
abbrev plain : ℕ → PairOrder → PairOrder → PairAnswer
plain unpaired agency contra = check_pair (example_settings 0) example_market unpaired agency contra

-- T8 paid: a credit, 23; of a European index undetermined, 0
abbrev calendar : PairOrder
calendar = limit (pos 1000) (lent (pos 1) 67 3 19 20 ∷ lent (minus 1) 67 6 18 20 ∷ [])

-- the NBO is 1,200: a call bought above 1,250 gets 25, if it has neither stop nor manual flag
abbrev near : Market
near = market_of (1 ∷ 0 ∷ 0 ∷ 0 ∷ 0 ∷ 1200 ∷ 0 ∷ 0 ∷ 0 ∷ [])

-- in this market, without the mark
abbrev offered : PairOrder → PairOrder → PairAnswer
offered agency contra = check_pair (example_settings 0) near 0 agency contra

abbrev call : ℕ → ℕ → ℕ → PairOrder
call price stop manual = ordered (calls (pos 1) 20 ∷ []) (pos price) 0 stop manual 0

-- a put bought at its strike by a market order: 20, in the opening process 0
abbrev put : ℕ → PairOrder
put opening = ordered (puts (pos 1) 18 ∷ []) (pos 18000) 1 0 0 opening

-- a debit received: 23, of a market order 0
abbrev received : ℕ → PairOrder
received kind = ordered (calls (pos 1) 20 ∷ calls (minus 1) 30 ∷ []) (minus 5000) kind 0 0 0

-- S-4: a call sold for less than the net increment, 22 with shares sold, and 0 with shares bought
abbrev covered : ℤ → PairOrder
covered shares = shared (calls (minus 1) 20 ∷ []) (minus 9) 0 0 0 0 shares

-- the pair of source document 004, calls of March: the agency order sells at the market, the contra order buys at a limit of 0
abbrev selling : PairOrder
selling = ordered (lent (minus 1) 67 3 19 45 ∷ lent (minus 1) 67 3 19 50 ∷ []) (pos 0) 1 0 0 0

abbrev buying : PairOrder
buying = limit (pos 0) (lent (pos 1) 67 3 19 45 ∷ lent (pos 1) 67 3 19 50 ∷ [])

pub record Pairs : Type 0 where
  -- "If both get 0, both pass, else neither"; of a marked pair the agency order passes too where it alone gets 0. Any value but 0 is the mark; a refused order fails as a rejected one does.
  pub passing : Hold (
      (paired 0 0 0, answer 0 1 0 1)
      ∷ (paired 1 0 0, answer 0 1 0 1)
      ∷ (paired 0 0 23, answer 0 0 23 0)
      ∷ (paired 1 0 23, answer 0 1 23 0)
      ∷ (paired 256 0 23, answer 0 1 23 0)
      ∷ (paired 0 0 9, answer 0 0 9 0)
      ∷ (paired 1 0 9, answer 0 1 9 0)
      ∷ (paired 0 23 0, answer 23 0 0 0)
      ∷ (paired 1 23 0, answer 23 0 0 0)
      ∷ (paired 0 9 0, answer 9 0 0 0)
      ∷ (paired 1 9 0, answer 9 0 0 0)
      ∷ (paired 0 23 9, answer 23 0 9 0)
      ∷ (paired 0 9 23, answer 9 0 23 0)
      ∷ (paired 0 23 23, answer 23 0 23 0)
      ∷ (paired 0 9 9, answer 9 0 9 0)
      ∷ (paired 1 23 9, answer 23 0 9 0)
      ∷ (paired 1 9 23, answer 9 0 23 0)
      ∷ (paired 1 23 23, answer 23 0 23 0)
      ∷ (paired 1 9 9, answer 9 0 9 0)
      ∷ [])
  -- a vertical and its reverse, at prices of the right and of the wrong sign; refused ones
  pub numbers : Hold (
      (plain 0 (bought (pos 5000)) (sold (minus 5000)), answer 0 1 0 1)
      ∷ (plain 0 (bought (pos 5000)) (sold (pos 5000)), answer 0 0 23 0)
      ∷ (plain 1 (bought (pos 5000)) (sold (pos 5000)), answer 0 1 23 0)
      ∷ (plain 1 (bought (minus 5000)) (sold (minus 5000)), answer 23 0 0 0)
      ∷ (plain 1 (bought (minus 5000)) (sold (pos 5000)), answer 23 0 23 0)
      ∷ (plain 0 (bought (pos 5000)) empty, answer 0 0 3 0)
      ∷ (plain 1 (bought (pos 5000)) empty, answer 0 1 3 0)
      ∷ (plain 1 empty (sold (minus 5000)), answer 3 0 0 0)
      ∷ (plain 1 broken empty, answer 1 0 3 0)
      ∷ (plain 1 (bought (pos 5000)) broken, answer 0 1 1 0)
      ∷ [])
  -- "with the same settings and market": both orders get another number under other ones
  pub terms : Hold (
      (offered (call 1250 0 0) (call 1251 0 0), answer 0 0 25 0)
      ∷ (offered (call 1251 0 0) (call 1250 0 0), answer 25 0 0 0)
      ∷ (plain 0 (call 1251 0 0) (call 1251 0 0), answer 0 1 0 1)
      ∷ (plain 0 calendar calendar, answer 23 0 23 0)
      ∷ (check_pair (example_settings 1) example_market 0 calendar calendar, answer 0 1 0 1)
      ∷ (check_pair (settings_of []) example_market 1 (call 1250 0 0) (call 1250 0 0), answer 9 0 9 0)
      ∷ (check_pair (example_settings 0) (market_of []) 1 (call 1250 0 0) (call 1250 0 0), answer 10 0 10 0)
      ∷ [])
  -- legs, price, kind, flags and shares are each order's own
  pub own : Hold (
      (offered (call 1250 0 0) (put 0), answer 0 0 20 0)
      ∷ (offered (put 0) (call 1250 0 0), answer 20 0 0 0)
      ∷ (offered (call 1251 1 0) (call 1251 0 0), answer 0 0 25 0)
      ∷ (offered (call 1251 0 0) (call 1251 1 0), answer 25 0 0 0)
      ∷ (offered (call 1251 0 1) (call 1251 0 0), answer 0 0 25 0)
      ∷ (offered (call 1251 0 0) (call 1251 0 1), answer 25 0 0 0)
      ∷ (offered (put 1) (put 0), answer 0 0 20 0)
      ∷ (offered (put 0) (put 1), answer 20 0 0 0)
      ∷ (offered (received 1) (received 0), answer 0 0 23 0)
      ∷ (offered (received 0) (received 1), answer 23 0 0 0)
      ∷ (offered (covered (pos 100)) (covered (minus 100)), answer 0 0 22 0)
      ∷ (offered (covered (minus 100)) (covered (pos 100)), answer 22 0 0 0)
      ∷ (offered (covered (minus 1000001)) (covered (pos 100)), answer 33 0 0 0)
      ∷ (offered (covered (pos 100)) (covered (pos 1000001)), answer 0 0 33 0)
      ∷ [])
  -- 004: "the AIM auction will not initiate because the contra-side order does not satisfy the price check parameter"; marked, the agency order goes on
  pub paper : Hold ((plain 0 selling buying, answer 0 0 22 0) ∷ (plain 1 selling buying, answer 0 1 22 0) ∷ [])
