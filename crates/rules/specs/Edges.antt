-- Each rule of document 01 on both sides of its limits, where T1 to T12 do not reach: by computing the definitions, so that a definition with another limit, side or sequence gives another list. Each case stands beside what is expected of it.
use Rattle.std.specs.Prelude.{◌≡◌, List, [], ◌∷◌, ◌++◌, reverse, Bool, true, false, ℕ, suc, ◌+◌, ◌-◌, take, drop, ℤ, pos}
use Rattle.rules.specs.declared.SymbolParts.{SymbolParts}
use Rattle.rules.specs.declared.SymbolRead.{SymbolRead}
use Rattle.rules.specs.declared.Price.{Price}
use Rattle.rules.specs.declared.Terms.{Terms}
use Rattle.rules.specs.declared.Settings.{Settings}
use Rattle.rules.specs.declared.Market.{Market}
use Rattle.rules.specs.declared.OrderAnswer.{OrderAnswer}
use Rattle.rules.specs.declared.QuoteAnswer.{QuoteAnswer}
use Rattle.rules.specs.declared.Tally.{Tally}
use Rattle.rules.specs.Numerals.{numeral}
use Rattle.rules.specs.Symbol.{symbol_of, read_symbol, write_symbol, SymbolWritten}
use Rattle.rules.specs.Order.{raw_leg, Lent, symbols_of, counts_of, terms_of}
use Rattle.rules.specs.Market.{settings_of, market_of, settings_hold, market_holds}
use Rattle.rules.specs.Numbers.{check_order, check_slices}
use Rattle.rules.specs.Quote.{check_quote}
use Rattle.rules.specs.Tally.{is_bad_tally, counted, fresh}
use Rattle.rules.specs.Examples.{example_settings, example_market, bits, minus, calls, puts}

-- the same list of what is given and of what is expected
module _ {A : Type 0} where
  abbrev given : List (A × A) → List A
  given [] = []
  given (e ∷ es) = e.0 ∷ given es

  abbrev expected : List (A × A) → List A
  expected [] = []
  expected (e ∷ es) = e.1 ∷ expected es

  abbrev pub Hold : List (A × A) → Type 0
  Hold es = given es ≡ expected es

abbrev limit : ℤ → Terms
limit price = terms_of price 0 0 0 0 (pos 0)

abbrev pub usual : Settings
usual = example_settings 0

abbrev asked : Settings → Market → Terms → List Lent → OrderAnswer
asked st m t ls = check_slices st m t (symbols_of ls) (counts_of ls)

abbrev number : Settings → Market → Terms → List Lent → ℕ
number st m t ls = (asked st m t ls).number

-- under the settings and the market of the examples
abbrev plain : ℤ → List Lent → OrderAnswer
plain price ls = asked usual example_market (limit price) ls

abbrev pub answers : ℕ → ℕ → ℕ → ℕ → OrderAnswer
answers n class shape pairings = record { number = n; class = class; shape = shape; pairings = pairings }

-- a leg of any root and date
abbrev parts : ℕ → ℕ → ℕ → ℕ → ℕ → ℕ → SymbolParts
parts root year month day right strike = record { root = root; year = year; month = month; day = day; right = right; strike = record { 0 = strike } }

abbrev lent_of : ℤ → SymbolParts → Lent
lent_of n p = record { symbol = symbol_of p; count = reverse (numeral 256 0 8 (bits n)) }

-- the roots XYZ and XYZ1
abbrev xyz : ℕ
xyz = 97140787388448

abbrev xyz1 : ℕ
xyz1 = 97140788502560

-- January's vertical of 20 and 30, bought, and its reverse
abbrev vertical : List Lent
vertical = calls (pos 1) 20 ∷ calls (minus 1) 30 ∷ []

abbrev sold : List Lent
sold = calls (minus 1) 20 ∷ calls (pos 1) 30 ∷ []

-- January's calls at 1, 2 and so on, up to 17, by two counts in turn
abbrev many : ℕ → ℤ → ℤ → List Lent
many n a b =
    take n
    (calls a 1 ∷ calls b 2 ∷ calls a 3 ∷ calls b 4 ∷ calls a 5 ∷ calls b 6 ∷ calls a 7 ∷ calls b 8 ∷ calls a 9 ∷ calls b 10 ∷ calls a 11 ∷ calls b 12 ∷ calls a 13 ∷ calls b 14 ∷ calls a 15 ∷ calls b 16 ∷ calls a 17 ∷ [])

abbrev shapes : List (OrderAnswer × OrderAnswer)
shapes =
    -- verticals of calls and of puts, by unit counts
    (plain (pos 5000) vertical, answers 0 1 1 1)
    ∷ (plain (minus 5000) (puts (pos 2) 20 ∷ puts (minus 2) 30 ∷ []), answers 0 2 1 1)
    -- none: a ratio, one side, two types, two expiries
    ∷ (plain (pos 5000) (calls (pos 1) 20 ∷ calls (minus 2) 30 ∷ []), answers 0 0 0 1)
    ∷ (plain (pos 5000) (calls (pos 1) 20 ∷ calls (pos 1) 30 ∷ []), answers 0 1 0 0)
    ∷ (plain (pos 5000) (calls (pos 1) 20 ∷ puts (minus 1) 30 ∷ []), answers 0 0 0 0)
    ∷ (plain (pos 5000) (calls (pos 1) 20 ∷ lent_of (minus 1) (parts xyz 2027 2 19 67 30000) ∷ []), answers 0 0 0 0)
    -- a butterfly bought; none with the double one outside
    ∷ (plain (pos 5000) (calls (pos 1) 20 ∷ calls (minus 2) 30 ∷ calls (pos 1) 40 ∷ []), answers 0 1 2 2)
    ∷ (plain (pos 5000) (calls (pos 2) 20 ∷ calls (minus 1) 30 ∷ calls (minus 1) 40 ∷ []), answers 0 1 0 2)
    -- skewed, the middle bought, of calls below halfway, of puts above: no class of its own
    ∷ (plain (pos 5000) (calls (minus 1) 20 ∷ calls (pos 2) 30 ∷ calls (minus 1) 45 ∷ []), answers 0 0 3 2)
    ∷ (plain (pos 5000) (puts (minus 1) 15 ∷ puts (pos 2) 30 ∷ puts (minus 1) 40 ∷ []), answers 0 0 3 2)
    -- a box bought; none with call and put of a strike on one side, nor with both calls on one side
    ∷ (plain (pos 24000) (calls (pos 1) 20 ∷ calls (minus 1) 45 ∷ puts (minus 1) 20 ∷ puts (pos 1) 45 ∷ []), answers 0 1 4 2)
    ∷ (plain (pos 24000) (calls (pos 1) 20 ∷ calls (minus 1) 45 ∷ puts (pos 1) 20 ∷ puts (minus 1) 45 ∷ []), answers 0 0 0 2)
    ∷ (plain (pos 24000) (calls (pos 1) 20 ∷ calls (pos 1) 45 ∷ puts (minus 1) 20 ∷ puts (minus 1) 45 ∷ []), answers 0 0 0 0)
    -- sixteen legs: each sell meets the buy below it
    ∷ (plain (pos 1000) (many 16 (pos 3) (minus 3)), answers 0 1 0 8)
    -- one leg
    ∷ (plain (pos 5000) (calls (pos 3) 20 ∷ []), answers 0 1 0 0)
    ∷ (plain (minus 5000) (puts (minus 3) 20 ∷ []), answers 0 2 0 0)
    ∷ []

-- one bought, one sold and one bought, for 1.00
abbrev calendar : SymbolParts → SymbolParts → SymbolParts → OrderAnswer
calendar p q r = plain (pos 1000) (lent_of (pos 1) p ∷ lent_of (minus 1) q ∷ lent_of (pos 1) r ∷ [])

-- the expiry's order: by year, then month, then day; a near buy and a far sell are a credit
abbrev expiries : List (OrderAnswer × OrderAnswer)
expiries =
    (plain (minus 1000) (calls (pos 1) 20 ∷ lent_of (minus 1) (parts xyz 2028 1 15 67 20000) ∷ []), answers 0 2 0 1)
    ∷ (plain (minus 1000) (calls (pos 1) 20 ∷ lent_of (minus 1) (parts xyz 2027 1 22 67 20000) ∷ []), answers 0 2 0 1)
    ∷ (plain (minus 1000) (lent_of (pos 1) (parts xyz 2027 1 31 67 20000) ∷ lent_of (minus 1) (parts xyz 2027 2 1 67 20000) ∷ []), answers 0 2 0 1)
    ∷ (plain (minus 1000) (lent_of (pos 1) (parts xyz 2027 12 31 67 20000) ∷ lent_of (minus 1) (parts xyz 2028 1 1 67 20000) ∷ []), answers 0 2 0 1)
    -- the second walk begins at the farthest by the same order: the middle one, sold, meets the buy that expires later
    ∷ (calendar (parts xyz 2027 12 31 67 20000) (parts xyz 2028 6 30 67 20000) (parts xyz 2029 1 1 67 20000), answers 0 1 0 1)
    ∷ (calendar (parts xyz 2027 1 31 80 20000) (parts xyz 2027 6 15 80 20000) (parts xyz 2027 12 1 80 20000), answers 0 1 0 1)
    ∷ (calendar (parts xyz 2027 1 1 67 20000) (parts xyz 2027 1 2 67 20000) (parts xyz 2027 1 3 67 20000), answers 0 1 0 1)
    ∷ []

-- nine market values
abbrev pub market : ℕ → ℕ → ℕ → ℕ → ℕ → ℕ → ℕ → ℕ → ℕ → Market
market phase elsewhere extended underlying nbb nbo bid offer close =
    market_of (phase ∷ elsewhere ∷ extended ∷ underlying ∷ nbb ∷ nbo ∷ bid ∷ offer ∷ close ∷ [])

-- the same slice with another number at one place
abbrev changed : ℕ → ℕ → List ℕ → List ℕ
changed i n ns = take i ns ++ (n ∷ drop (suc i) ns)

-- the examples' settings as the host hands them in
abbrev example_slice : List ℕ
example_slice = 1 ∷ 1 ∷ 1 ∷ 1 ∷ 1 ∷ 1 ∷ 1 ∷ 10 ∷ 10 ∷ 10 ∷ 5 ∷ 5 ∷ 5 ∷ 5 ∷ 300 ∷ 0 ∷ 600 ∷ 4 ∷ 0 ∷ 0 ∷ []

-- European index style: expiries alone are not paired; a vertical is, and beside it a calendar of two loners
abbrev spread : List Lent
spread = vertical ++ (lent_of (pos 1) (parts xyz 2027 6 18 67 40000) ∷ lent_of (minus 1) (parts xyz 2027 3 19 67 40000) ∷ [])

abbrev styles : List (OrderAnswer × OrderAnswer)
styles =
    (asked (example_settings 2) example_market (limit (pos 5000)) vertical, answers 0 1 1 1)
    ∷ (asked (example_settings 2) example_market (limit (pos 5000)) spread, answers 0 0 0 1)
    ∷ (asked usual example_market (limit (pos 5000)) spread, answers 0 1 0 2)
    ∷ []

-- the market with an underlying value only
abbrev pub underlying_of : ℕ → Market
underlying_of u = market 1 0 0 u 0 0 0 0 0

abbrev call21 : Settings → Market → Terms → ℕ
call21 st m t = number st m t (calls (pos 1) 5 ∷ [])

abbrev put20 : Terms → ℕ
put20 t = number usual example_market t (puts (pos 1) 18 ∷ [])

abbrev paid : List (ℕ × ℕ)
paid =
    -- 21: below the underlying, at it
    (call21 usual (underlying_of 10000) (limit (pos 9999)), 0)
    ∷ (call21 usual (underlying_of 10000) (limit (pos 10000)), 21)
    -- an adjusted class, extended hours: any value but 0
    ∷ (call21 (settings_of (changed 18 2 example_slice)) (underlying_of 10000) (limit (pos 10000)), 0)
    ∷ (call21 usual (market 1 0 2 10000 0 0 0 0 0) (limit (pos 10000)), 0)
    -- market orders in the opening process, and not; limit orders in it
    ∷ (call21 usual (underlying_of 10000) (terms_of (pos 10000) 2 0 0 2 (pos 0)), 0)
    ∷ (call21 usual (underlying_of 10000) (terms_of (pos 10000) 2 0 0 0 (pos 0)), 21)
    ∷ (call21 usual (underlying_of 10000) (terms_of (pos 10000) 0 0 0 2 (pos 0)), 21)
    -- European index style, stop and manual orders: tested
    ∷ (call21 (example_settings 2) (underlying_of 10000) (limit (pos 10000)), 21)
    ∷ (call21 usual (underlying_of 10000) (terms_of (pos 10000) 0 2 0 0 (pos 0)), 21)
    ∷ (call21 usual (underlying_of 10000) (terms_of (pos 10000) 0 0 2 0 (pos 0)), 21)
    -- 20: the same
    ∷ (put20 (terms_of (pos 18000) 1 0 0 1 (pos 0)), 0)
    ∷ (put20 (terms_of (pos 18000) 1 0 0 0 (pos 0)), 20)
    ∷ (put20 (terms_of (pos 18000) 0 0 0 1 (pos 0)), 20)
    -- a put at the underlying, a call at its strike
    ∷ (number usual (underlying_of 10000) (limit (pos 10000)) (puts (pos 1) 18 ∷ []), 0)
    ∷ (number usual example_market (limit (pos 5000)) (calls (pos 1) 5 ∷ []), 0)
    ∷ []

abbrev bought : List Lent
bought = calls (pos 10) 45 ∷ puts (pos 10) 50 ∷ []

abbrev sides : List (ℕ × ℕ)
sides =
    -- 22: two contracts of the unit at 10 each
    (number usual example_market (limit (pos 20)) bought, 0)
    ∷ (number usual example_market (limit (pos 19)) bought, 22)
    ∷ (number usual example_market (limit (pos 0)) bought, 22)
    -- three contracts
    ∷ (number usual example_market (limit (pos 30)) (calls (pos 1) 45 ∷ calls (pos 2) 50 ∷ []), 0)
    ∷ (number usual example_market (limit (pos 29)) (calls (pos 1) 45 ∷ calls (pos 2) 50 ∷ []), 22)
    -- an amount of the other sign
    ∷ (number usual example_market (limit (minus 5000)) bought, 22)
    ∷ (number usual example_market (limit (pos 5000)) (calls (minus 1) 45 ∷ calls (minus 1) 50 ∷ []), 22)
    -- not of market orders
    ∷ (number usual example_market (terms_of (pos 19) 2 0 0 0 (pos 0)) bought, 0)
    -- 23: a debit received, by a limit and by a market order; a credit paid, likewise; at zero
    ∷ (number usual example_market (limit (minus 1)) vertical, 23)
    ∷ (number usual example_market (terms_of (minus 1) 2 0 0 0 (pos 0)) vertical, 0)
    ∷ (number usual example_market (limit (pos 1)) sold, 23)
    ∷ (number usual example_market (terms_of (pos 1) 2 0 0 0 (pos 0)) sold, 23)
    ∷ (number usual example_market (limit (pos 0)) vertical, 0)
    ∷ (number usual example_market (limit (pos 0)) sold, 0)
    ∷ []

-- percentage and presets; M of the vertical is 10,000
abbrev most24 : ℕ → ℕ → ℕ → ℤ → ℕ
most24 percentage least most price = number (settings_of (changed 14 percentage (changed 15 least (changed 16 most example_slice)))) example_market (limit price) vertical

abbrev maxima : List (ℕ × ℕ)
maxima =
    -- the percentage, rounded down
    (most24 300 0 600 (pos 10300), 0)
    ∷ (most24 300 0 600 (pos 10301), 24)
    ∷ (number (settings_of (changed 14 9 example_slice)) example_market (limit (pos 1000)) (puts (minus 1) 20 ∷ puts (pos 1) 21 ∷ []), 0)
    ∷ (number (settings_of (changed 14 9 example_slice)) example_market (limit (pos 1001)) (puts (minus 1) 20 ∷ puts (pos 1) 21 ∷ []), 24)
    -- raised to the minimum, lowered to the maximum
    ∷ (most24 0 50 600 (pos 10050), 0)
    ∷ (most24 0 50 600 (pos 10051), 24)
    ∷ (most24 300 0 200 (pos 10200), 0)
    ∷ (most24 300 0 200 (pos 10201), 24)
    -- a true butterfly; a skewed one has none
    ∷ (number usual example_market (limit (pos 10300)) (calls (pos 1) 20 ∷ calls (minus 2) 30 ∷ calls (pos 1) 40 ∷ []), 0)
    ∷ (number usual example_market (limit (pos 10301)) (calls (pos 1) 20 ∷ calls (minus 2) 30 ∷ calls (pos 1) 40 ∷ []), 24)
    ∷ (number usual example_market (limit (pos 90000)) (calls (pos 1) 20 ∷ calls (minus 2) 30 ∷ calls (pos 1) 35 ∷ []), 0)
    ∷ []

-- ticks of 5 and 10, distances of 2, 3, 4 and 5 ticks; a buy against an NBO
abbrev far : ℕ → ℕ → ℕ
far nbo price = number (settings_of (changed 7 5 (changed 10 2 (changed 11 3 (changed 12 4 example_slice))))) (market 1 0 0 0 0 nbo 0 0 0) (limit (pos price)) (calls (pos 1) 20 ∷ [])

abbrev bands : List (ℕ × ℕ)
bands =
    (far 999 1009, 0)
    ∷ (far 999 1010, 25)
    ∷ (far 1000 1015, 0)
    ∷ (far 1000 1016, 25)
    ∷ (far 2999 3014, 0)
    ∷ (far 2999 3015, 25)
    ∷ (far 3000 3040, 0)
    ∷ (far 3000 3041, 25)
    ∷ (far 9999 10039, 0)
    ∷ (far 9999 10040, 25)
    ∷ (far 10000 10050, 0)
    ∷ (far 10000 10051, 25)
    ∷ []

-- the numbers of a buy at 50 mills above a reference, which is D, and at one more; of a sell mirrored
abbrev buy_at : Market → ℕ → List ℕ
buy_at m r = number usual m (limit (pos (r + 50))) (calls (pos 1) 20 ∷ []) ∷ number usual m (limit (pos (r + 51))) (calls (pos 1) 20 ∷ []) ∷ []

abbrev sell_at : Market → ℕ → List ℕ
sell_at m r = number usual m (limit (minus (r - 50))) (calls (minus 1) 20 ∷ []) ∷ number usual m (limit (minus (r - 51))) (calls (minus 1) 20 ∷ []) ∷ []

-- every price of a market differs, so that each reference is told from the others
abbrev references : List ((List ℕ) × (List ℕ))
references =
    -- open: the national best; the own price where the NBBO is locked, crossed or unavailable
    (buy_at (market 1 2 0 0 1100 1200 1300 1400 1500) 1200, (0 ∷ 25 ∷ []))
    ∷ (sell_at (market 1 2 0 0 1100 1200 1300 1400 1500) 1100, (0 ∷ 25 ∷ []))
    ∷ (buy_at (market 1 2 0 0 1200 1200 1300 1400 1500) 1400, (0 ∷ 25 ∷ []))
    ∷ (sell_at (market 1 2 0 0 1200 1100 1300 1400 1500) 1300, (0 ∷ 25 ∷ []))
    ∷ (buy_at (market 1 2 0 0 0 0 1300 1400 1500) 1400, (0 ∷ 25 ∷ []))
    ∷ (buy_at (market 1 2 0 0 0 1200 1300 1400 1500) 1200, (0 ∷ 25 ∷ []))
    -- a halt: the national best, even so
    ∷ (buy_at (market 2 2 0 0 1200 1200 1300 1400 1500) 1200, (0 ∷ 25 ∷ []))
    ∷ (sell_at (market 2 2 0 0 1200 1100 1300 1400 1500) 1200, (0 ∷ 25 ∷ []))
    -- before the opening, open elsewhere
    ∷ (buy_at (market 0 2 0 0 1100 1200 1300 1400 1500) 1200, (0 ∷ 25 ∷ []))
    ∷ (buy_at (market 0 2 0 0 1200 1200 1300 1400 1500) 1500, (0 ∷ 25 ∷ []))
    ∷ (sell_at (market 0 2 0 0 1200 1100 1300 1400 1500) 1500, (0 ∷ 25 ∷ []))
    ∷ (buy_at (market 0 2 0 0 0 0 1300 1400 1500) 1500, (0 ∷ 25 ∷ []))
    -- one side alone missing: the close at least the NBB, at most the NBO
    ∷ (buy_at (market 0 2 0 0 1500 0 1300 1400 1500) 1500, (0 ∷ 25 ∷ []))
    ∷ (sell_at (market 0 2 0 0 0 1500 1300 1400 1500) 1500, (0 ∷ 25 ∷ []))
    -- before the opening otherwise: the close
    ∷ (buy_at (market 0 0 0 0 1100 1200 1300 1400 1500) 1500, (0 ∷ 25 ∷ []))
    ∷ []

-- no reference: an NBO missing when open, in a halt, and with the close below the NBB; a sell with the close above the NBO; no close
abbrev without : List (ℕ × ℕ)
without =
    (number usual (market 1 0 0 0 1100 0 1300 1400 1500) (limit (pos 9000)) (calls (pos 1) 20 ∷ []), 0)
    ∷ (number usual (market 2 0 0 0 1100 0 1300 1400 1500) (limit (pos 9000)) (calls (pos 1) 20 ∷ []), 0)
    ∷ (number usual (market 0 1 0 0 1501 0 1300 1400 1500) (limit (pos 9000)) (calls (pos 1) 20 ∷ []), 0)
    ∷ (number usual (market 0 1 0 0 0 1499 1300 1400 1500) (limit (minus 1)) (calls (minus 1) 20 ∷ []), 0)
    ∷ (number usual (market 0 0 0 0 1100 1200 1300 1400 0) (limit (pos 9000)) (calls (pos 1) 20 ∷ []), 0)
    ∷ []

-- 25 of stop, manual and market orders, of a limit order in the opening process, and of two legs
abbrev flags : List (ℕ × ℕ)
flags =
    (number usual (market 1 0 0 0 0 1200 0 0 0) (terms_of (pos 1251) 0 2 0 0 (pos 0)) (calls (pos 1) 20 ∷ []), 0)
    ∷ (number usual (market 1 0 0 0 0 1200 0 0 0) (terms_of (pos 1251) 0 0 2 0 (pos 0)) (calls (pos 1) 20 ∷ []), 0)
    ∷ (number usual (market 1 0 0 0 0 1200 0 0 0) (terms_of (pos 1251) 2 0 0 0 (pos 0)) (calls (pos 1) 20 ∷ []), 0)
    ∷ (number usual (market 1 0 0 0 0 1200 0 0 0) (terms_of (pos 1251) 0 0 0 2 (pos 0)) (calls (pos 1) 20 ∷ []), 25)
    ∷ (number usual (market 1 0 0 0 0 1200 0 0 0) (limit (pos 1251)) vertical, 0)
    ∷ []

-- the settings of the examples with other switches
abbrev switched : ℕ → ℕ → ℕ → ℕ → ℕ → ℕ → ℕ → Settings
switched c20 c21 c22 c23 c24 c25 c26 = settings_of (c20 ∷ c21 ∷ c22 ∷ c23 ∷ c24 ∷ c25 ∷ c26 ∷ drop 7 example_slice)

-- an order for each check, with its switch alone on, and alone off; last a put that both 20 and 25 reject
abbrev switches : List (ℕ × ℕ)
switches =
    (number (switched 2 0 0 0 0 0 0) example_market (limit (pos 18000)) (puts (pos 1) 18 ∷ []), 20)
    ∷ (number (switched 0 1 1 1 1 1 1) example_market (limit (pos 18000)) (puts (pos 1) 18 ∷ []), 0)
    ∷ (number (switched 0 2 0 0 0 0 0) (underlying_of 10000) (limit (pos 10000)) (calls (pos 1) 5 ∷ []), 21)
    ∷ (number (switched 1 0 1 1 1 1 1) (underlying_of 10000) (limit (pos 10000)) (calls (pos 1) 5 ∷ []), 0)
    ∷ (number (switched 0 0 2 0 0 0 0) example_market (limit (pos 19)) bought, 22)
    ∷ (number (switched 1 1 0 1 1 1 1) example_market (limit (pos 19)) bought, 0)
    ∷ (number (switched 0 0 0 2 0 0 0) example_market (limit (minus 1)) vertical, 23)
    ∷ (number (switched 1 1 1 0 1 1 1) example_market (limit (minus 1)) vertical, 0)
    ∷ (number (switched 0 0 0 0 2 0 0) example_market (limit (pos 10301)) vertical, 24)
    ∷ (number (switched 1 1 1 1 0 1 1) example_market (limit (pos 10301)) vertical, 0)
    ∷ (number (switched 0 0 0 0 0 2 0) (market 1 0 0 0 0 1200 0 0 0) (limit (pos 1251)) (calls (pos 1) 20 ∷ []), 25)
    ∷ (number (switched 1 1 1 1 1 0 1) (market 1 0 0 0 0 1200 0 0 0) (limit (pos 1251)) (calls (pos 1) 20 ∷ []), 0)
    ∷ (number usual (market 1 0 0 0 0 1200 0 0 0) (limit (pos 18000)) (puts (pos 1) 18 ∷ []), 20)
    ∷ []

-- what each number of a refusal needs
abbrev pub bad_settings : Settings
bad_settings = settings_of (changed 7 0 example_slice)

abbrev pub bad_market : Market
bad_market = market 3 0 0 0 0 0 0 0 0

abbrev too_much : Terms
too_much = limit (pos 1000000000001)

abbrev bad_symbol : ℤ → Lent
bad_symbol n = lent_of n (parts xyz 2027 13 15 67 20000)

-- the lowest number that applies: each order has its fault and every later one that it can have
abbrev sequence : List (ℕ × ℕ)
sequence =
    ((check_slices bad_settings bad_market too_much [] (0 ∷ [])).number, 1)
    ∷ ((check_slices bad_settings bad_market too_much (drop 1 (symbols_of vertical)) (counts_of vertical)).number, 1)
    ∷ (number bad_settings bad_market too_much [], 3)
    ∷ (number bad_settings bad_market too_much (many 17 (pos 0) (pos 0)), 3)
    ∷ (number bad_settings bad_market too_much (many 16 (pos 0) (pos 0)), 5)
    ∷ (number bad_settings bad_market too_much (bad_symbol (pos 0) ∷ bad_symbol (pos 0) ∷ lent_of (pos 1) (parts xyz1 2027 1 15 67 20000) ∷ []), 4)
    ∷ (number bad_settings bad_market too_much (calls (pos 0) 20 ∷ calls (pos 0) 20 ∷ lent_of (pos 1) (parts xyz1 2027 1 15 67 20000) ∷ []), 5)
    ∷ (number bad_settings bad_market too_much (calls (pos 1) 20 ∷ lent_of (pos 1) (parts xyz1 2027 1 15 67 20000) ∷ calls (minus 1) 20 ∷ []), 6)
    ∷ (number bad_settings bad_market too_much (calls (pos 1) 20 ∷ lent_of (pos 1) (parts xyz1 2027 1 15 67 20000) ∷ []), 7)
    ∷ (number bad_settings bad_market too_much vertical, 8)
    ∷ (number bad_settings bad_market (limit (minus 1)) vertical, 9)
    ∷ (number usual bad_market (limit (minus 1)) vertical, 10)
    ∷ []

-- counts; the price of a complex order; the sign of a simple one
abbrev limits : List (ℕ × ℕ)
limits =
    (number usual example_market (limit (pos 1)) (calls (pos 10000) 20 ∷ []), 0)
    ∷ (number usual example_market (limit (pos 1)) (calls (pos 10001) 20 ∷ []), 5)
    ∷ (number usual example_market (limit (minus 1)) (calls (minus 10000) 20 ∷ []), 0)
    ∷ (number usual example_market (limit (minus 1)) (calls (minus 10001) 20 ∷ []), 5)
    ∷ (number usual example_market (limit (pos 1)) (calls (pos 0) 20 ∷ []), 5)
    ∷ (number (switched 0 0 0 0 0 0 0) example_market (limit (pos 1000000000000)) vertical, 0)
    ∷ (number (switched 0 0 0 0 0 0 0) example_market (limit (minus 1000000000000)) vertical, 0)
    ∷ (number (switched 0 0 0 0 0 0 0) example_market (limit (minus 1000000000001)) vertical, 8)
    ∷ (number usual example_market (limit (pos 0)) (calls (pos 1) 20 ∷ []), 8)
    ∷ (number usual example_market (limit (minus 1)) (calls (pos 1) 20 ∷ []), 8)
    ∷ (number usual example_market (limit (pos 0)) (calls (minus 1) 20 ∷ []), 8)
    ∷ (number usual example_market (limit (pos 1)) (calls (minus 1) 20 ∷ []), 8)
    ∷ []

-- every setting at its least, and at its most; switches and flags have no limits
abbrev least_slice : List ℕ
least_slice = 0 ∷ 0 ∷ 0 ∷ 0 ∷ 0 ∷ 0 ∷ 0 ∷ 1 ∷ 1 ∷ 1 ∷ 2 ∷ 2 ∷ 2 ∷ 2 ∷ 0 ∷ 0 ∷ 0 ∷ 0 ∷ 0 ∷ 0 ∷ []

abbrev most_slice : List ℕ
most_slice = 0 ∷ 0 ∷ 0 ∷ 0 ∷ 0 ∷ 0 ∷ 0 ∷ 1000 ∷ 1000 ∷ 1000 ∷ 1000 ∷ 1000 ∷ 1000 ∷ 1000 ∷ 10000 ∷ 1000000 ∷ 1000000 ∷ 1000 ∷ 9 ∷ 9 ∷ []

abbrev pub call : List ℕ
call = (calls (pos 1) 20).symbol

abbrev pub put : List ℕ
put = (puts (pos 1) 20).symbol

-- the order record of one leg sold, where zero may come as received: it is neither sign; and no shares are none, on either side
abbrev sold_at : Price → ℕ
sold_at price = (check_order usual example_market (record { legs = raw_leg call (calls (minus 1) 20).count ∷ []; len = 1; terms = record { price = price; kind = 0; stop = 0; manual = 0; opening = 0; shares = record { bought = false; size = 0 } } })).number

abbrev zeros : List (ℕ × ℕ)
zeros =
    (sold_at (record { received = true; size = record { 0 = 1 } }), 0)
    ∷ (sold_at (record { received = true; size = record { 0 = 0 } }), 8)
    ∷ (sold_at (record { received = false; size = record { 0 = 0 } }), 8)
    ∷ []

-- each setting at its least, below it, at its most and above it; the minimum above the maximum; one setting too few, one too many
abbrev settings : List (Bool × Bool)
settings =
    (settings_hold (settings_of least_slice), true)
    ∷ (settings_hold (settings_of most_slice), true)
    ∷ (settings_hold (settings_of (changed 7 0 least_slice)), false)
    ∷ (settings_hold (settings_of (changed 8 0 least_slice)), false)
    ∷ (settings_hold (settings_of (changed 9 0 least_slice)), false)
    ∷ (settings_hold (settings_of (changed 10 1 least_slice)), false)
    ∷ (settings_hold (settings_of (changed 11 1 least_slice)), false)
    ∷ (settings_hold (settings_of (changed 12 1 least_slice)), false)
    ∷ (settings_hold (settings_of (changed 13 1 least_slice)), false)
    ∷ (settings_hold (settings_of (changed 7 1001 least_slice)), false)
    ∷ (settings_hold (settings_of (changed 8 1001 least_slice)), false)
    ∷ (settings_hold (settings_of (changed 9 1001 least_slice)), false)
    ∷ (settings_hold (settings_of (changed 10 1001 least_slice)), false)
    ∷ (settings_hold (settings_of (changed 11 1001 least_slice)), false)
    ∷ (settings_hold (settings_of (changed 12 1001 least_slice)), false)
    ∷ (settings_hold (settings_of (changed 13 1001 least_slice)), false)
    ∷ (settings_hold (settings_of (changed 14 10001 least_slice)), false)
    ∷ (settings_hold (settings_of (changed 16 1000001 least_slice)), false)
    ∷ (settings_hold (settings_of (changed 15 1 least_slice)), false)
    ∷ (settings_hold (settings_of (changed 17 1001 least_slice)), false)
    ∷ (settings_hold (settings_of (take 19 least_slice)), false)
    ∷ (settings_hold (settings_of (least_slice ++ (0 ∷ []))), false)
    ∷ []

-- each market value at its most, and above it; one value too few, one too many
abbrev markets : List (Bool × Bool)
markets =
    (market_holds (market 2 9 9 1000000000 1000000000 1000000000 1000000000 1000000000 1000000000), true)
    ∷ (market_holds (market 3 0 0 0 0 0 0 0 0), false)
    ∷ (market_holds (market 0 0 0 1000000001 0 0 0 0 0), false)
    ∷ (market_holds (market 0 0 0 0 1000000001 0 0 0 0), false)
    ∷ (market_holds (market 0 0 0 0 0 1000000001 0 0 0), false)
    ∷ (market_holds (market 0 0 0 0 0 0 1000000001 0 0), false)
    ∷ (market_holds (market 0 0 0 0 0 0 0 1000000001 0), false)
    ∷ (market_holds (market 0 0 0 0 0 0 0 0 1000000001), false)
    ∷ (market_holds (market_of (0 ∷ 0 ∷ 0 ∷ 0 ∷ 0 ∷ 0 ∷ 0 ∷ 0 ∷ [])), false)
    ∷ (market_holds (market_of (0 ∷ 0 ∷ 0 ∷ 0 ∷ 0 ∷ 0 ∷ 0 ∷ 0 ∷ 0 ∷ 0 ∷ [])), false)
    ∷ []

abbrev quote : Settings → Market → List ℕ → ℕ → ℕ → ℕ → QuoteAnswer
quote st m symbol bid offer resting = check_quote st m symbol (record { 0 = bid }) (record { 0 = offer }) resting

abbrev quoted : Market → ℕ → ℕ → ℕ
quoted m bid offer = (quote usual m call bid offer 0).number

-- the refusals in their sequence, 11 at its limits, and the flag: only of a rejection with one resting
abbrev quote_answers : List (QuoteAnswer × QuoteAnswer)
quote_answers =
    (quote bad_settings bad_market (drop 1 call) 0 0 1, record { number = 1; cancel = 0 })
    ∷ (quote bad_settings bad_market (bad_symbol (pos 1)).symbol 0 0 1, record { number = 4; cancel = 0 })
    ∷ (quote bad_settings bad_market call 0 0 1, record { number = 9; cancel = 0 })
    ∷ (quote usual bad_market call 0 0 1, record { number = 10; cancel = 0 })
    ∷ (quote usual example_market call 0 1 1, record { number = 11; cancel = 0 })
    ∷ (quote usual example_market call 1 1 1, record { number = 11; cancel = 0 })
    ∷ (quote usual example_market call 1 1000000001 1, record { number = 11; cancel = 0 })
    ∷ (quote usual example_market call 1 1000000000 1, record { number = 0; cancel = 0 })
    -- 20 and 21 test the bid
    ∷ (quote usual example_market put 19999 20000 2, record { number = 0; cancel = 0 })
    ∷ (quote usual example_market put 20000 20001 2, record { number = 20; cancel = 1 })
    ∷ (quote usual (underlying_of 10000) call 9999 10000 2, record { number = 0; cancel = 0 })
    ∷ (quote usual (underlying_of 10000) call 10000 10001 2, record { number = 21; cancel = 1 })
    ∷ (quote usual (underlying_of 10000) call 10000 10001 0, record { number = 21; cancel = 0 })
    -- an adjusted class leaves 21 out, European index style does not
    ∷ (quote (settings_of (changed 18 2 example_slice)) (underlying_of 10000) call 10000 10001 0, record { number = 0; cancel = 0 })
    ∷ (quote (example_settings 2) (underlying_of 10000) call 10000 10001 0, record { number = 21; cancel = 0 })
    -- their switches, each alone on, alone off
    ∷ (quote (switched 2 0 0 0 0 0 0) example_market put 20000 20001 2, record { number = 20; cancel = 1 })
    ∷ (quote (switched 0 1 1 1 1 1 1) example_market put 20000 20001 2, record { number = 0; cancel = 0 })
    ∷ (quote (switched 0 2 0 0 0 0 0) (underlying_of 10000) call 10000 10001 2, record { number = 21; cancel = 1 })
    ∷ (quote (switched 1 0 1 1 1 1 1) (underlying_of 10000) call 10000 10001 2, record { number = 0; cancel = 0 })
    ∷ []

-- 26: what the quotes of Examples leave open
abbrev inversions : List (ℕ × ℕ)
inversions =
    -- not in a halt; before the opening only where it is open elsewhere
    (quoted (market 2 1 0 0 1100 1200 1000 1300 0) 1200 1300, 0)
    ∷ (quoted (market 0 0 0 0 1100 1200 1000 1300 0) 1200 1300, 0)
    ∷ (quoted (market 0 2 0 0 1100 1200 1000 1300 0) 1200 1300, 26)
    -- crossed, unavailable: the own offer with the set ticks
    ∷ (quoted (market 1 0 0 0 1200 1100 1000 1300 0) 1340 1400, 0)
    ∷ (quoted (market 1 0 0 0 1200 1100 1000 1300 0) 1341 1400, 26)
    ∷ (quoted (market 1 0 0 0 0 0 1000 1300 0) 1340 1400, 0)
    ∷ (quoted (market 1 0 0 0 0 0 1000 1300 0) 1341 1400, 26)
    -- the own bid: an offer below it
    ∷ (quoted (market 1 0 0 0 0 0 1000 1300 0) 900 960, 0)
    ∷ (quoted (market 1 0 0 0 0 0 1000 1300 0) 900 959, 26)
    -- a missing NBO skips the bid, a missing NBB the offer
    ∷ (quoted (market 1 0 0 0 1100 0 1000 1300 0) 5000 6000, 0)
    ∷ (quoted (market 1 0 0 0 0 1200 1000 1300 0) 1 2, 0)
    -- the tick at the comparison price: 40 mills from 4 ticks of 10 below 3,000, 80 from 4 of 20 from there
    ∷ ((quote (settings_of (changed 8 20 example_slice)) (market 1 0 0 0 2000 2999 1000 2999 0) call 3039 4000 0).number, 0)
    ∷ ((quote (settings_of (changed 8 20 example_slice)) (market 1 0 0 0 2000 2999 1000 2999 0) call 3040 4000 0).number, 26)
    ∷ ((quote (settings_of (changed 8 20 example_slice)) (market 1 0 0 0 2000 3000 1000 3000 0) call 3080 4000 0).number, 0)
    ∷ ((quote (settings_of (changed 8 20 example_slice)) (market 1 0 0 0 2000 3000 1000 3000 0) call 3081 4000 0).number, 26)
    -- its switch alone off, alone on
    ∷ ((quote (switched 1 1 1 1 1 1 0) (market 1 0 0 0 1100 1200 1000 1300 0) call 1200 1300 0).number, 0)
    ∷ ((quote (switched 0 0 0 0 0 0 2) (market 1 0 0 0 1100 1200 1000 1300 0) call 1200 1300 0).number, 26)
    ∷ []

-- the reader's number for parts written as bytes, whatever they say
abbrev dated : ℕ → ℕ → ℕ → ℕ
dated year month day = (read_symbol (symbol_of (parts xyz year month day 67 1))).number

abbrev read : List ℕ → ℕ
read s = (read_symbol s).number

-- 21 bytes: the root, 22 November 2014, the type, and a strike of 00019500 but for its first digit
abbrev bytes : ℕ → ℕ → ℕ → ℕ → ℕ → ℕ → ℕ → ℕ → List ℕ
bytes a b c d e f right digit = a ∷ b ∷ c ∷ d ∷ e ∷ f ∷ 49 ∷ 52 ∷ 49 ∷ 49 ∷ 50 ∷ 50 ∷ right ∷ digit ∷ 48 ∷ 48 ∷ 49 ∷ 57 ∷ 53 ∷ 48 ∷ 48 ∷ []

-- the first is printed with the published layout: SPX, 22 November 2014, put at 19.50
abbrev readings : List (SymbolRead × SymbolRead)
readings =
    (read_symbol (bytes 83 80 88 32 32 32 80 48), record { number = 0; parts = parts 91604540989472 2014 11 22 80 19500 })
    ∷ (read_symbol (bytes 65 90 48 57 65 90 67 57), record { number = 0; parts = parts 71855611920730 2014 11 22 67 90019500 })
    ∷ (read_symbol (drop 1 (bytes 83 80 88 32 32 32 80 48)), record { number = 1; parts = parts 0 0 0 0 0 0 })
    ∷ (read_symbol (bytes 83 80 88 32 32 32 81 48), record { number = 4; parts = parts 0 0 0 0 0 0 })
    ∷ []

abbrev dates : List (ℕ × ℕ)
dates =
    (dated 2000 1 31, 0)
    ∷ (dated 2099 12 31, 0)
    ∷ (dated 2000 2 29, 0)
    ∷ (dated 2096 2 29, 0)
    ∷ (dated 2001 2 28, 0)
    ∷ (dated 2001 2 29, 4)
    ∷ (dated 2098 2 29, 4)
    ∷ (dated 2000 2 30, 4)
    ∷ (dated 2027 3 31, 0)
    ∷ (dated 2027 4 30, 0)
    ∷ (dated 2027 4 31, 4)
    ∷ (dated 2027 5 31, 0)
    ∷ (dated 2027 6 30, 0)
    ∷ (dated 2027 6 31, 4)
    ∷ (dated 2027 7 31, 0)
    ∷ (dated 2027 8 31, 0)
    ∷ (dated 2027 9 30, 0)
    ∷ (dated 2027 9 31, 4)
    ∷ (dated 2027 10 31, 0)
    ∷ (dated 2027 11 30, 0)
    ∷ (dated 2027 11 31, 4)
    ∷ (dated 2027 1 32, 4)
    ∷ (dated 2027 0 15, 4)
    ∷ (dated 2027 13 15, 4)
    ∷ (dated 2027 1 0, 4)
    ∷ []

abbrev roots : List (ℕ × ℕ)
roots =
    (read (bytes 65 32 32 32 32 32 67 48), 0)
    ∷ (read (bytes 90 65 90 48 57 65 67 48), 0)
    -- a digit first; a space first; a space inside; the bytes beside the limits
    ∷ (read (bytes 48 65 32 32 32 32 67 48), 4)
    ∷ (read (bytes 32 65 32 32 32 32 67 48), 4)
    ∷ (read (bytes 65 32 65 32 32 32 67 48), 4)
    ∷ (read (bytes 64 32 32 32 32 32 67 48), 4)
    ∷ (read (bytes 91 32 32 32 32 32 67 48), 4)
    ∷ (read (bytes 65 47 32 32 32 32 67 48), 4)
    ∷ (read (bytes 65 58 32 32 32 32 67 48), 4)
    ∷ (read (bytes 97 32 32 32 32 32 67 48), 4)
    -- the type; a strike of 0; a byte that is no digit
    ∷ (read (bytes 65 32 32 32 32 32 99 48), 4)
    ∷ (read (symbol_of (parts xyz 2027 1 15 80 0)), 4)
    ∷ (read (symbol_of (parts xyz 2027 1 15 80 99999999)), 0)
    ∷ (read (bytes 65 32 32 32 32 32 67 32), 4)
    ∷ []

-- the writer: 2 before 4; lent bytes are kept on a refusal, and the bytes after the symbol
abbrev writings : List (SymbolWritten × SymbolWritten)
writings =
    (write_symbol (parts 0 0 0 0 0 0) (1 ∷ 2 ∷ []), record { number = 2; handed = 0; buffer = 1 ∷ 2 ∷ [] })
    ∷ (write_symbol (parts xyz 2027 1 15 67 20000) (take 20 call), record { number = 2; handed = 0; buffer = take 20 call })
    ∷ (write_symbol (parts xyz 2027 13 15 67 20000) (7 ∷ call), record { number = 4; handed = 0; buffer = 7 ∷ call })
    ∷ (write_symbol (parts xyz 2027 1 15 67 20000) (take 21 (bytes 83 80 88 32 32 32 80 48)), record { number = 0; handed = 21; buffer = call })
    ∷ (write_symbol (parts 91604540989472 2014 11 22 80 19500) (call ++ (7 ∷ 8 ∷ [])), record { number = 0; handed = 21; buffer = bytes 83 80 88 32 32 32 80 48 ++ (7 ∷ 8 ∷ []) })
    ∷ []

abbrev tally : ℕ → ℕ → ℕ → ℕ → Tally
tally seen refused accepted rejected = record { seen = seen; refused = refused; accepted = accepted; rejected = rejected }

abbrev tallies : List (Tally × Tally)
tallies =
    (counted fresh 0, tally 1 0 1 0)
    ∷ (counted fresh 1, tally 1 1 0 0)
    ∷ (counted fresh 10, tally 1 1 0 0)
    ∷ (counted fresh 20, tally 1 0 0 1)
    ∷ (counted fresh 25, tally 1 0 0 1)
    ∷ (counted fresh 26, tally 1 0 0 1)
    -- beside the checks' numbers
    ∷ (counted fresh 12, tally 1 1 0 0)
    ∷ (counted fresh 19, tally 1 1 0 0)
    ∷ (counted fresh 27, tally 1 1 0 0)
    ∷ []

abbrev bad_tallies : List (Bool × Bool)
bad_tallies =
    (is_bad_tally (tally 6 1 2 3), false)
    ∷ (is_bad_tally (tally 7 1 2 3), true)
    ∷ (is_bad_tally (tally 5 1 2 3), true)
    ∷ (is_bad_tally (tally 0 0 0 0), false)
    ∷ []

-- the host's sequence of settings and of market values
abbrev handed : List (Settings × Settings)
handed = (settings_of example_slice, example_settings 0) ∷ (settings_of (changed 19 7 example_slice), example_settings 7) ∷ []

abbrev values : List (Market × Market)
values =
    (market 1 2 3 4 5 6 7 8 9, record { phase = 1; elsewhere = 2; extended = 3; underlying = record { 0 = 4 }; nbb = record { 0 = 5 }; nbo = record { 0 = 6 }; ownbid = record { 0 = 7 }; ownoffer = record { 0 = 8 }; close = record { 0 = 9 } })
    ∷ []

pub record Edges : Type 0 where
  pub shape : Hold shapes
  pub expiry : Hold expiries
  pub style : Hold styles
  pub simple : Hold paid
  pub complex : Hold sides
  pub maximum : Hold maxima
  pub band : Hold bands
  pub reference : Hold references
  pub unreferenced : Hold without
  pub flag : Hold flags
  pub switch : Hold switches
  pub refusal : Hold sequence
  pub limited : Hold limits
  pub unsigned : Hold zeros
  pub settings_record : Hold handed
  pub market_record : Hold values
  pub settings_limits : Hold settings
  pub market_limits : Hold markets
  pub quotes : Hold quote_answers
  pub inverted : Hold inversions
  pub symbols : Hold readings
  pub date : Hold dates
  pub root : Hold roots
  pub written : Hold writings
  pub tallied : Hold tallies
  pub broken : Hold bad_tallies
