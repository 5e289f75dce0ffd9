-- Document 01, Examples, as the host lends them.
use Rattle.std.specs.Prelude.{◌≡◌, List, [], ◌∷◌, reverse, true, false, cond, ℕ, suc, ◌-◌, ◌*◌, ◌^◌, eqb, ℤ, pos, negsuc, neg_ℤ}
use Rattle.rules.specs.declared.Terms.{Terms}
use Rattle.rules.specs.declared.Settings.{Settings}
use Rattle.rules.specs.declared.Market.{Market}
use Rattle.rules.specs.declared.OrderAnswer.{OrderAnswer}
use Rattle.rules.specs.declared.QuoteAnswer.{QuoteAnswer}
use Rattle.rules.specs.Numerals.{numeral}
use Rattle.rules.specs.Symbol.{symbol_of}
use Rattle.rules.specs.Order.{Lent, symbols_of, counts_of, terms_of}
use Rattle.rules.specs.Market.{market_of}
use Rattle.rules.specs.Numbers.{check_slices}
use Rattle.rules.specs.Quote.{check_quote}
use Rattle.rules.specs.Tally.{is_bad_tally}

-- "all checks on; net increment 10, both ticks 10, every ATD 5, set ticks 4, percentage 300 (3 percent), presets 0 and 600; neither adjusted nor European unless said"
abbrev pub example_settings : ℕ → Settings
example_settings european =
    record {
      check20 = 1;
      check21 = 1;
      check22 = 1;
      check23 = 1;
      check24 = 1;
      check25 = 1;
      check26 = 1;
      lowtick = record { 0 = 10 };
      hightick = record { 0 = 10 };
      increment = record { 0 = 10 };
      atd0 = record { 0 = 5 };
      atd1 = record { 0 = 5 };
      atd2 = record { 0 = 5 };
      atd3 = record { 0 = 5 };
      percentage = 300;
      presetminimum = record { 0 = 0 };
      presetmaximum = record { 0 = 600 };
      setticks = record { 0 = 4 };
      adjusted = 0;
      european = european;
    }

-- "phase open; market values missing unless given"
abbrev pub example_market : Market
example_market =
    record {
      phase = 1;
      elsewhere = 0;
      extended = 0;
      underlying = record { 0 = 0 };
      nbb = record { 0 = 0 };
      nbo = record { 0 = 0 };
      ownbid = record { 0 = 0 };
      ownoffer = record { 0 = 0 };
      close = record { 0 = 0 };
    }

-- "Limit orders; no flags"
abbrev pub example_terms : ℤ → Terms
example_terms price = terms_of price 0 0 0 0 (pos 0)

-- a count's two's complement
abbrev pub bits : ℤ → ℕ
bits (pos n) = n
bits (negsuc n) = 2 ^ 64 - suc n

-- `n` contracts of root XYZ, at a strike in dollars; the day is that of the month's third Friday in 2027
abbrev pub lent : ℤ → ℕ → ℕ → ℕ → ℕ → Lent
lent n right month day dollars =
    record {
      symbol = symbol_of (record { root = 97140787388448; year = 2027; month = month; day = day; right = right; strike = record { 0 = dollars * 1000 } });
      count = reverse (numeral 256 0 8 (bits n));
    }

-- January's calls and puts
abbrev pub calls : ℤ → ℕ → Lent
calls n dollars = lent n 67 1 15 dollars

abbrev pub puts : ℤ → ℕ → Lent
puts n dollars = lent n 80 1 15 dollars

-- An order and its expected answer. Document 01 gives the number, and the class or the pairings where it names them; the other fields, root, dates, and strike and price of T8 and T10 are added here.
pub record Case : Type 0 where
  pub european : ℕ
  pub price : ℤ
  pub legs : List Lent
  pub expected : OrderAnswer

abbrev pub minus : ℕ → ℤ
minus n = neg_ℤ (pos n)

abbrev answers : ℕ → ℕ → ℕ → ℕ → OrderAnswer
answers number class shape pairings = record { number = number; class = class; shape = shape; pairings = pairings }

abbrev case : ℤ → List Lent → OrderAnswer → Case
case price legs expected = record { european = 0; price = price; legs = legs; expected = expected }

abbrev pub cases : List Case
cases =
    -- T1
    case (pos 15000) (calls (minus 5) 20 ∷ calls (pos 10) 30 ∷ calls (minus 5) 40 ∷ []) (answers 23 2 2 2)
    -- T2, and "middle 30"
    ∷ case (minus 20000) (calls (pos 10) 20 ∷ calls (minus 20) 25 ∷ calls (pos 10) 35 ∷ []) (answers 0 0 3 2)
    ∷ case (minus 20000) (calls (pos 10) 20 ∷ calls (minus 20) 30 ∷ calls (pos 10) 35 ∷ []) (answers 23 1 3 2)
    -- T3
    ∷ case (pos 20000) (puts (minus 20) 10 ∷ puts (pos 40) 20 ∷ puts (minus 20) 30 ∷ []) (answers 23 2 2 2)
    -- T4, and "middle 40"
    ∷ case (minus 25000) (puts (pos 5) 35 ∷ puts (minus 10) 45 ∷ puts (pos 5) 50 ∷ []) (answers 0 0 3 2)
    ∷ case (minus 25000) (puts (pos 5) 35 ∷ puts (minus 10) 40 ∷ puts (pos 5) 50 ∷ []) (answers 23 1 3 2)
    -- T5
    ∷ case (pos 8000) (calls (pos 1) 10 ∷ calls (minus 2) 20 ∷ puts (pos 1) 15 ∷ []) (answers 0 0 0 1)
    -- T6, and at -24,000
    ∷ case (minus 28000) (calls (minus 1) 20 ∷ calls (pos 1) 45 ∷ puts (pos 1) 20 ∷ puts (minus 1) 45 ∷ []) (answers 24 2 4 2)
    ∷ case (minus 24000) (calls (minus 1) 20 ∷ calls (pos 1) 45 ∷ puts (pos 1) 20 ∷ puts (minus 1) 45 ∷ []) (answers 0 2 4 2)
    -- T7, and at -19
    ∷ case (minus 20) (calls (minus 1) 45 ∷ calls (minus 1) 50 ∷ []) (answers 0 2 0 0)
    ∷ case (minus 19) (calls (minus 1) 45 ∷ calls (minus 1) 50 ∷ []) (answers 22 2 0 0)
    -- T8, and European index
    ∷ case (minus 1000) (lent (pos 1) 67 3 19 20 ∷ lent (minus 1) 67 6 18 20 ∷ []) (answers 0 2 0 1)
    ∷ record { european = 1; price = minus 1000; legs = lent (pos 1) 67 3 19 20 ∷ lent (minus 1) 67 6 18 20 ∷ []; expected = answers 0 0 0 0 }
    -- T10, by S-5 a debit: September, which is walked first, meets June, and March is left over
    ∷ case (pos 1000) (lent (pos 1) 67 3 19 20 ∷ lent (minus 1) 67 6 18 20 ∷ lent (pos 1) 67 9 17 20 ∷ []) (answers 0 1 0 1)
    ∷ case (minus 1000) (lent (pos 1) 67 3 19 20 ∷ lent (minus 1) 67 6 18 20 ∷ lent (pos 1) 67 9 17 20 ∷ []) (answers 23 1 0 1)
    ∷ []

-- What T1 to T8 and T10 do not tell apart: where the first walk begins, where the second begins for puts, and which open contracts come first.
abbrev pub directions : List Case
directions =
    -- calls from the lowest strike up: the buy at 30 meets the sell at 20
    case (minus 1000) (calls (pos 1) 30 ∷ calls (minus 1) 20 ∷ calls (minus 1) 40 ∷ []) (answers 0 2 0 1)
    -- puts from the highest down: the buy at 30 meets the sell at 40
    ∷ case (minus 1000) (puts (pos 1) 30 ∷ puts (minus 1) 20 ∷ puts (minus 1) 40 ∷ []) (answers 0 2 0 1)
    -- the latest-walked strike first: the sells at 30 meet the buy at 20, then one at 10
    ∷ case (pos 1000) (calls (pos 2) 10 ∷ calls (pos 1) 20 ∷ calls (minus 2) 30 ∷ []) (answers 0 1 0 2)
    -- puts too from the farthest expiry to the nearest: the sale in June meets the buy in September; T10's opposite is a credit
    ∷ case (pos 1000) (lent (pos 1) 80 3 19 20 ∷ lent (minus 1) 80 6 18 20 ∷ lent (pos 1) 80 9 17 20 ∷ []) (answers 0 1 0 1)
    ∷ case (minus 1000) (lent (minus 1) 67 3 19 20 ∷ lent (pos 1) 67 6 18 20 ∷ lent (minus 1) 67 9 17 20 ∷ []) (answers 0 2 0 1)
    -- the latest-walked expiry first: the sales in March meet the buy in June, then one in September
    ∷ case (pos 1000) (lent (minus 2) 67 3 19 20 ∷ lent (pos 1) 67 6 18 20 ∷ lent (pos 2) 67 9 17 20 ∷ []) (answers 0 1 0 2)
    ∷ []

-- the order check's answer to a case
abbrev pub given : Case → OrderAnswer
given c = check_slices (example_settings c.european) example_market (example_terms c.price) (symbols_of c.legs) (counts_of c.legs)

abbrev pub givens : List Case → List OrderAnswer
givens [] = []
givens (c ∷ cs) = given c ∷ givens cs

abbrev pub expecteds : List Case → List OrderAnswer
expecteds [] = []
expecteds (c ∷ cs) = c.expected ∷ expecteds cs

-- T1 to T8 and T10, jointly
abbrev pub Examples : Type 0
Examples = givens cases ≡ expecteds cases

abbrev pub Directions : Type 0
Directions = givens directions ≡ expecteds directions

-- T9: T6 at -25,600 and -25,601
abbrev pub maxima : List Case
maxima =
    case (minus 25600) (calls (minus 1) 20 ∷ calls (pos 1) 45 ∷ puts (pos 1) 20 ∷ puts (minus 1) 45 ∷ []) (answers 0 2 4 2)
    ∷ case (minus 25601) (calls (minus 1) 20 ∷ calls (pos 1) 45 ∷ puts (pos 1) 20 ∷ puts (minus 1) 45 ∷ []) (answers 24 2 4 2)
    ∷ []

-- the example market with an underlying, an NBB and an NBO, an own bid and offer
abbrev market_with : ℕ → ℕ → ℕ → ℕ → ℕ → Market
market_with underlying nbb nbo bid offer = market_of (1 ∷ 0 ∷ 0 ∷ underlying ∷ nbb ∷ nbo ∷ bid ∷ offer ∷ 0 ∷ [])

-- an order of one leg, and the number expected
pub record Single : Type 0 where
  pub market : Market
  pub price : ℤ
  pub leg : Lent
  pub expected : ℕ

abbrev single : Market → ℕ → Lent → ℕ → Single
single market price leg expected = record { market = market; price = pos price; leg = leg; expected = expected }

abbrev pub singles : List Single
singles =
    -- T11: "buy call, underlying 10,000", "buy put, strike 18,000"
    single (market_with 10000 0 0 0 0) 8000 (calls (pos 1) 5) 0
    ∷ single (market_with 10000 0 0 0 0) 11000 (calls (pos 1) 5) 21
    ∷ single example_market 17999 (puts (pos 1) 18) 0
    ∷ single example_market 18000 (puts (pos 1) 18) 20
    -- T12: "buy call, open, NBO 1,200, tick 10, ATD 5"
    ∷ single (market_with 0 0 1200 0 0) 1250 (calls (pos 1) 20) 0
    ∷ single (market_with 0 0 1200 0 0) 1251 (calls (pos 1) 20) 25
    ∷ []

abbrev pub single_givens : List Single → List ℕ
single_givens [] = []
single_givens (c ∷ cs) = (check_slices (example_settings 0) c.market (example_terms c.price) c.leg.symbol c.leg.count).number ∷ single_givens cs

abbrev pub single_expecteds : List Single → List ℕ
single_expecteds [] = []
single_expecteds (c ∷ cs) = c.expected ∷ single_expecteds cs

-- a quote of January's call at 20 with one resting, and the number expected; document 01 prints none
pub record Quoted : Type 0 where
  pub market : Market
  pub bid : ℕ
  pub offer : ℕ
  pub expected : ℕ

abbrev quoted : Market → ℕ → ℕ → ℕ → Quoted
quoted market bid offer expected = record { market = market; bid = bid; offer = offer; expected = expected }

abbrev pub quotes : List Quoted
quotes =
    -- the own offer is the NBO: the set ticks, 40 mills, beyond it
    quoted (market_with 0 1100 1200 1000 1200) 1240 1300 0
    ∷ quoted (market_with 0 1100 1200 1000 1200) 1241 1300 26
    -- it is not: at the NBO
    ∷ quoted (market_with 0 1100 1200 1000 1210) 1199 1300 0
    ∷ quoted (market_with 0 1100 1200 1000 1210) 1200 1300 26
    -- the offer mirrors this
    ∷ quoted (market_with 0 1100 1200 1100 1300) 1000 1060 0
    ∷ quoted (market_with 0 1100 1200 1100 1300) 1000 1059 26
    ∷ quoted (market_with 0 1100 1200 1000 1300) 1000 1100 26
    -- locked: the own prices, with the set ticks
    ∷ quoted (market_with 0 1200 1200 1000 1300) 1340 1400 0
    ∷ quoted (market_with 0 1200 1200 1000 1300) 1341 1400 26
    ∷ []

abbrev pub quote_givens : List Quoted → List QuoteAnswer
quote_givens [] = []
quote_givens (c ∷ cs) = check_quote (example_settings 0) c.market (calls (pos 1) 20).symbol (record { 0 = c.bid }) (record { 0 = c.offer }) 1 ∷ quote_givens cs

-- the resting quote is to be cancelled where 26 rejects
abbrev pub quote_expecteds : List Quoted → List QuoteAnswer
quote_expecteds [] = []
quote_expecteds (c ∷ cs) = record { number = c.expected; cancel = cond (eqb c.expected 0) 0 1 } ∷ quote_expecteds cs

-- T9, T11, T12, quotes on both sides of each limit of 26, and a tally at its limit
pub record Further : Type 0 where
  pub orders : givens maxima ≡ expecteds maxima
  pub simple : single_givens singles ≡ single_expecteds singles
  pub inverted : quote_givens quotes ≡ quote_expecteds quotes
  pub last : is_bad_tally (record { seen = 999999; refused = 999999; accepted = 0; rejected = 0 }) ≡ false
  pub full : is_bad_tally (record { seen = 1000000; refused = 1000000; accepted = 0; rejected = 0 }) ≡ true
