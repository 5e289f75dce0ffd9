-- Document 02, S-7: what is promised of every crossing quote, in plain comparisons of numbers.
use Rattle.std.specs.Prelude.{◌≡◌, ◌⊎◌, List, map, Bool, true, false, cond, ℕ, ◌+◌, ◌-◌, ◌≤◌, ◌<◌, length, get_or}
use Rattle.rules.specs.declared.Mills.{Mills}
use Rattle.rules.specs.declared.Settings.{Settings}
use Rattle.rules.specs.declared.Market.{Market}
use Rattle.rules.specs.declared.QuoteAnswer.{QuoteAnswer}
use Rattle.rules.specs.declared.CrossingAnswer.{CrossingAnswer}
use Rattle.rules.specs.Lists.{total}
use Rattle.rules.specs.Kinds.{is_refused}
use Rattle.rules.specs.Quote.{check_quote}
use Rattle.rules.specs.Market.{is_missing}
use Rattle.rules.specs.Crossing.{Crossing, is_bought, crossing_price, is_bad_crossing, Crossed, execution, check_crossing}

-- A bid (`bought` true) meets offers: lower ones are better. An offer meets bids: higher ones are better.
abbrev pub Better : Bool → ℕ → ℕ → Type 0
Better true p q = p < q
Better false p q = q < p

-- `p` is at `q` or better
abbrev pub AtOrBetter : Bool → ℕ → ℕ → Type 0
AtOrBetter true p q = p ≤ q
AtOrBetter false p q = q ≤ p

-- the resting price and size at a place of the list, and what it fills
abbrev pub price_at : Crossing → ℕ → ℕ
price_at c i = get_or c.prices i 0

abbrev pub size_at : Crossing → ℕ → ℕ
size_at c i = get_or c.sizes i 0

abbrev pub fill_at : Crossed → ℕ → ℕ
fill_at r i = get_or r.fills i 0

-- "all prices 1 to 1,000,000,000"; "sizes of offers and bid 1 to 1,000,000"
abbrev pub IsPrice : ℕ → Type 0
IsPrice p = (1 ≤ p) × (p ≤ 1000000000)

abbrev pub IsSize : ℕ → Type 0
IsSize n = (1 ≤ n) × (n ≤ 1000000)

-- a list and what comes with it that do not get 36, with `room` fills lent
pub record Good (room : ℕ) (c : Crossing) : Type 0 where
  pub long : length c.prices ≤ 64
  pub lent : length c.prices ≤ room
  pub sized : length c.sizes ≡ length c.prices
  pub prices : (i : ℕ) → i < length c.prices → IsPrice (price_at c i)
  pub sizes : (i : ℕ) → i < length c.prices → IsSize (size_at c i)
  -- "by strictly rising price", falling for a sell
  pub sequence : (i j : ℕ) → i < j → j < length c.prices → Better (is_bought c) (price_at c i) (price_at c j)
  pub size : IsSize c.size
  -- "away 0 if missing"
  pub away : (c.away.0 ≡ 0) ⊎ IsPrice c.away.0

-- a resting price that a quote at `price` may fill: "not above the bid or the away offer"
pub record MayFill (bought : Bool) (price away_price p : ℕ) : Type 0 where
  pub quote : AtOrBetter bought p price
  -- "A missing away offer sets no bound"
  pub away : (away_price ≡ 0 → ⊥) → AtOrBetter bought p away_price

-- what a quote at `price` with the number 0 executes
pub record Executes (price : ℕ) (c : Crossing) (room : ℕ) (r : Crossed) : Type 0 where
  -- every lent fill is set, and beyond the list nothing is filled
  pub lent : length r.fills ≡ room
  pub beyond : (i : ℕ) → length c.prices ≤ i → fill_at r i ≡ 0
  pub sum : r.answer.executed ≡ total r.fills
  pub whole : r.answer.executed + r.answer.booked + r.answer.cancelled ≡ c.size
  -- no fill exceeds its offer's size
  pub sizes : (i : ℕ) → fill_at r i ≤ size_at c i
  -- no fill at a price beyond the quote's, or the away price where that is present
  pub prices : (i : ℕ) → 0 < fill_at r i → MayFill (is_bought c) price c.away.0 (price_at c i)
  -- "fill lowest first": an offer is filled only if every better one is filled whole
  pub first : (i j : ℕ) → j < length c.prices → Better (is_bought c) (price_at c j) (price_at c i) → 0 < fill_at r i → fill_at r j ≡ size_at c j
  -- where something is left over, every offer at an allowed price is filled whole
  pub remainder : (0 < r.answer.booked + r.answer.cancelled) → (i : ℕ) → i < length c.prices → MayFill (is_bought c) price c.away.0 (price_at c i) → fill_at r i ≡ size_at c i
  -- "booked if the bid is below the away offer, else cancelled. A missing away offer [..] books."
  pub booked : 0 < r.answer.booked → (r.answer.cancelled ≡ 0) × ((c.away.0 ≡ 0) ⊎ Better (is_bought c) price c.away.0)
  pub cancelled : 0 < r.answer.cancelled → (r.answer.booked ≡ 0) × (c.away.0 ≡ 0 → ⊥) × AtOrBetter (is_bought c) c.away.0 price

-- the number and the flag of a crossing quote, by the quote check's
pub record OfQuote (c : Crossing) (room : ℕ) (q : QuoteAnswer) (r : CrossingAnswer) : Type 0 where
  -- 36 comes "after 11"
  pub refused : is_refused q.number ≡ true → (r.number ≡ q.number) × (r.cancel ≡ q.cancel)
  -- "and before 20"
  pub bad : is_refused q.number ≡ false → is_bad_crossing room c ≡ true → (r.number ≡ 36) × (r.cancel ≡ 0)
  -- they are the quote check's own wherever 36 does not apply
  pub own : is_bad_crossing room c ≡ false → (r.number ≡ q.number) × (r.cancel ≡ q.cancel)

-- "Sell quotes mirror this": each price mirrored, so that the lowest becomes the highest; a missing one stays missing
abbrev pub mirrored_price : ℕ → ℕ
mirrored_price p = 1000000001 - p

abbrev pub mirrored : Crossing → Crossing
mirrored c =
    record {
      sell = cond (is_bought c) 1 0;
      size = c.size;
      prices = map mirrored_price c.prices;
      sizes = c.sizes;
      away = cond (is_missing c.away) c.away (record { 0 = mirrored_price c.away.0 });
    }

pub record CrossingTheorem : Type 0 where
  -- 36 is of a list, a size or an away price outside these limits, and of nothing else
  pub good : (room : ℕ) (c : Crossing) → is_bad_crossing room c ≡ false → Good room c
  pub bad : (room : ℕ) (c : Crossing) → Good room c → is_bad_crossing room c ≡ false
  pub of_quote : (st : Settings) (m : Market) (symbol : List ℕ) (bid offer : Mills) (resting : ℕ) (c : Crossing) (room : ℕ)
      → OfQuote c room (check_quote st m symbol bid offer resting) (check_crossing st m symbol bid offer resting c room).answer
  pub executes : (st : Settings) (m : Market) (symbol : List ℕ) (bid offer : Mills) (resting : ℕ) (c : Crossing) (room : ℕ) → (check_crossing st m symbol bid offer resting c room).answer.number ≡ 0
      → Executes (crossing_price (is_bought c) bid offer).0 c room (check_crossing st m symbol bid offer resting c room)
  pub mirror : (room : ℕ) (price : Mills) (c : Crossing) → IsPrice price.0 → Good room c
      → Good room (mirrored c) × (execution room (record { 0 = mirrored_price price.0 }) (mirrored c) ≡ execution room price c)
