-- Document 02, S-7: what would a crossing quote execute?
use Rattle.std.specs.Prelude.{List, [], ◌∷◌, ◌++◌, Bool, true, cond, not, ◌&&◌, ◌||◌, ℕ, ◌-◌, min, length, replicate, eqb, ltb}
use Rattle.rules.specs.declared.Mills.{Mills}
use Rattle.rules.specs.declared.Settings.{Settings}
use Rattle.rules.specs.declared.Market.{Market}
use Rattle.rules.specs.declared.CrossingAnswer.{CrossingAnswer}
use Rattle.rules.specs.Limits.{within}
use Rattle.rules.specs.Lists.{all, total}
use Rattle.rules.specs.Symbol.{parts_of}
use Rattle.rules.specs.Order.{is_yes, series_of}
use Rattle.rules.specs.Market.{is_missing, at_or_past}
use Rattle.rules.specs.Kinds.{is_rejected}
use Rattle.rules.specs.Numbers.{first_of}
use Rattle.rules.specs.Quote.{quote_refusals, quote_rejections}

-- What comes with the quote, as the host lends it: which side crosses, "a quote bid" where `sell` is no; that side's size; "resting offers", an offer at each place of prices (in mills) and sizes; "the best away offer". Of a sell the offers are bids.
pub record Crossing : Type 0 where
  pub sell : ℕ
  pub size : ℕ
  pub prices : List ℕ
  pub sizes : List ℕ
  pub away : Mills

-- Below, `bought` is true for the bid, as in the quote check: "Sell quotes mirror this."
abbrev pub is_bought : Crossing → Bool
is_bought c = not (is_yes c.sell)

-- the price of the side that crosses
abbrev pub crossing_price : Bool → Mills → Mills → Mills
crossing_price bought bid offer = cond bought bid offer

-- "all prices 1 to 1,000,000,000"
abbrev pub is_price : ℕ → Bool
is_price p = within 1 1000000000 p

-- "sizes of offers and bid 1 to 1,000,000"
abbrev pub is_size : ℕ → Bool
is_size n = within 1 1000000 n

-- "by strictly rising price", falling for a sell: the next price is past this one, and not at it
abbrev pub leads : Bool → ℕ → List ℕ → Bool
leads bought p [] = true
leads bought p (q ∷ ps) = not (at_or_past bought p q)

unfoldable pub in_sequence : Bool → List ℕ → Bool
in_sequence bought [] = true
in_sequence bought (p ∷ ps) = leads bought p ps && in_sequence bought ps

-- the list but for its length
abbrev pub list_holds : Bool → List ℕ → List ℕ → Bool
list_holds bought prices sizes = all is_price prices && (all is_size sizes && in_sequence bought prices)

-- "up to 64 resting offers", each with its price and its size; `room` fills are lent, "one for each offer"
unfoldable pub are_bad_lengths : ℕ → List ℕ → List ℕ → Bool
are_bad_lengths room prices sizes = not (eqb (length prices) (length sizes)) || (ltb 64 (length prices) || ltb room (length prices))

-- "36 for a list too long or out of sequence, or any of these prices or sizes outside its limits"; "away 0 if missing". The price of the quote itself has passed 11.
unfoldable pub is_bad_crossing : ℕ → Crossing → Bool
is_bad_crossing room c =
    are_bad_lengths room c.prices c.sizes
    || (not (list_holds (is_bought c) c.prices c.sizes) || (not (is_size c.size) || not (is_missing c.away || is_price c.away.0)))

-- "at prices not above the bid or the away offer"; "A missing away offer sets no bound". `price` is the crossing side's.
unfoldable pub may_fill : Bool → Mills → Mills → ℕ → Bool
may_fill bought price away p = at_or_past bought price.0 p && (is_missing away || at_or_past bought away.0 p)

-- what one offer fills of a size
abbrev pub fill_of : (ℕ → Bool) → ℕ → ℕ → ℕ → ℕ
fill_of may size p n = cond (may p) (min size n) 0

-- "fill lowest first": the fills, one for each offer, each of what those before it left of the size
unfoldable pub fills_of : (ℕ → Bool) → ℕ → List ℕ → List ℕ → List ℕ
fills_of may size [] sizes = []
fills_of may size (p ∷ prices) [] = []
fills_of may size (p ∷ prices) (n ∷ sizes) = fill_of may size p n ∷ fills_of may (size - fill_of may size p n) prices sizes

abbrev pub crossing_fills : Mills → Crossing → List ℕ
crossing_fills price c = fills_of (may_fill (is_bought c) price c.away) c.size c.prices c.sizes

-- "The remainder is booked if the bid is below the away offer, else cancelled. A missing away offer [..] books."
unfoldable pub is_booked : Bool → Mills → Mills → Bool
is_booked bought price away = is_missing away || not (at_or_past bought price.0 away.0)

-- what a crossing quote gets: the lent numbers, and every number of the lent fills
pub record Crossed : Type 0 where
  pub answer : CrossingAnswer
  pub fills : List ℕ

-- where it is accepted: the fills, 0 where nothing is filled, and the remainder of the size booked or cancelled
unfoldable pub execution : ℕ → Mills → Crossing → Crossed
execution room price c =
    let fs = crossing_fills price c in
    let remainder = c.size - total fs in
    let booked = is_booked (is_bought c) price c.away in
    record { answer = record { number = 0; cancel = 0; executed = total fs; booked = cond booked remainder 0; cancelled = cond booked 0 remainder }; fills = fs ++ replicate (room - length fs) 0 }

-- "A quote that the quote check refuses or rejects gives that check's answer, all else zero."
abbrev pub unexecuted : ℕ → ℕ → CrossingAnswer
unexecuted n cancel = record { number = n; cancel = cancel; executed = 0; booked = 0; cancelled = 0 }

abbrev pub unfilled : ℕ → ℕ → ℕ → Crossed
unfilled room n cancel = record { answer = unexecuted n cancel; fills = replicate room 0 }

-- the quote check's numbers, and 36 "after 11 and before 20"
abbrev pub crossing_tests : Settings → Market → List ℕ → Mills → Mills → Bool → List (Bool × ℕ)
crossing_tests st m symbol bid offer bad =
    quote_refusals st m symbol bid offer ++ ((bad, 36) ∷ quote_rejections st m (series_of (parts_of symbol)) bid offer)

unfoldable pub crossing_number : Settings → Market → List ℕ → Mills → Mills → Bool → ℕ
crossing_number st m symbol bid offer bad = first_of (crossing_tests st m symbol bid offer bad)

-- the check on a crossing quote, with `room` fills lent. The cancel flag goes by the number, and so is the quote check's own wherever that check's number is given.
unfoldable pub check_crossing : Settings → Market → List ℕ → Mills → Mills → ℕ → Crossing → ℕ → Crossed
check_crossing st m symbol bid offer resting c room =
    let n = crossing_number st m symbol bid offer (is_bad_crossing room c) in
    cond (eqb n 0) (execution room (crossing_price (is_bought c) bid offer) c) (unfilled room n (cond (is_yes resting && is_rejected n) 1 0))
