-- Document 01, Order, and document 02, S-4: the shares attached.
use Rattle.std.specs.Prelude.{◌≡◌, List, [], ◌∷◌, ◌++◌, map, Bool, true, false, cond, not, ◌&&◌, ℕ, zero, suc, ◌+◌, ◌-◌, ◌*◌, ◌/◌, ◌%◌, ◌^◌, length, take, drop, eqb, ltb, ℤ, pos, negsuc, neg_ℤ, ◌+ℤ◌, ◌*ℤ◌}
use Rattle.rules.specs.declared.RawLeg.{RawLeg}
use Rattle.rules.specs.declared.Price.{Price}
use Rattle.rules.specs.declared.Shares.{Shares}
use Rattle.rules.specs.declared.Terms.{Terms}
use Rattle.rules.specs.declared.Order.{Order}
use Rattle.rules.specs.declared.Series.{Series}
use Rattle.rules.specs.declared.Leg.{Leg}
use Rattle.rules.specs.declared.SymbolParts.{SymbolParts}
use Rattle.rules.specs.Symbol.{parts_of}

-- "0 is limit, or no, any other value market, or yes."
abbrev pub is_yes : ℕ → Bool
is_yes n = not (eqb n 0)

-- "counts there are 8 bytes each, two's complement, low byte first"
unfoldable pub word : List ℕ → ℕ
word [] = 0
word (b ∷ bs) = b + 256 * word bs

-- "A leg is 21 symbol bytes, whatever they hold, with the count at the same place"; the count is "positive to buy, negative to sell"
unfoldable pub raw_leg : List ℕ → List ℕ → RawLeg
raw_leg symbol count =
    let w = word count in
    record { bought = ltb w (2 ^ 63); size = cond (ltb w (2 ^ 63)) w (2 ^ 64 - w); symbol = symbol }

-- one leg as the host lends it; "in another sequence of the legs, whole legs change places"
pub record Lent : Type 0 where
  pub symbol : List ℕ
  pub count : List ℕ

abbrev pub symbols_of : List Lent → List ℕ
symbols_of [] = []
symbols_of (l ∷ ls) = l.symbol ++ symbols_of ls

abbrev pub counts_of : List Lent → List ℕ
counts_of [] = []
counts_of (l ∷ ls) = l.count ++ counts_of ls

abbrev pub lent_legs : List Lent → List RawLeg
lent_legs ls = map (λ l. raw_leg l.symbol l.count) ls

-- the first `n` legs of "symbols end to end, and one signed count each"
unfoldable pub raw_legs : ℕ → List ℕ → List ℕ → List RawLeg
raw_legs zero symbols counts = []
raw_legs (suc n) symbols counts = raw_leg (take 21 symbols) (take 8 counts) ∷ raw_legs n (drop 21 symbols) (drop 8 counts)

-- "An order record carries up to 16 legs"
abbrev pub record_legs : Order → List RawLeg
record_legs o = take o.len o.legs

-- `o` is the record of the legs `rs`, `n` in number, with the terms `t`
pub record Recorded (n : ℕ) (rs : List RawLeg) (t : Terms) (o : Order) : Type 0 where
  pub legs : record_legs o ≡ rs
  pub len : o.len ≡ n
  pub terms : o.terms ≡ t

-- a signed number's size, and whether it is below zero
abbrev pub size_of : ℤ → ℕ
size_of (pos n) = n
size_of (negsuc n) = suc n

abbrev pub is_below_zero : ℤ → Bool
is_below_zero (pos n) = false
is_below_zero (negsuc n) = true

-- "The price is for one unit: positive paid (net debit), negative received (net credit)"
unfoldable pub price_of : ℤ → Price
price_of z = record { received = is_below_zero z; size = record { 0 = size_of z } }

-- the integer that a price stands for
abbrev pub signed_price : Price → ℤ
signed_price p = cond p.received (neg_ℤ (pos p.size.0)) (pos p.size.0)

-- S-4: "a signed share count, 0 for none", which as a leg's count is "positive to buy, negative to sell"
unfoldable pub shares_of : ℤ → Shares
shares_of z = record { bought = not (is_below_zero z); size = size_of z }

-- the integer that a share count stands for
abbrev pub signed_shares : Shares → ℤ
signed_shares s = cond s.bought (pos s.size) (neg_ℤ (pos s.size))

-- what an order says beside its legs, as the host hands it in
abbrev pub terms_of : ℤ → ℕ → ℕ → ℕ → ℕ → ℤ → Terms
terms_of price kind stop manual opening shares =
    record { price = price_of price; kind = kind; stop = stop; manual = manual; opening = opening; shares = shares_of shares }

-- a leg as read: the series is the symbol's type, expiry and strike; the expiry's number is in the order of dates
abbrev pub series_of : SymbolParts → Series
series_of p = record { call = eqb p.right 67; expiry = p.year * 10000 + p.month * 100 + p.day; strike = p.strike }

unfoldable pub leg_of : RawLeg → Leg
leg_of r = let p = parts_of r.symbol in record { root = p.root; series = series_of p; bought = r.bought; size = r.size }

unfoldable pub legs_of : List RawLeg → List Leg
legs_of rs = map leg_of rs

-- what an array holds where no leg is written
abbrev pub no_raw_leg : RawLeg
no_raw_leg = record { bought = false; size = 0; symbol = [] }

abbrev pub no_leg : Leg
no_leg = record { root = 0; series = record { call = false; expiry = 0; strike = record { 0 = 0 } }; bought = false; size = 0 }

-- "Unit counts are the counts divided by their greatest common divisor." By remainders; `n` bounds the steps, and one for each unit of `b` is enough.
unfoldable pub gcd_within : ℕ → ℕ → ℕ → ℕ
gcd_within zero a b = a
gcd_within (suc n) a zero = a
gcd_within (suc n) a (suc b) = gcd_within n (suc b) (a % suc b)

unfoldable pub gcd : ℕ → ℕ → ℕ
gcd a b = gcd_within b a b

unfoldable pub common_divisor : List Leg → ℕ
common_divisor [] = 0
common_divisor (l ∷ ls) = gcd l.size (common_divisor ls)

abbrev pub divided : ℕ → Leg → Leg
divided g l = record { root = l.root; series = l.series; bought = l.bought; size = l.size / g }

-- the legs with their unit counts
unfoldable pub units : List Leg → List Leg
units ls = map (divided (common_divisor ls)) ls

-- S-4: shares are attached
unfoldable pub has_shares : Terms → Bool
has_shares t = is_yes t.shares.size

-- "One leg is a simple order, two or more a complex order."; with shares "Such an order is complex even with one option leg" (S-4). An order of no leg, which is refused, counts as complex.
unfoldable pub is_simple : Terms → List Leg → Bool
is_simple t ls = not (has_shares t) && eqb (length ls) 1

abbrev pub is_complex : Terms → List Leg → Bool
is_complex t ls = not (is_simple t ls)

-- "Net worth under a premium table is the sum of unit count times premium, signs kept."
abbrev pub signed : Leg → ℤ
signed l = cond l.bought (pos l.size) (neg_ℤ (pos l.size))

unfoldable pub worth_of : (Series → ℕ) → List Leg → ℤ
worth_of premium [] = pos 0
worth_of premium (l ∷ ls) = signed l *ℤ pos (premium l.series) +ℤ worth_of premium ls

unfoldable pub net_worth : (Series → ℕ) → List Leg → ℤ
net_worth premium ls = worth_of premium (units ls)
