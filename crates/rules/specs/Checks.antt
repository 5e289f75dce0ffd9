-- Document 01, Checks 20 to 24, with what document 02, S-4, says of orders with shares. `us` are the unit legs in the first walk's sequence.
use Rattle.std.specs.Prelude.{List, [], ◌∷◌, Bool, true, false, cond, not, ◌&&◌, ◌||◌, ℕ, ◌+◌, ◌-◌, ◌*◌, ◌/◌, min, max, eqb, leb, ltb}
use Rattle.rules.specs.declared.Mills.{Mills}
use Rattle.rules.specs.declared.Price.{Price}
use Rattle.rules.specs.declared.Terms.{Terms}
use Rattle.rules.specs.declared.Series.{Series}
use Rattle.rules.specs.declared.Leg.{Leg}
use Rattle.rules.specs.declared.Settings.{Settings}
use Rattle.rules.specs.declared.Market.{Market}
use Rattle.rules.specs.Lists.{same_bool, all, every}
use Rattle.rules.specs.Order.{is_yes, has_shares, is_simple, is_complex}
use Rattle.rules.specs.Class.{strike_of, shape_of}

abbrev pub is_market : Terms → Bool
is_market t = is_yes t.kind

abbrev pub is_limit : Terms → Bool
is_limit t = not (is_market t)

abbrev pub is_positive : Price → Bool
is_positive p = not p.received && ltb 0 p.size.0

abbrev pub is_negative : Price → Bool
is_negative p = p.received && ltb 0 p.size.0

-- "20 put (000, 002): simple buy of a put, price at or above the strike." The test of an amount paid, which quotes use too.
unfoldable pub put_test : Series → Mills → Bool
put_test s paid = not s.call && leb s.strike.0 paid.0

-- "21 call: simple buy of a call, price at or above the underlying's last value; not if that is missing, in an adjusted class, or in extended hours."
unfoldable pub call_test : Bool → Market → Series → Mills → Bool
call_test adjusted m s paid =
    every
    (s.call
    ∷ ltb 0 m.underlying.0
    ∷ leb m.underlying.0 paid.0
    ∷ not adjusted
    ∷ not (is_yes m.extended)
    ∷ [])

-- "20 and 21 skip market orders in the opening process."
abbrev pub is_skipped : Terms → Bool
is_skipped t = is_market t && is_yes t.opening

-- a simple buy that 20 and 21 do not skip, whose series and price pass the test
unfoldable pub simple_buy : (Series → Mills → Bool) → Terms → List Leg → Bool
simple_buy test t us =
    every
    (is_simple t us
    ∷ not (is_skipped t)
    ∷ not t.price.received
    ∷ all (λ u. u.bought && test u.series t.price.size) us
    ∷ [])

unfoldable pub sizes : List Leg → ℕ
sizes [] = 0
sizes (l ∷ ls) = l.size + sizes ls

-- "22 buy-buy/sell-sell (004): complex limit order, all legs bought (sold), and the amount paid (received) is below the sum of unit count sizes times the net increment." An amount of the other sign is below every sum.
unfoldable pub is_below : Bool → Price → ℕ → Bool
is_below bought p n = cond bought (is_negative p) (is_positive p) || ltb p.size.0 n

-- S-4: "check 22 needs shares and all options on one side"; no shares are on either
unfoldable pub shares_on : Bool → Terms → Bool
shares_on side t = not (has_shares t) || same_bool side t.shares.bought

-- S-4: "and its sum counts option legs only"
unfoldable pub same_side_below : Settings → Terms → List Leg → Bool → Bool
same_side_below st t us side =
    every
    (all (λ u. same_bool side u.bought) us
    ∷ shares_on side t
    ∷ is_below side t.price (sizes us * st.increment.0)
    ∷ [])

unfoldable pub buy_buy : Settings → Terms → List Leg → Bool
buy_buy st t us = every (is_complex t us ∷ is_limit t ∷ (same_side_below st t us true || same_side_below st t us false) ∷ [])

-- "23 debit/credit: complex limit order, a debit with negative price or a credit with positive; complex market order, only a credit with positive price." S-4: with shares it does "not apply".
unfoldable pub debit_credit : Terms → List Leg → ℕ → Bool
debit_credit t us class =
    every
    (is_complex t us
    ∷ not (has_shares t)
    ∷ (every (is_limit t ∷ eqb class 1 ∷ is_negative t.price ∷ []) || eqb class 2 && is_positive t.price)
    ∷ [])

-- "M is the strike difference (true butterfly: middle less lowest)." Only shapes 1, 2 and 4 are asked; of two strikes one difference is 0.
unfoldable pub maximum_of : List Leg → ℕ
maximum_of [] = 0
maximum_of (a ∷ []) = 0
maximum_of (a ∷ b ∷ []) = (strike_of a - strike_of b) + (strike_of b - strike_of a)
maximum_of (a ∷ m ∷ b ∷ []) = strike_of m - min (strike_of a) (strike_of b)
maximum_of (p ∷ q ∷ d ∷ c ∷ r) = strike_of d - strike_of c

-- "A is M times the percentage, over 10,000, rounded down, then raised to the preset minimum and lowered to the preset maximum."
unfoldable pub allowance : Settings → ℕ → ℕ
allowance st m = min st.presetmaximum.0 (max st.presetminimum.0 (m * st.percentage / 10000))

abbrev pub has_maximum : ℕ → Bool
has_maximum shape = eqb shape 1 || eqb shape 2 || eqb shape 4

-- "24 maximum value: shapes 1, 2, 4, and the price's size exceeds M plus A." S-4: with shares it does "not apply".
unfoldable pub maximum_value : Settings → Terms → List Leg → Bool
maximum_value st t us =
    let m = maximum_of us in
    every (not (has_shares t) ∷ has_maximum (shape_of us) ∷ ltb (m + allowance st m) t.price.size.0 ∷ [])
