-- Document 01, Number and its author, with document 02's 33: the order check's whole answer.
use Rattle.std.specs.Prelude.{List, [], ◌∷◌, Bool, cond, not, ◌&&◌, ◌||◌, ℕ, zero, suc, ◌*◌, ◌/◌, ◌%◌, length, eqb, ltb, ℤ}
use Rattle.rules.specs.declared.RawLeg.{RawLeg}
use Rattle.rules.specs.declared.Terms.{Terms}
use Rattle.rules.specs.declared.Order.{Order}
use Rattle.rules.specs.declared.Leg.{Leg}
use Rattle.rules.specs.declared.Settings.{Settings}
use Rattle.rules.specs.declared.Market.{Market}
use Rattle.rules.specs.declared.OrderAnswer.{OrderAnswer}
use Rattle.rules.specs.Limits.{within}
use Rattle.rules.specs.Lists.{same_bool, all, any, some_pair}
use Rattle.rules.specs.Symbol.{is_symbol}
use Rattle.rules.specs.Order.{is_yes, raw_legs, record_legs, terms_of, legs_of, units, is_simple}
use Rattle.rules.specs.Pairing.{by_strike, both_walks}
use Rattle.rules.specs.Class.{shape_of, class_of}
use Rattle.rules.specs.Checks.{is_positive, is_negative, put_test, call_test, simple_buy, buy_buy, debit_credit, maximum_value}
use Rattle.rules.specs.Market.{tick_distance, settings_hold, market_holds}

-- the first of the listed numbers whose test applies, 0 if none
unfoldable pub first_of : List (Bool × ℕ) → ℕ
first_of [] = 0
first_of (e ∷ es) = cond e.0 e.1 (first_of es)

-- the numbers of such a list
abbrev pub named : List (Bool × ℕ) → List ℕ
named [] = []
named (e ∷ es) = e.1 ∷ named es

-- "1 to 10,000 in size"
abbrev pub is_bad_count : RawLeg → Bool
is_bad_count r = not (within 1 10000 r.size)

-- the same root, type, expiry and strike
abbrev pub is_same_series : Leg → Leg → Bool
is_same_series a b =
    eqb a.root b.root
    && same_bool a.series.call b.series.call
    && eqb a.series.expiry b.series.expiry
    && eqb a.series.strike.0 b.series.strike.0

abbrev pub is_other_root : Leg → Leg → Bool
is_other_root a b = not (eqb a.root b.root)

-- "price too large, or a simple buy not above 0, or a simple sell not below"
unfoldable pub is_bad_price : Terms → List Leg → Bool
is_bad_price t ls =
    ltb 1000000000000 t.price.size.0
    || is_simple t ls && all (λ l. not (cond l.bought (is_positive t.price) (is_negative t.price))) ls

-- S-4: "up to 1,000,000 in size"
unfoldable pub is_bad_shares : Terms → Bool
is_bad_shares t = ltb 1000000 t.shares.size

-- "3 no leg or above 16; 4 a symbol or its parts outside the layout; 5 a count outside its limits; 6 a series twice; 7 roots differ; 8 price too large, or [..]"; "9 one outside its limits"; "10 a market value or phase outside its limits"; of S-4 "33 for a share count beyond the limit, tested after 8 and before 9". `n` is the number of legs.
abbrev pub refusals : Settings → Market → Terms → ℕ → List RawLeg → List (Bool × ℕ)
refusals st m t n rs =
    let ls = legs_of rs in
    (not (within 1 16 n), 3)
    ∷ (any (λ r. not (is_symbol r.symbol)) rs, 4)
    ∷ (any is_bad_count rs, 5)
    ∷ (some_pair is_same_series ls, 6)
    ∷ (some_pair is_other_root ls, 7)
    ∷ (is_bad_price t ls, 8)
    ∷ (is_bad_shares t, 33)
    ∷ (not (settings_hold st), 9)
    ∷ (not (market_holds m), 10)
    ∷ []

unfoldable pub refusal : Settings → Market → Terms → ℕ → List RawLeg → ℕ
refusal st m t n rs = first_of (refusals st m t n rs)

-- "Checks, each with its own switch": 20 to 25, of unit legs and class
abbrev pub rejections : Settings → Market → Terms → List Leg → ℕ → List (Bool × ℕ)
rejections st m t us class =
    (is_yes st.check20 && simple_buy put_test t us, 20)
    ∷ (is_yes st.check21 && simple_buy (call_test (is_yes st.adjusted) m) t us, 21)
    ∷ (is_yes st.check22 && buy_buy st t us, 22)
    ∷ (is_yes st.check23 && debit_credit t us class, 23)
    ∷ (is_yes st.check24 && maximum_value st t us, 24)
    ∷ (is_yes st.check25 && tick_distance st m t us, 25)
    ∷ []

unfoldable pub rejection : Settings → Market → Terms → List Leg → ℕ → ℕ
rejection st m t us class = first_of (rejections st m t us class)

-- the answer to a valid order (document 01's term: not refused), of its legs in the first walk's sequence
unfoldable pub judged : Settings → Market → Terms → List Leg → OrderAnswer
judged st m t ls =
    let us = units ls in
    let w = both_walks (is_yes st.european) ls in
    let class = class_of us w in
    record { number = rejection st m t us class; class = class; shape = shape_of us; pairings = length w.pairs }

-- "1 to 12 return zeros elsewhere"
abbrev pub refused : ℕ → OrderAnswer
refused n = record { number = n; class = 0; shape = 0; pairings = 0 }

-- by the number of the refusal, 0 for a valid order
unfoldable pub outcome : ℕ → OrderAnswer → OrderAnswer
outcome zero answer = answer
outcome (suc n) answer = refused (suc n)

-- the order check on `n` legs
unfoldable pub check_legs : Settings → Market → Terms → ℕ → List RawLeg → OrderAnswer
check_legs st m t n rs = outcome (refusal st m t n rs) (judged st m t (by_strike (legs_of rs)))

-- the order check on the order record
unfoldable pub check_order : Settings → Market → Order → OrderAnswer
check_order st m o = check_legs st m o.terms o.len (record_legs o)

-- "1 symbol bytes are not 21 per count", and counts are 8 bytes each ("a broken one gives 1")
abbrev pub are_whole : List ℕ → List ℕ → Bool
are_whole symbols counts = eqb (length counts % 8) 0 && eqb (length symbols) (21 * (length counts / 8))

-- the order check on the host's slices
unfoldable pub check_slices : Settings → Market → Terms → List ℕ → List ℕ → OrderAnswer
check_slices st m t symbols counts =
    let n = length counts / 8 in
    cond (are_whole symbols counts) (check_legs st m t n (raw_legs n symbols counts)) (refused 1)

-- what the host hands in beside the two slices
pub record Inputs : Type 0 where
  pub settings : Settings
  pub market : Market
  pub price : ℤ
  pub kind : ℕ
  pub stop : ℕ
  pub manual : ℕ
  pub opening : ℕ
  pub shares : ℤ

-- "The order check has no memory; an arrival in demand 3 is one call of it": the order check on symbol bytes and count bytes
abbrev pub answer_to : Inputs → List ℕ → List ℕ → OrderAnswer
answer_to a symbols counts = check_slices a.settings a.market (terms_of a.price a.kind a.stop a.manual a.opening a.shares) symbols counts
