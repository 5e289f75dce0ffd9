-- The order check with every clause of document 02's S-4 left out: what an order without shares gets, and what was answered before there were shares. A definition that has no such clause is used as it stands in its own section. No code follows this file; the theorem at its end is all that uses it, beside the list of the numbers that a message can get.
use Rattle.std.specs.Prelude.{◌≡◌, List, [], ◌∷◌, Bool, true, false, cond, not, ◌&&◌, ◌||◌, ℕ, ◌+◌, ◌*◌, ◌/◌, length, eqb, ltb, pos}
use Rattle.rules.specs.declared.Mills.{Mills}
use Rattle.rules.specs.declared.RawLeg.{RawLeg}
use Rattle.rules.specs.declared.Terms.{Terms}
use Rattle.rules.specs.declared.Order.{Order}
use Rattle.rules.specs.declared.Series.{Series}
use Rattle.rules.specs.declared.Leg.{Leg}
use Rattle.rules.specs.declared.Settings.{Settings}
use Rattle.rules.specs.declared.Market.{Market}
use Rattle.rules.specs.declared.OrderAnswer.{OrderAnswer}
use Rattle.rules.specs.declared.Tally.{Tally}
use Rattle.rules.specs.Limits.{within}
use Rattle.rules.specs.Lists.{same_bool, all, any, every, some_pair}
use Rattle.rules.specs.Symbol.{is_symbol}
use Rattle.rules.specs.Order.{is_yes, raw_legs, record_legs, terms_of, legs_of, units}
use Rattle.rules.specs.Pairing.{by_strike, both_walks}
use Rattle.rules.specs.Class.{shape_of, class_of}
use Rattle.rules.specs.Checks.{is_limit, is_positive, is_negative, put_test, call_test, is_skipped, sizes, is_below, maximum_of, allowance, has_maximum}
use Rattle.rules.specs.Market.{is_too_far, settings_hold, market_holds}
use Rattle.rules.specs.Numbers.{first_of, is_bad_count, is_same_series, is_other_root, refused, outcome, check_order, are_whole, Inputs, answer_to}
use Rattle.rules.specs.Fix.{message_refusal, MessageInputs, SaidOrder, order_of, check_fix}
use Rattle.rules.specs.Pair.{PairOrder, paired, check_pair}
use Rattle.rules.specs.Tally.{order, message, tallied, check_tallied}

-- "One leg is a simple order, two or more a complex order."
abbrev pub is_one_leg : List Leg → Bool
is_one_leg ls = eqb (length ls) 1

-- document 01, 20 and 21
abbrev pub one_leg_buy : (Series → Mills → Bool) → Terms → List Leg → Bool
one_leg_buy test t us =
    every
    (is_one_leg us
    ∷ not (is_skipped t)
    ∷ not t.price.received
    ∷ all (λ u. u.bought && test u.series t.price.size) us
    ∷ [])

-- document 01, 22
abbrev pub options_below : Settings → Terms → List Leg → Bool → Bool
options_below st t us side = all (λ u. same_bool side u.bought) us && is_below side t.price (sizes us * st.increment.0)

abbrev pub options_buy_buy : Settings → Terms → List Leg → Bool
options_buy_buy st t us = every (not (is_one_leg us) ∷ is_limit t ∷ (options_below st t us true || options_below st t us false) ∷ [])

-- document 01, 23
abbrev pub options_debit_credit : Terms → List Leg → ℕ → Bool
options_debit_credit t us class =
    not (is_one_leg us) && (every (is_limit t ∷ eqb class 1 ∷ is_negative t.price ∷ []) || eqb class 2 && is_positive t.price)

-- document 01, 24
abbrev pub options_maximum : Settings → Terms → List Leg → Bool
options_maximum st t us = let m = maximum_of us in has_maximum (shape_of us) && ltb (m + allowance st m) t.price.size.0

-- document 01, 25
abbrev pub one_leg_distance : Settings → Market → Terms → List Leg → Bool
one_leg_distance st m t us =
    every
    (is_one_leg us
    ∷ is_limit t
    ∷ not (is_yes t.stop)
    ∷ not (is_yes t.manual)
    ∷ all (is_too_far st m t) us
    ∷ [])

-- document 01, 8
abbrev pub is_wrong_price : Terms → List Leg → Bool
is_wrong_price t ls =
    ltb 1000000000000 t.price.size.0
    || is_one_leg ls && all (λ l. not (cond l.bought (is_positive t.price) (is_negative t.price))) ls

-- document 01, 3 to 10
abbrev pub option_refusals : Settings → Market → Terms → ℕ → List RawLeg → List (Bool × ℕ)
option_refusals st m t n rs =
    let ls = legs_of rs in
    (not (within 1 16 n), 3)
    ∷ (any (λ r. not (is_symbol r.symbol)) rs, 4)
    ∷ (any is_bad_count rs, 5)
    ∷ (some_pair is_same_series ls, 6)
    ∷ (some_pair is_other_root ls, 7)
    ∷ (is_wrong_price t ls, 8)
    ∷ (not (settings_hold st), 9)
    ∷ (not (market_holds m), 10)
    ∷ []

-- document 01, 20 to 25
abbrev pub option_rejections : Settings → Market → Terms → List Leg → ℕ → List (Bool × ℕ)
option_rejections st m t us class =
    (is_yes st.check20 && one_leg_buy put_test t us, 20)
    ∷ (is_yes st.check21 && one_leg_buy (call_test (is_yes st.adjusted) m) t us, 21)
    ∷ (is_yes st.check22 && options_buy_buy st t us, 22)
    ∷ (is_yes st.check23 && options_debit_credit t us class, 23)
    ∷ (is_yes st.check24 && options_maximum st t us, 24)
    ∷ (is_yes st.check25 && one_leg_distance st m t us, 25)
    ∷ []

abbrev pub options_judged : Settings → Market → Terms → List Leg → OrderAnswer
options_judged st m t ls =
    let us = units ls in
    let w = both_walks (is_yes st.european) ls in
    let class = class_of us w in
    record { number = first_of (option_rejections st m t us class); class = class; shape = shape_of us; pairings = length w.pairs }

-- the order check on `n` legs
unfoldable pub check_options : Settings → Market → Terms → ℕ → List RawLeg → OrderAnswer
check_options st m t n rs = outcome (first_of (option_refusals st m t n rs)) (options_judged st m t (by_strike (legs_of rs)))

-- the order check on the host's slices
unfoldable pub check_option_slices : Settings → Market → Terms → List ℕ → List ℕ → OrderAnswer
check_option_slices st m t symbols counts =
    let n = length counts / 8 in
    cond (are_whole symbols counts) (check_options st m t n (raw_legs n symbols counts)) (refused 1)

-- by what the host hands in, whatever its share count
abbrev pub option_answer : Inputs → List ℕ → List ℕ → OrderAnswer
option_answer a symbols counts = check_option_slices a.settings a.market (terms_of a.price a.kind a.stop a.manual a.opening a.shares) symbols counts

-- the order that a message says
abbrev pub options_said : MessageInputs → SaidOrder → OrderAnswer
options_said a o = check_options a.settings a.market (terms_of o.price o.kind a.stop a.manual a.opening (pos 0)) (length o.legs) o.legs

-- an order of a pair
abbrev pub number_of_options : Settings → Market → PairOrder → ℕ
number_of_options st m o = (check_option_slices st m (terms_of o.price o.kind o.stop o.manual o.opening o.shares) o.symbols o.counts).number

-- A share count of 0 moves no answer: of an order record, of slices, of a pair, whatever they hold, and of every message, tallied or not.
pub record NothingMoved : Type 0 where
  pub order_record : (st : Settings) (m : Market) (o : Order) → o.terms.shares.size ≡ 0 → check_order st m o ≡ check_options st m o.terms o.len (record_legs o)
  pub slices : (a : Inputs) (symbols counts : List ℕ) → a.shares ≡ pos 0 → answer_to a symbols counts ≡ option_answer a symbols counts
  pub messages : (a : MessageInputs) (m : List ℕ) → check_fix a m ≡ outcome (message_refusal m) (options_said a (order_of m))
  pub pairs : (st : Settings) (m : Market) (unpaired : ℕ) (agency contra : PairOrder) → agency.shares ≡ pos 0 → contra.shares ≡ pos 0
      → check_pair st m unpaired agency contra ≡ paired unpaired (number_of_options st m agency) (number_of_options st m contra)
  pub tallies : (t : Tally) (a : Inputs) (symbols counts : List ℕ) → a.shares ≡ pos 0 → check_tallied t (order a symbols counts) ≡ tallied t (option_answer a symbols counts)
  pub tallied_messages : (t : Tally) (a : MessageInputs) (m : List ℕ) → check_tallied t (message a m) ≡ tallied t (outcome (message_refusal m) (options_said a (order_of m)))
