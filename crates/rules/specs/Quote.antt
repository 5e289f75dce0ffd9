-- Document 01, Market and quote checks: the quote check.
use Rattle.std.specs.Prelude.{List, [], ◌∷◌, Bool, true, false, cond, not, ◌&&◌, ◌||◌, ℕ, zero, suc, length, eqb, ltb}
use Rattle.rules.specs.declared.Mills.{Mills}
use Rattle.rules.specs.declared.Series.{Series}
use Rattle.rules.specs.declared.Settings.{Settings}
use Rattle.rules.specs.declared.Market.{Market}
use Rattle.rules.specs.declared.QuoteAnswer.{QuoteAnswer}
use Rattle.rules.specs.Limits.{within}
use Rattle.rules.specs.Quantities.{distance}
use Rattle.rules.specs.Symbol.{parts_of, is_symbol}
use Rattle.rules.specs.Order.{is_yes, series_of}
use Rattle.rules.specs.Checks.{put_test, call_test}
use Rattle.rules.specs.Market.{is_missing, is_unusable, national, own, at_or_past, tick_at, is_beyond, settings_hold, market_holds}
use Rattle.rules.specs.Numbers.{first_of}

-- "26 quote inversion: bid against NBO"; "NBBO locked, crossed or unavailable: own offer instead". `bought` is true for the bid; "The offer mirrors this."
unfoldable pub comparison : Bool → Market → Mills
comparison bought m = cond (is_unusable m) (own bought m) (national bought m)

-- the set ticks "(times the tick at that price)"
unfoldable pub set_distance : Settings → Mills → Mills
set_distance st p = distance st.setticks (tick_at st p)

-- "rejected if own offer equals NBO and bid exceeds it by more than the set ticks [..], or if not equal and bid is at or above it." The own offer is the comparison price itself where it stands in for the NBO: "with the set ticks". "A side whose comparison price is missing is skipped"
unfoldable pub is_inverted : Bool → Settings → Market → Mills → Bool
is_inverted bought st m price =
    let p = comparison bought m in
    not (is_missing p)
    && cond (eqb (own bought m).0 p.0) (is_beyond bought price.0 p.0 (set_distance st p).0) (at_or_past bought price.0 p.0)

-- "nothing of 26 applies in a halt, or pre-opening when not open elsewhere"
abbrev pub is_quoting : Market → Bool
is_quoting m = eqb m.phase 1 || eqb m.phase 0 && is_yes m.elsewhere

unfoldable pub quote_inversion : Settings → Market → Mills → Mills → Bool
quote_inversion st m bid offer = is_quoting m && (is_inverted true st m bid || is_inverted false st m offer)

-- "11 quote bid or offer outside 1 to 1,000,000,000, or bid not below offer"
unfoldable pub is_bad_quote : Mills → Mills → Bool
is_bad_quote bid offer = not (within 1 1000000000 bid.0) || not (within 1 1000000000 offer.0) || not (ltb bid.0 offer.0)

-- "1 symbol bytes are not 21 per count (quote, reader: not 21)"; 4, 9, 10 as for orders; 11
abbrev pub quote_refusals : Settings → Market → List ℕ → Mills → Mills → List (Bool × ℕ)
quote_refusals st m symbol bid offer =
    (not (eqb (length symbol) 21), 1)
    ∷ (not (is_symbol symbol), 4)
    ∷ (not (settings_hold st), 9)
    ∷ (not (market_holds m), 10)
    ∷ (is_bad_quote bid offer, 11)
    ∷ []

unfoldable pub quote_refusal : Settings → Market → List ℕ → Mills → Mills → ℕ
quote_refusal st m symbol bid offer = first_of (quote_refusals st m symbol bid offer)

-- "20 and 21 test the bid.": by the tests that orders use
abbrev pub quote_rejections : Settings → Market → Series → Mills → Mills → List (Bool × ℕ)
quote_rejections st m s bid offer =
    (is_yes st.check20 && put_test s bid, 20)
    ∷ (is_yes st.check21 && call_test (is_yes st.adjusted) m s bid, 21)
    ∷ (is_yes st.check26 && quote_inversion st m bid offer, 26)
    ∷ []

unfoldable pub quote_rejection : Settings → Market → Series → Mills → Mills → ℕ
quote_rejection st m s bid offer = first_of (quote_rejections st m s bid offer)

-- "Its answer is the number and the resting-quote cancel flag, set if 20, 21 or 26 rejects a quote with one resting, else clear."
abbrev pub answered_quote : ℕ → ℕ → QuoteAnswer
answered_quote resting n = record { number = n; cancel = cond (is_yes resting && not (eqb n 0)) 1 0 }

-- by the number of the refusal, 0 for a quote that is not refused
unfoldable pub quote_outcome : ℕ → QuoteAnswer → QuoteAnswer
quote_outcome zero answer = answer
quote_outcome (suc n) answer = record { number = suc n; cancel = 0 }

-- the quote check: a symbol, a bid, an offer and a mark for a resting quote
unfoldable pub check_quote : Settings → Market → List ℕ → Mills → Mills → ℕ → QuoteAnswer
check_quote st m symbol bid offer resting =
    quote_outcome (quote_refusal st m symbol bid offer) (answered_quote resting (quote_rejection st m (series_of (parts_of symbol)) bid offer))
