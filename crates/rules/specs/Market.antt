-- Document 01, Market and quote checks: the market's values, check 25, and the limits of settings and market.
use Rattle.std.specs.Prelude.{◌≡◌, List, [], ◌∷◌, Bool, false, cond, not, ◌&&◌, ◌||◌, ℕ, ◌+◌, length, get_or, eqb, leb, ltb}
use Rattle.rules.specs.declared.Mills.{Mills}
use Rattle.rules.specs.declared.Ticks.{Ticks}
use Rattle.rules.specs.declared.Terms.{Terms}
use Rattle.rules.specs.declared.Leg.{Leg}
use Rattle.rules.specs.declared.Settings.{Settings}
use Rattle.rules.specs.declared.Market.{Market}
use Rattle.rules.specs.Limits.{within}
use Rattle.rules.specs.Lists.{all, every}
use Rattle.rules.specs.Quantities.{distance}
use Rattle.rules.specs.Order.{is_yes, is_simple}
use Rattle.rules.specs.Checks.{is_limit}

-- "0 missing"
abbrev pub is_missing : Mills → Bool
is_missing x = eqb x.0 0

-- "NBBO unavailable: both sides missing"
abbrev pub is_unavailable : Market → Bool
is_unavailable m = is_missing m.nbb && is_missing m.nbo

abbrev pub is_present : Market → Bool
is_present m = not (is_missing m.nbb) && not (is_missing m.nbo)

-- "locked: equal and present"
abbrev pub is_locked : Market → Bool
is_locked m = is_present m && eqb m.nbb.0 m.nbo.0

-- "crossed: both present, NBB above NBO"
abbrev pub is_crossed : Market → Bool
is_crossed m = is_present m && ltb m.nbo.0 m.nbb.0

-- "locked, crossed or unavailable"
unfoldable pub is_unusable : Market → Bool
is_unusable m = is_locked m || is_crossed m || is_unavailable m

-- The prices that a buy (`bought` true) meets, or a sell: the national best and the own price of the other side.
abbrev pub national : Bool → Market → Mills
national bought m = cond bought m.nbo m.nbb

abbrev pub own : Bool → Market → Mills
own bought m = cond bought m.ownoffer m.ownbid

-- `x` is at least `y` for a buy; "A sell mirrors this"
abbrev pub at_or_past : Bool → ℕ → ℕ → Bool
at_or_past bought x y = cond bought (leb y x) (leb x y)

-- "pre-opening and open elsewhere, the NBO, but the close if the NBBO is locked, crossed or unavailable, or the NBO alone is missing and the close is at least the NBB"
unfoldable pub elsewhere_reference : Bool → Market → Mills
elsewhere_reference bought m =
    cond (is_unusable m || is_missing (national bought m) && at_or_past bought m.close.0 (national (not bought) m).0) m.close (national bought m)

-- "Buy reference: [..]; pre-opening otherwise, the close. Open: NBO, or own offer if the NBBO is locked, crossed or unavailable. Halt: NBO."
unfoldable pub reference : Bool → Market → Mills
reference bought m =
    cond (eqb m.phase 0)
    (cond (is_yes m.elsewhere) (elsewhere_reference bought m) m.close)
    (cond (eqb m.phase 1 && is_unusable m) (own bought m) (national bought m))

-- "the distance (ATD) set for the reference's band (below 1,000; to 2,999; to 9,999; from 10,000)"
unfoldable pub acceptable_ticks : Settings → Mills → Ticks
acceptable_ticks st r =
    cond (ltb r.0 1000) st.atd0 (cond (ltb r.0 3000) st.atd1 (cond (ltb r.0 10000) st.atd2 st.atd3))

-- "two ticks (reference below 3,000, and from there)"
unfoldable pub tick_at : Settings → Mills → Mills
tick_at st r = cond (ltb r.0 3000) st.lowtick st.hightick

-- "a buy more than D above its reference, or a sell whose amount received is more than D below"
abbrev pub is_beyond : Bool → ℕ → ℕ → ℕ → Bool
is_beyond bought amount reference d = cond bought (ltb (reference + d) amount) (ltb (amount + d) reference)

-- D is the distance set for the reference's band, "2 to 1,000 ticks, times the tick at the reference"
unfoldable pub limit_distance : Settings → Mills → Mills
limit_distance st r = distance (acceptable_ticks st r) (tick_at st r)

-- a leg whose amount is beyond its reference. "Reference missing: no check."
unfoldable pub is_too_far : Settings → Market → Terms → Leg → Bool
is_too_far st m t u =
    let r = reference u.bought m in not (is_missing r) && is_beyond u.bought t.price.size.0 r.0 (limit_distance st r).0

-- "25 tick distance (002), simple limit orders without stop or manual flag"
unfoldable pub tick_distance : Settings → Market → Terms → List Leg → Bool
tick_distance st m t us =
    every
    (is_simple t us
    ∷ is_limit t
    ∷ not (is_yes t.stop)
    ∷ not (is_yes t.manual)
    ∷ all (is_too_far st m t) us
    ∷ [])

-- the settings that numbers say, in the sequence of the host's record; a number that is not there is 0
abbrev pub settings_from : List ℕ → Settings
settings_from ns =
    record {
      check20 = get_or ns 0 0;
      check21 = get_or ns 1 0;
      check22 = get_or ns 2 0;
      check23 = get_or ns 3 0;
      check24 = get_or ns 4 0;
      check25 = get_or ns 5 0;
      check26 = get_or ns 6 0;
      lowtick = record { 0 = get_or ns 7 0 };
      hightick = record { 0 = get_or ns 8 0 };
      increment = record { 0 = get_or ns 9 0 };
      atd0 = record { 0 = get_or ns 10 0 };
      atd1 = record { 0 = get_or ns 11 0 };
      atd2 = record { 0 = get_or ns 12 0 };
      atd3 = record { 0 = get_or ns 13 0 };
      percentage = get_or ns 14 0;
      presetminimum = record { 0 = get_or ns 15 0 };
      presetmaximum = record { 0 = get_or ns 16 0 };
      setticks = record { 0 = get_or ns 17 0 };
      adjusted = get_or ns 18 0;
      european = get_or ns 19 0;
    }

-- settings as the host hands them in: twenty numbers; any other number of them counts as zeros, which are outside the limits
unfoldable pub settings_of : List ℕ → Settings
settings_of ns = settings_from (cond (eqb (length ns) 20) ns [])

-- the market that numbers say, in the sequence of the host's record; a number that is not there is 0
abbrev pub market_from : List ℕ → Market
market_from ns =
    record {
      phase = get_or ns 0 0;
      elsewhere = get_or ns 1 0;
      extended = get_or ns 2 0;
      underlying = record { 0 = get_or ns 3 0 };
      nbb = record { 0 = get_or ns 4 0 };
      nbo = record { 0 = get_or ns 5 0 };
      ownbid = record { 0 = get_or ns 6 0 };
      ownoffer = record { 0 = get_or ns 7 0 };
      close = record { 0 = get_or ns 8 0 };
    }

-- a market as the host hands it in: nine numbers; any other number of them counts as the phase 3, which is outside the limits
unfoldable pub market_of : List ℕ → Market
market_of ns = market_from (cond (eqb (length ns) 9) ns (3 ∷ []))

-- "Settings: [..] two ticks [..] and the net increment 1 to 1,000; the four ATDs 2 to 1,000; percentage 0 to 10,000; presets 0 to 1,000,000, minimum not above maximum; set ticks 0 to 1,000"
unfoldable pub settings_hold : Settings → Bool
settings_hold st =
    every
    (within 1 1000 st.lowtick.0
    ∷ within 1 1000 st.hightick.0
    ∷ within 1 1000 st.increment.0
    ∷ within 2 1000 st.atd0.0
    ∷ within 2 1000 st.atd1.0
    ∷ within 2 1000 st.atd2.0
    ∷ within 2 1000 st.atd3.0
    ∷ within 0 10000 st.percentage
    ∷ within 0 1000000 st.presetminimum.0
    ∷ within 0 1000000 st.presetmaximum.0
    ∷ leb st.presetminimum.0 st.presetmaximum.0
    ∷ within 0 1000 st.setticks.0
    ∷ [])

-- "phase (0 pre-opening, 1 open, 2 halt)"; "underlying, NBB and NBO (national best bid and offer), own bid and offer, previous close: 0 to 1,000,000,000"
unfoldable pub market_holds : Market → Bool
market_holds m =
    every
    (within 0 2 m.phase
    ∷ within 0 1000000000 m.underlying.0
    ∷ within 0 1000000000 m.nbb.0
    ∷ within 0 1000000000 m.nbo.0
    ∷ within 0 1000000000 m.ownbid.0
    ∷ within 0 1000000000 m.ownoffer.0
    ∷ within 0 1000000000 m.close.0
    ∷ [])

-- A slice of another length has a value outside its limits, whatever it holds.
pub record OtherLengths : Type 0 where
  pub settings : (ns : List ℕ) → (length ns ≡ 20 → ⊥) → settings_hold (settings_of ns) ≡ false
  pub market : (ns : List ℕ) → (length ns ≡ 9 → ⊥) → market_holds (market_of ns) ≡ false
