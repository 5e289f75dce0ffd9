-- Valid orders (document 01's term: not refused), as inner functions ask for them: what the refusals leave, within the bounds that keys, sums and products need. A help to the sections of document 01, of no section itself.
use Rattle.std.specs.Prelude.{◌≡◌, true, false, List, ◌≤◌, length}
use Rattle.rules.specs.declared.Series.{Series}
use Rattle.rules.specs.declared.Terms.{Terms}
use Rattle.rules.specs.declared.Leg.{Leg}
use Rattle.rules.specs.declared.Settings.{Settings}
use Rattle.rules.specs.Lists.{All, some_pair}
use Rattle.rules.specs.Order.{is_complex}
use Rattle.rules.specs.Market.{settings_hold}
use Rattle.rules.specs.Numbers.{is_same_series, is_other_root}

-- expiry and strike have at most eight digits
pub record InRange (s : Series) : Type 0 where
  pub expiry : s.expiry ≤ 99999999
  pub strike : s.strike.0 ≤ 99999999

-- what a symbol in the layout and a count in its limits give
pub record IsValidLeg (x : Leg) : Type 0 where
  pub series : InRange x.series
  pub least : 1 ≤ x.size
  pub most : x.size ≤ 10000

-- what refusals 4 to 7 leave
pub record AreValid (ls : List Leg) : Type 0 where
  pub each : All IsValidLeg ls
  pub apart : some_pair is_same_series ls ≡ false
  pub roots : some_pair is_other_root ls ≡ false

-- a unit count's size and a strike
pub record UnitWithin (u : Leg) : Type 0 where
  pub size : u.size ≤ 10000
  pub strike : u.series.strike.0 ≤ 99999999

-- the unit legs of a complex order, and settings within their limits
pub record ComplexOrder (st : Settings) (t : Terms) (us : List Leg) : Type 0 where
  pub settings : settings_hold st ≡ true
  pub complex : is_complex t us ≡ true
  pub some : 1 ≤ length us
  pub few : length us ≤ 16
  pub each : All UnitWithin us
