-- Document 02, S-7, by computing its definitions.
use mathlib.Core.Path.{refl}
use Rattle.rules.specs.Lists.{all, every, total}
use Rattle.rules.specs.Numerals.{value, numeral, are_digits}
use Rattle.rules.specs.Quantities.{distance}
use Rattle.rules.specs.Symbol.{are_spaces, is_root_tail, is_root, leap_day, days_in, day_exists, in_limits, symbol_of, parts_of, is_symbol}
use Rattle.rules.specs.Checks.{put_test, call_test}
use Rattle.rules.specs.Market.{is_unusable, tick_at, settings_of, market_of, settings_hold, market_holds}
use Rattle.rules.specs.Numbers.{first_of}
use Rattle.rules.specs.Quote.{comparison, set_distance, is_inverted, quote_inversion, is_bad_quote}
use Rattle.rules.specs.Crossing.{in_sequence, are_bad_lengths, is_bad_crossing, may_fill, fills_of, is_booked, execution, crossing_number, check_crossing}
use Rattle.rules.specs.Crossings.{Crossings}

pub crossings : Crossings
unfolding all every total value numeral are_digits distance are_spaces is_root_tail is_root leap_day days_in day_exists in_limits symbol_of parts_of is_symbol put_test call_test is_unusable tick_at settings_of market_of settings_hold market_holds first_of comparison set_distance is_inverted quote_inversion is_bad_quote in_sequence are_bad_lengths is_bad_crossing may_fill fills_of is_booked execution crossing_number check_crossing
crossings = record { examples = refl; bounds = refl; missing = refl; sized = refl; limits = refl; sequence = refl; lengths = refl; numbers = refl; none = refl }
