-- The words of the theorem, by computing them.
use mathlib.Core.Path.{refl}
use Rattle.rules.specs.Lists.{all, any, some_pair, every, total, lex, insert, sort}
use Rattle.rules.specs.Numerals.{value, numeral, are_digits}
use Rattle.rules.specs.Quantities.{distance}
use Rattle.rules.specs.Symbol.{are_spaces, is_root_tail, is_root, leap_day, days_in, day_exists, in_limits, symbol_of, parts_of, is_symbol}
use Rattle.rules.specs.Order.{word, raw_leg, raw_legs, price_of, leg_of, legs_of, gcd_within, gcd, common_divisor, units, shares_of, has_shares, is_simple}
use Rattle.rules.specs.Pairing.{pair_of, matched, reach, walk, by_strike, by_expiry, both_walks, is_debit}
use Rattle.rules.specs.Class.{is_vertical, is_butterfly, is_box, shape_of, has_own_class, all_of, pair_class, class_with}
use Rattle.rules.specs.Checks.{put_test, call_test, simple_buy, sizes, is_below, shares_on, same_side_below, buy_buy, debit_credit, maximum_of, allowance, maximum_value}
use Rattle.rules.specs.Market.{is_unusable, elsewhere_reference, reference, acceptable_ticks, tick_at, limit_distance, is_too_far, tick_distance, settings_of, market_of, settings_hold, market_holds}
use Rattle.rules.specs.Numbers.{first_of, is_bad_price, is_bad_shares, refusal, rejection, judged, outcome, check_legs, check_slices}
use Rattle.rules.specs.Fix.{fields_of, bytes_of, are_fields, has_frame, message_refusal, check_fix}
use Rattle.rules.specs.Tally.{is_broken, counted}
use Rattle.rules.specs.Session.{login_at, with_login, logins_from, is_bad_login, is_bad_session, in_all, turned_away, check_in_session, release_login, session_of, start_session}
use Rattle.session_theorems.specs.Calls.{session_after, is_before_limit, own_calls, own_answers, order_numbers_of, since_release, has_no_release}
use Rattle.session_theorems.specs.Cases.{Cases}

pub cases : Cases
unfolding all any some_pair every lex insert sort value numeral are_digits distance are_spaces is_root_tail is_root leap_day days_in day_exists in_limits symbol_of parts_of is_symbol word raw_leg raw_legs price_of leg_of legs_of gcd_within gcd common_divisor units shares_of has_shares is_simple pair_of matched reach walk by_strike by_expiry both_walks is_debit is_vertical is_butterfly is_box shape_of has_own_class all_of pair_class class_with put_test call_test simple_buy sizes is_below shares_on same_side_below buy_buy debit_credit maximum_of allowance maximum_value is_unusable elsewhere_reference reference acceptable_ticks tick_at limit_distance is_too_far tick_distance settings_of market_of settings_hold market_holds first_of is_bad_price is_bad_shares refusal rejection judged outcome check_legs check_slices fields_of bytes_of are_fields has_frame message_refusal check_fix is_broken counted total login_at with_login logins_from is_bad_login is_bad_session in_all turned_away check_in_session release_login session_of start_session session_after is_before_limit own_calls own_answers order_numbers_of since_release has_no_release
cases = record { own = refl; given = refl; numbers = refl; session = refl; since = refl; away = refl; before = refl; without = refl }
