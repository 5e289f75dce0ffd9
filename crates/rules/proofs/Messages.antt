-- Document 02, S-1, by computing its definitions.
use mathlib.Core.Path.{refl}
use Rattle.rules.specs.Lists.{all, any, some_pair, every, total, same_numbers, lex, insert, sort}
use Rattle.rules.specs.Numerals.{value, numeral, are_digits}
use Rattle.rules.specs.Symbol.{are_spaces, is_root_tail, is_root, leap_day, days_in, day_exists, in_limits, parts_of, is_symbol}
use Rattle.rules.specs.Order.{price_of, leg_of, legs_of, gcd_within, gcd, common_divisor, units, shares_of, has_shares, is_simple}
use Rattle.rules.specs.Pairing.{pair_of, matched, reach, walk, by_strike, by_expiry, both_walks, is_debit}
use Rattle.rules.specs.Class.{is_vertical, is_butterfly, is_box, shape_of, has_own_class, all_of, pair_class, class_with}
use Rattle.rules.specs.Checks.{put_test, call_test, simple_buy, sizes, is_below, shares_on, same_side_below, buy_buy, debit_credit, maximum_of, allowance, maximum_value}
use Rattle.rules.specs.Market.{is_unusable, elsewhere_reference, reference, acceptable_ticks, tick_at, limit_distance, is_too_far, tick_distance, settings_hold, market_holds, settings_of, market_of}
use Rattle.rules.specs.Numbers.{first_of, is_bad_price, is_bad_shares, refusal, rejection, judged, outcome, check_legs}
use Rattle.rules.specs.Fix.{ahead, fields_of, bytes_of, leading_digits, is_field, tag_of, value_of, are_fields, is_number, all_but_last, last_of, is_framed, has_frame, how_often, before, value_at, behind, number_said, group_tags, in_sequence, are_decimals, is_amount, is_price, has_form, mills_of, price_said, legs_said, order_in, message_refusal, check_fix, digits_for, framed, price_for, groups_for}
use Rattle.rules.specs.Quantities.{distance}
use Rattle.rules.specs.Tally.{is_broken, is_bad_tally, counted, tallied, check_tallied}
use Rattle.rules.specs.Messages.{Messages}

pub messages : Messages
unfolding all any some_pair every same_numbers lex insert sort value numeral are_digits are_spaces is_root_tail is_root leap_day days_in day_exists in_limits parts_of is_symbol price_of leg_of legs_of gcd_within gcd common_divisor units shares_of has_shares is_simple pair_of matched reach walk by_strike by_expiry both_walks is_debit is_vertical is_butterfly is_box shape_of has_own_class all_of pair_class class_with put_test call_test simple_buy sizes is_below shares_on same_side_below buy_buy debit_credit maximum_of allowance maximum_value is_unusable elsewhere_reference reference acceptable_ticks tick_at limit_distance is_too_far tick_distance settings_hold market_holds first_of is_bad_price is_bad_shares refusal rejection judged outcome check_legs ahead fields_of bytes_of leading_digits is_field tag_of value_of are_fields is_number total all_but_last last_of is_framed has_frame how_often before value_at behind number_said group_tags in_sequence are_decimals is_amount is_price has_form mills_of price_said legs_said order_in message_refusal check_fix digits_for framed price_for groups_for is_broken is_bad_tally counted tallied check_tallied settings_of market_of distance
messages = record { papers = refl; legs = refl; many = refl; away = refl; flags = refl; tallied = refl; frame = refl; sequence = refl; form = refl; price = refl }
