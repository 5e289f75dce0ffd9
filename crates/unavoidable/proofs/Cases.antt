-- The examples, by computing the definitions.
use mathlib.Core.Path.{refl}
use Rattle.rules.specs.Lists.{all, any, some_pair, every, lex, insert, sort}
use Rattle.rules.specs.Numerals.{value, numeral, are_digits}
use Rattle.rules.specs.Symbol.{are_spaces, is_root_tail, is_root, leap_day, days_in, day_exists, in_limits, symbol_of, parts_of, is_symbol}
use Rattle.rules.specs.Order.{word, raw_leg, raw_legs, price_of, leg_of, legs_of, gcd_within, gcd, common_divisor, units, shares_of, has_shares, is_simple, worth_of, net_worth}
use Rattle.rules.specs.Pairing.{pair_of, matched, reach, walk, by_strike, by_expiry, both_walks, is_debit}
use Rattle.rules.specs.Class.{is_vertical, is_butterfly, is_box, shape_of, has_own_class, all_of, pair_class, class_with}
use Rattle.rules.specs.Market.{settings_hold, market_holds}
use Rattle.rules.specs.Numbers.{first_of, is_bad_price, is_bad_shares, refusal, judged, outcome, check_legs, check_slices}
use Rattle.unavoidable.specs.Tables.{step, first_step, witness}
use Rattle.unavoidable.specs.Cases.{Cases}

pub cases : Cases
unfolding all any some_pair every lex insert sort value numeral are_digits are_spaces is_root_tail is_root leap_day days_in day_exists in_limits symbol_of parts_of is_symbol word raw_leg raw_legs price_of leg_of legs_of gcd_within gcd common_divisor units shares_of has_shares is_simple worth_of net_worth pair_of matched reach walk by_strike by_expiry both_walks is_debit is_vertical is_butterfly is_box shape_of has_own_class all_of pair_class class_with settings_hold market_holds first_of is_bad_price is_bad_shares refusal judged outcome check_legs check_slices step first_step witness
cases = refl
