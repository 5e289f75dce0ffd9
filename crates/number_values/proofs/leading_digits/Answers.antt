-- The first byte that is no digit ends those at the front.
use Rattle.std.proofs.Common.{rules, tests}
use mathlib.Core.Bool.{not}
use Rattle.std.specs.Char.{is_ascii_digit}
use Rattle.std.proofs.lemmas.Iterator.{YieldsList-from_slice}
use Rattle.std.proofs.lemmas.Iterator.Search.{position_from_yields_List}
use Rattle.number_values.proofs.Laws.{leading_place}
use Rattle.number_values.proofs.leading_digits.Goals as goal

pub returns : goal.returns
returns c =
    let v = c.args.v.now in
    let found = position_from_yields_List (λ b. not (is_ascii_digit b)) _ _ c.position-end.result c.position-end.ensures.ran (YieldsList-from_slice v cc) (λ x b q k. search (rules, tests)) in
    leading_place v found c.unwrap_or.ensures
