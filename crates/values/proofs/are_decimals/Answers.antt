-- Behind the point, the digits are a number of up to three.
use Rattle.std.proofs.Common.{◌∙◌, arith, rules, length-drop}
use Rattle.values.proofs.Laws.{rest_of, decimals}
use Rattle.values.proofs.are_decimals.Goals as goal

pub returns-then-digits-le3 : goal.returns-then-digits-le3
returns-then-digits-le3 c =
    let v = c.args.v.now in
    c.is_number.ensures ∙ rw (rest_of v 1) (decimals v (omega arith) (search rules) (omega (arith, length-drop 1 v)))
