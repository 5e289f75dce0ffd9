-- The number of digits decides by what the number is multiplied.
use Rattle.std.proofs.Common.{arith}
use Rattle.values.proofs.Laws.{one_digit, two_digits, three_digits}
use Rattle.values.proofs.decimal_mills.Goals as goal

pub returns-in-1 : goal.returns-in-1
returns-in-1 c = one_digit c.args.v.now c.requires.0 _ c.number_of-said.ensures.0 (omega arith)

pub returns-in-2 : goal.returns-in-2
returns-in-2 c = two_digits c.args.v.now c.requires.0 _ c.number_of-said.ensures.0 (omega arith)

pub returns-in_default : goal.returns-in_default
returns-in_default c = three_digits c.args.v.now c.requires.0 _ c.number_of-said.ensures.0 c.requires.1 (omega arith) (omega arith)
