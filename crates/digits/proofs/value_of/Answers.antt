-- What is read is at most the number, which fits.
use Rattle.std.proofs.Common.{arith}
use Rattle.digits.proofs.Laws.{turn_below}
use Rattle.digits.proofs.value_of.Goals as goal

pub overflow_mul-n : goal.overflow_mul-n
overflow_mul-n c =
    omega (arith, turn_below c.args.digits.now c.loop-d.d-index (omega arith) c.loop-d.invariant.digits c.loop-d.n c.loop-d.invariant.said c.requires.digits c.requires.few)

pub overflow_add-n : goal.overflow_add-n
overflow_add-n c =
    omega (arith, turn_below c.args.digits.now c.loop-d.d-index (omega arith) c.loop-d.invariant.digits c.loop-d.n c.loop-d.invariant.said c.requires.digits c.requires.few)
