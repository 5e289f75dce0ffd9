-- The digits behind the point are a number of up to three digits.
use Rattle.std.proofs.Common.{arith}
use Rattle.values.proofs.Laws.{behind_digits}
use Rattle.values.proofs.mills_of.Goals as goal

pub decimal_mills-requires : goal.decimal_mills-requires
decimal_mills-requires c = behind_digits c.args.v.now _ c.leading_digits-k.ensures.0 (omega arith) c.requires
