-- One unit of the leg, whatever its root, has the leg's answer: bought it is a debit, sold a credit.
use Rattle.std.proofs.Common.{refl}
use Rattle.judge.proofs.Simple.{one_answer}
use Rattle.judge.proofs.judge_simple.Goals as goal

pub returns-then-unit : goal.returns-then-unit
returns-then-unit c = λ root size h. one_answer c.args.h.now.settings c.args.h.now.market c.args.t root c.args.tag size h c.leg_at-unit.ensures c.rejection.ensures (rw c.if-unit.true refl)

pub returns-else-unit : goal.returns-else-unit
returns-else-unit c = λ root size h. one_answer c.args.h.now.settings c.args.h.now.market c.args.t root c.args.tag size h c.leg_at-unit.ensures c.rejection.ensures (rw c.if-unit.false refl)
