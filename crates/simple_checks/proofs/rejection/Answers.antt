-- One leg is simple: the checks of complex orders do not apply.
use Rattle.std.proofs.Common.{rules}
use Rattle.rules.specs.Numbers.{first_of}
use Rattle.simple_checks.proofs.Laws.{of_one_leg}
use Rattle.simple_checks.proofs.rejection.Goals as goal

pub returns-in_err-fail_if-2 : goal.returns-in_err-fail_if-2
unfolding first_of
returns-in_err-fail_if-2 c class = rw (← of_one_leg c.args.h.now.settings c.args.h.now.market c.args.t c.args.u class c.requires) (search rules)

pub returns : goal.returns
unfolding first_of
returns c class = rw (← of_one_leg c.args.h.now.settings c.args.h.now.market c.args.t c.args.u class c.requires) (search rules)
