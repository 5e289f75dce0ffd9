-- The offers so far have filled what they can, and the rest of the list has what is left of the size.
use Rattle.rules.specs.Market.{at_or_past}
use Rattle.execution.proofs.Laws.{FilledTo}
use Rattle.execution.proofs.fill.Given as goal

abbrev pub invariant-loop-i : goal.invariant-loop-i
invariant-loop-i l = FilledTo (at_or_past l.bought l.furthest.0) l.c.size l.c.prices.now l.c.sizes.now l.initial.fills l.fills l.left l.i
