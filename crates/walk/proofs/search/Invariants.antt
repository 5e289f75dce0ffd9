use Rattle.walk.proofs.Turns.{Turned}
use Rattle.walk.proofs.search.Given as goal

abbrev pub invariant-loop-at : goal.invariant-loop-at
invariant-loop-at l = Turned l.tags l.fn.left l.left l.i l.fn.s l.r l.x l.at
