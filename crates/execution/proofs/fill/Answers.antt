-- At the start nothing is filled; and what the offer at `i` fills is what the definition says of it.
use Rattle.std.proofs.Common.{rules, ◌≡◌, arith, get_or}
use Rattle.rules.specs.Market.{at_or_past}
use Rattle.rules.specs.Crossing.{fill_of}
use Rattle.execution.proofs.Laws.{filled_none, filled_turn}
use Rattle.execution.proofs.fill.Goals as goal

pub loop-i-init : goal.loop-i-init
loop-i-init c = filled_none _ _ _ _ _

pub loop-i-preserved : goal.loop-i-preserved
loop-i-preserved c =
    let a = c.args in
    let i = c.loop-i.i in
    let f : c.if-may_fill.f ≡ fill_of (at_or_past a.bought a.furthest.0) c.loop-i.left (get_or a.c.prices.now i 0) (get_or a.c.sizes.now i 0) = search rules in
    filled_turn _ _ _ _ _ c.requires.0 c.loop-i.invariant (omega arith) f (omega arith) (omega arith)
