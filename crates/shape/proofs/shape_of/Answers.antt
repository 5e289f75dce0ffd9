-- The legs that the code takes have the shape.
use Rattle.std.proofs.Common.{rules, tests}
use Rattle.shape.proofs.Laws.{shape_three, shape_four}
use Rattle.shape.proofs.shape_of.Goals as goal

pub returns-in-len3-len3 : goal.returns-in-len3-len3
returns-in-len3-len3 c =
    shape_three _ _ c.requires (search (rules, tests)) c.leg_at-in-len3-len3.ensures c.leg_at-in-len3-len3-2.ensures c.leg_at-in-len3-len3-3.ensures c.shape_of_three.ensures

pub returns-in-len4-len4 : goal.returns-in-len4-len4
returns-in-len4-len4 c =
    shape_four _ _ c.requires (search (rules, tests)) c.leg_at-in-len4-len4.ensures c.leg_at-in-len4-len4-2.ensures c.leg_at-in-len4-len4-3.ensures c.leg_at-in-len4-len4-4.ensures c.shape_of_four.ensures
