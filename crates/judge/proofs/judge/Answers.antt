-- A simple order has one leg, whose answer is the order's.
use Rattle.judge.proofs.Laws.{judged_leg}
use Rattle.judge.proofs.judge.Goals as goal

pub returns-then-is_simple : goal.returns-then-is_simple
returns-then-is_simple c = λ root.
    let a = c.args in
    judged_leg a.t a.n a.tags.now a.left.now c.requires.0 c.is_simple.ensures c.if-is_simple.true a.h.now.settings a.h.now.market root c.judge_simple.ensures
