-- What is executed, of a list that was filled up to the furthest price.
use Rattle.std.proofs.Common.{rules, ◌≡◌, cond}
use Rattle.resting.specs.Lent.{lent}
use Rattle.crossing.proofs.Laws.{executed}
use Rattle.crossing.proofs.execute.Goals as goal

pub returns : goal.returns
returns c =
    let a = c.args in
    let fill = c.fill-left.ensures in
    let kept : c.if-booked.booked.0 ≡ cond c.is_booked-booked.result c.fill-left.result 0 = search rules in
    let lost : c.if-booked.booked.1 ≡ cond c.is_booked-booked.result 0 c.fill-left.result = search rules in
    executed a.q.bid a.q.offer (lent a.c) c.is_bought-bought.ensures c.crossing_price-price.ensures c.is_booked-booked.ensures c.furthest.ensures
    c.requires.0 c.requires.2 fill.value fill.fills_after kept lost
