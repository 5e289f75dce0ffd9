-- The number is the definition's, and where nothing is refused no roots differ, so that the places are sorted.
use Rattle.std.proofs.Common.{rules, sym, ◌∙◌}
use Rattle.validity.proofs.Laws.{refuses}
use Rattle.validity.proofs.refusal.Goals as goal

pub returns-clause-refuses : goal.returns-clause-refuses
returns-clause-refuses c =
    let a = c.args in
    refuses a.st a.m a.t a.read a.places.now a.roots.now _ _ _
    c.requires
    (search rules)
    c.sorted_twice-twice.auto.places
    c.sorted_twice-twice.ensures
    (λ ls n side. c.is_bad_price-price.ensures ls n (λ e. side e ∙ sym c.is_bought-bought.ensures))
    c.later.result
    c.later.ensures.number
