-- Legs of one side are of the first leg's, and their sum times the increment fits.
use Rattle.std.proofs.Common.{rules, arith}
use Rattle.std.proofs.lemmas.Nat.{mul-le}
use Rattle.laws.proofs.Bounds.{settings_bounds}
use Rattle.buy_buy.proofs.Laws.{some, sum_small, buy_buy_read}
use Rattle.buy_buy.proofs.buy_buy.Goals as goal

pub bounds-tags-0 : goal.bounds-tags-0
bounds-tags-0 c = let a = c.args in some a.st a.t a.tags.now a.units.now c.requires.0 c.requires.1

pub sizes-requires : goal.sizes-requires
sizes-requires c =
    let a = c.args in
    omega (arith, sum_small a.st a.t a.tags.now a.units.now c.requires.0 c.requires.1)

pub overflow_mul-sizes : goal.overflow_mul-sizes
overflow_mul-sizes c =
    let a = c.args in
    let s = sum_small a.st a.t a.tags.now a.units.now c.requires.0 c.requires.1 in
    omega (arith, c.sizes.ensures, mul-le c.sizes.result a.st.increment.0 160000 1000 (omega (arith, c.sizes.ensures, s)) (settings_bounds a.st c.requires.1.settings).increment)

pub returns-then-all_on : goal.returns-then-all_on
returns-then-all_on c = λ root.
    let a = c.args in
    let r = buy_buy_read a.st a.t a.tags.now a.units.now c.requires.0 c.requires.1 c.is_bought-side.result c.is_bought-side.ensures root in
    search rules

pub returns-else-all_on : goal.returns-else-all_on
returns-else-all_on c = λ root.
    let a = c.args in
    let r = buy_buy_read a.st a.t a.tags.now a.units.now c.requires.0 c.requires.1 c.is_bought-side.result c.is_bought-side.ensures root in
    search rules
