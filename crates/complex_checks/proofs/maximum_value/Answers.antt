-- M is as of as many unit counts as there are tags: the tags themselves are so many.
use Rattle.std.proofs.Common.{rules, refl, ap, false, arith}
use Rattle.rules.specs.Checks.{has_maximum}
use Rattle.keys.specs.Tags.{legs_from}
use Rattle.complex_checks.proofs.Laws.{maximum_read, maximum_bound}
use Rattle.complex_checks.proofs.maximum_value.Goals as goal

pub allowance-requires : goal.allowance-requires
allowance-requires c =
    let tags = c.args.tags.now in
    (c.requires, omega (arith, c.maximum_of-m.ensures 0 tags refl, maximum_bound 0 tags tags))

pub overflow_add-result : goal.overflow_add-result
overflow_add-result c =
    let tags = c.args.tags.now in
    omega (arith, c.allowance.ensures.1, c.maximum_of-m.ensures 0 tags refl, maximum_bound 0 tags tags)

pub returns-then-has_shares : goal.returns-then-has_shares
returns-then-has_shares c = λ root units full shape.
    let read = maximum_read c.args.st c.args.t (legs_from root false c.args.tags.now units) in
    let has = ap has_maximum shape in
    search rules

pub returns : goal.returns
returns c = λ root units full shape.
    let read = maximum_read c.args.st c.args.t (legs_from root false c.args.tags.now units) in
    let has = ap has_maximum shape in
    let m = c.maximum_of-m.ensures root units full in
    search rules
