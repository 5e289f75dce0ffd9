-- A message that is taken has its groups where the loop found them, at most 16 of them, and the order check answers for their record.
use Rattle.std.proofs.Common.{◌≡◌, sym, ◌∙◌, ap, arith}
use lib.Dec.{ltb}
use borrow.Author.Tests.{ltb-true, ltb-false}
use Rattle.fix_check.proofs.Laws.{answered, applies, spares, fix_refused, fix_too_many, price_inside, price_formed, has_groups, fix_record}
use Rattle.fix_check.proofs.check_fix.Goals as goal

pub returns-in_err-p : goal.returns-in_err-p
returns-in_err-p c = answered _ _ c.from_residual.ensures ∙ sym (fix_refused c.args.message.now _ _ c.in_err-p.ensures.number)

pub returns-in_err-fail_if : goal.returns-in_err-fail_if
returns-in_err-fail_if c =
    let none = sym c.in_ok-p.ensures.number in
    let k = applies (ltb 16 c.in_ok-p.p.legs) c.in_err-fail_if.ensures in
    answered _ _ c.from_residual-in_err-fail_if.ensures ∙ rw k.1 (sym (fix_too_many c.args.message.now none c.in_ok-p.ensures.places _ (ltb-true 16 c.in_ok-p.p.legs k.0)))

pub terms_said-t-requires : goal.terms_said-t-requires
terms_said-t-requires c =
    let none = sym c.in_ok-p.ensures.number in
    (price_inside c.args.message.now none c.in_ok-p.ensures.places, price_formed c.args.message.now none c.in_ok-p.ensures.places)

pub order_said-o-requires : goal.order_said-o-requires
order_said-o-requires c =
    let none = sym c.in_ok-p.ensures.number in
    let few = ltb-false 16 c.in_ok-p.p.legs (spares (ltb 16 c.in_ok-p.p.legs) _ c.in_ok-fail_if.ensures) in
    (few, has_groups c.args.message.now none c.in_ok-p.ensures.places)

pub returns : goal.returns
returns c =
    let m = c.args.message.now in
    let none = sym c.in_ok-p.ensures.number in
    c.check_order.ensures ∙ sym (fix_record m none c.in_ok-p.ensures.places _ c.terms_said-t.result c.order_said-o.result c.terms_said-t.ensures c.order_said-o.ensures)
