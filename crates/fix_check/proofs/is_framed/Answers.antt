-- Length and sum are asked where the fields stand as a frame's do, so that the places of field 10 are known.
use Rattle.std.proofs.Common.{◌∙◌, ◌-◌}
use borrow.Author.Tests.{eq-eqb, ne_eqb}
use Rattle.fix_check.proofs.Laws.{not_closed, not_whole, strayed, length_and_sum, tail_stands}
use Rattle.fix_check.proofs.is_framed.Goals as goal
use Rattle.fix_check.proofs.is_framed.Goals.{then-s-message-via-then-s-message, then-s-message-via-else-s-message+then-s}

pub returns-in_default : goal.returns-in_default
returns-in_default c = not_closed c.args.message.now c.args.h c.args.s c.in_default.is

pub returns-then-s-message : goal.returns-then-s-message
returns-then-s-message c =
    elim c.then-s-message.branch [
      | then-s-message-via-then-s-message w ↦ not_whole c.args.message.now c.args.h c.args.s w.if-s-message.true
      | then-s-message-via-else-s-message+then-s w ↦ strayed c.args.message.now c.args.h c.args.s w.if-s.true
    ]

pub overflow_sub-size : goal.overflow_sub-size
overflow_sub-size c = (tail_stands c.args.message.now c.args.h c.args.s c.in-Some.is c.if-s-message.false c.if-s.false c.requires).0

pub sum_before-sum-requires : goal.sum_before-sum-requires
sum_before-sum-requires c = (tail_stands c.args.message.now c.args.h c.args.s c.in-Some.is c.if-s-message.false c.if-s.false c.requires).1

pub of-requires : goal.of-requires
of-requires c = (tail_stands c.args.message.now c.args.h c.args.s c.in-Some.is c.if-s-message.false c.if-s.false c.requires).2

pub returns-then-h-size : goal.returns-then-h-size
returns-then-h-size c =
    let l = length_and_sum c.args.message.now c.args.h c.args.s c.in-Some.is c.if-s-message.false c.if-s.false in
    c.is_sum.ensures ∙ rw (eq-eqb c.args.h.said (c.in-Some.closing.at - c.args.h.counted) c.if-h-size.true, ← c.of.ensures, ← c.sum_before-sum.ensures.0) at l

pub returns-else-h-size : goal.returns-else-h-size
returns-else-h-size c =
    let l = length_and_sum c.args.message.now c.args.h c.args.s c.in-Some.is c.if-s-message.false c.if-s.false in
    let n = ne_eqb c.args.h.said (c.in-Some.closing.at - c.args.h.counted) c.if-h-size.false in
    n ∙ rw n at l
