-- The groups from `next` on are one, whose leg is stored, and those behind it.
use Rattle.std.proofs.Common.{◌≡◌, refl, arith, sym, ap, ◌∙◌, ℕ, take}
use Rattle.std.proofs.Math.ListN.{length-set}
use Rattle.message_order.proofs.Laws.{one_more, symbol_there, ratio_there, side_there, is_group_lem, groups_behind, said, stored, all_stored}
use Rattle.message_order.proofs.order_said.Goals as goal

pub unwrap-symbol-requires : goal.unwrap-symbol-requires
unwrap-symbol-requires c =
    let e = one_more c.args.n c.loop-i.i (omega arith) in
    let g = rw e at c.loop-i.invariant.groups in
    rw c.next_field.ensures (symbol_there g)

pub unwrap-ratio-requires : goal.unwrap-ratio-requires
unwrap-ratio-requires c =
    let e = one_more c.args.n c.loop-i.i (omega arith) in
    let g = rw e at c.loop-i.invariant.groups in
    let s = sym c.next_field.ensures ∙ c.unwrap-symbol.ensures in
    rw c.next_field-in-loop-i.ensures (ratio_there g s)

pub unwrap-side-requires : goal.unwrap-side-requires
unwrap-side-requires c =
    let e = one_more c.args.n c.loop-i.i (omega arith) in
    let g = rw e at c.loop-i.invariant.groups in
    let s = sym c.next_field.ensures ∙ c.unwrap-symbol.ensures in
    let r = sym c.next_field-in-loop-i.ensures ∙ c.unwrap-ratio.ensures in
    rw c.next_field-in-loop-i-2.ensures (side_there g s r)

pub leg_said-requires : goal.leg_said-requires
leg_said-requires c =
    let e = one_more c.args.n c.loop-i.i (omega arith) in
    let g = rw e at c.loop-i.invariant.groups in
    let s = sym c.next_field.ensures ∙ c.unwrap-symbol.ensures in
    let r = sym c.next_field-in-loop-i.ensures ∙ c.unwrap-ratio.ensures in
    let d = sym c.next_field-in-loop-i-2.ensures ∙ c.unwrap-side.ensures in
    is_group_lem g s r d

pub loop-i-preserved : goal.loop-i-preserved
loop-i-preserved c =
    let l = c.loop-i in
    let e = one_more c.args.n c.loop-i.i (omega arith) in
    let g = rw e at c.loop-i.invariant.groups in
    let s = sym c.next_field.ensures ∙ c.unwrap-symbol.ensures in
    let r = sym c.next_field-in-loop-i.ensures ∙ c.unwrap-ratio.ensures in
    let d = sym c.next_field-in-loop-i-2.ensures ∙ c.unwrap-side.ensures in
    record {
      legs = stored l.legs _ l.i (omega arith) c.leg_said.ensures (rw (e, said g s r d) at l.invariant.legs);
      groups = groups_behind g s r d;
      room = length-set l.legs l.i c.leg_said.result ∙ l.invariant.room;
    }

pub returns : goal.returns
returns c =
    let l = c.loop-i in
    let e : c.args.n ≡ l.i = omega arith in
    record {
      legs = ap (λ (k : ℕ). take k l.legs) e ∙ all_stored c.args.message.now l.next c.args.n l.i l.legs (omega arith) l.invariant.legs;
      len = refl;
      terms = refl;
    }
