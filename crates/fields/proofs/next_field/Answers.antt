-- Behind a tag a byte 1 ends the field's value, or there is no field.
use Rattle.std.proofs.Common.{◌∙◌, ◌+◌}
use Rattle.fields.proofs.Laws.{behind}
use Rattle.fields.proofs.Reading.{no_end, whole}
use Rattle.fields.proofs.next_field.Goals as goal

pub returns-in_err-end : goal.returns-in_err-end
returns-in_err-end c =
    let m = c.args.message.now in
    let t = rw (behind m c.args.at) at c.in_ok-tag.ensures in
    let e = rw (behind m (c.args.at + c.in_ok-tag.tag.digits + 1)) at c.in_err-end.ensures in
    c.from_residual-in_err-end.ensures ∙ no_end m c.args.at t e

pub returns : goal.returns
returns c =
    let m = c.args.message.now in
    let t = rw (behind m c.args.at) at c.in_ok-tag.ensures in
    let e = rw (behind m (c.args.at + c.in_ok-tag.tag.digits + 1)) at c.in_ok-end.ensures in
    whole m c.args.at t e
