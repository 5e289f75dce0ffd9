-- Each byte is a further digit, or ends them.
use Rattle.std.proofs.Common.{◌∙◌, sym, arith}
use Rattle.fields.proofs.Digits.{none_read, small, turn, ends, found, cut, ten}
use Rattle.fields.proofs.tag_in.Goals as goal

pub loop-digits-init : goal.loop-digits-init
loop-digits-init c = none_read c.args.s.now

pub returns-in_err-b : goal.returns-in_err-b
returns-in_err-b c = c.from_residual.ensures ∙ cut c.loop-digits.invariant c.in_err-b.ensures.lookup.3

pub has_tag-requires : goal.has_tag-requires
has_tag-requires c =
    let at = c.in_ok-b.ensures.lookup.3 in
    ends c.loop-digits.invariant c.in_ok-b.field-0.now at.0 (at.1 0) (sym c.if-not-is_ascii_digit.ensures.value) (omega arith)

pub returns-then-has_tag : goal.returns-then-has_tag
returns-then-has_tag c =
    let at = c.in_ok-b.ensures.lookup.3 in
    let e = ends c.loop-digits.invariant c.in_ok-b.field-0.now at.0 (at.1 0) (sym c.if-not-is_ascii_digit.ensures.value) (omega arith) in
    found c.loop-digits.invariant e c.if-has_tag.ensures

pub overflow_mul-number : goal.overflow_mul-number
overflow_mul-number c = omega (arith, small c.loop-digits.invariant (omega arith))

pub overflow_add-number : goal.overflow_add-number
overflow_add-number c =
    omega (arith, small c.loop-digits.invariant (omega arith), c.from.ensures, c.if-not-is_ascii_digit.ensures.bound)

pub loop-digits-preserved : goal.loop-digits-preserved
loop-digits-preserved c =
    let at = c.in_ok-b.ensures.lookup.3 in
    rw c.from.ensures (turn c.loop-digits.invariant c.in_ok-b.field-0.now at.0 (at.1 0) (sym c.if-not-is_ascii_digit.ensures.value))

pub returns : goal.returns
returns c = ten c.loop-digits.invariant (omega arith)
