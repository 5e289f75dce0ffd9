-- Each refusal is the first whose test applies.
use Rattle.std.proofs.Common.{refl, sym, ◌∙◌}
use Rattle.fix_check.proofs.Laws.{no_head, not_framed, not_complete, not_formed, none_applies, passed_on, head_missing, fails, holds}
use Rattle.fix_check.proofs.places_of.Goals as goal

pub returns-in_err-h-clause-number : goal.returns-in_err-h-clause-number
returns-in_err-h-clause-number c =
    let k = head_missing c.head_of.result c.in_err-h.ensures.value in
    passed_on _ _ c.from_residual.ensures ∙ rw k.1 (no_head c.args.message.now (sym c.head_of.ensures ∙ k.0))

pub returns-in_err-fail_if-clause-number : goal.returns-in_err-fail_if-clause-number
returns-in_err-fail_if-clause-number c =
    let e = sym c.head_of.ensures ∙ c.in_ok-h.ensures.ok_part in
    let d = c.scan_fields-s.ensures in
    let k = fails c.is_framed.result c.in_err-fail_if.ensures in
    passed_on _ _ c.from_residual-in_err-fail_if.ensures ∙ rw k.1 (not_framed c.args.message.now e d (sym c.is_framed.ensures ∙ k.0))

pub returns-in_err-fail_if-2-clause-number : goal.returns-in_err-fail_if-2-clause-number
returns-in_err-fail_if-2-clause-number c =
    let e = sym c.head_of.ensures ∙ c.in_ok-h.ensures.ok_part in
    let d = c.scan_fields-s.ensures in
    let r = sym c.is_framed.ensures ∙ holds c.is_framed.result _ c.in_ok-fail_if.ensures in
    let k = fails c.is_complete.result c.in_err-fail_if-2.ensures in
    passed_on _ _ c.from_residual-in_err-fail_if-2.ensures ∙ rw k.1 (not_complete c.args.message.now e d r (sym c.is_complete.ensures ∙ k.0))

pub returns-in_err-fail_if-3-clause-number : goal.returns-in_err-fail_if-3-clause-number
returns-in_err-fail_if-3-clause-number c =
    let e = sym c.head_of.ensures ∙ c.in_ok-h.ensures.ok_part in
    let d = c.scan_fields-s.ensures in
    let r = sym c.is_framed.ensures ∙ holds c.is_framed.result _ c.in_ok-fail_if.ensures in
    let q = sym c.is_complete.ensures ∙ holds c.is_complete.result _ c.in_ok-fail_if-2.ensures in
    let k = fails c.scan_fields-s.result.formed c.in_err-fail_if-3.ensures in
    passed_on _ _ c.from_residual-in_err-fail_if-3.ensures ∙ rw k.1 (not_formed c.args.message.now e d r q k.0)

pub returns-clause-number : goal.returns-clause-number
returns-clause-number c =
    let e = sym c.head_of.ensures ∙ c.in_ok-h.ensures.ok_part in
    let d = c.scan_fields-s.ensures in
    let r = sym c.is_framed.ensures ∙ holds c.is_framed.result _ c.in_ok-fail_if.ensures in
    let q = sym c.is_complete.ensures ∙ holds c.is_complete.result _ c.in_ok-fail_if-2.ensures in
    none_applies c.args.message.now e d r q (holds c.scan_fields-s.result.formed _ c.in_ok-fail_if-3.ensures)
