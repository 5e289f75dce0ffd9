-- Both orders' numbers are the order check's.
use Rattle.std.proofs.Common.{ap, ap₂, ◌∙◌, w64}
use mir.ValLaws.{to_z-of_z}
use Rattle.rules.specs.Pair.{paired}
use Rattle.unit.proofs.Laws.{same_terms, same_check, number, pair_fields}
use Rattle.unit.proofs.pairs.opc_check_pair.Goals as goal

pub returns : goal.returns
returns c =
    let a = c.args in
    let s = c.ranges in
    let first = same_terms a.agency_kind a.agency_stop a.agency_manual a.agency_opening (to_z-of_z w64 a.agency_price s.agency_price) (to_z-of_z w64 a.agency_shares s.agency_shares) in
    let second = same_terms a.contra_kind a.contra_stop a.contra_manual a.contra_opening (to_z-of_z w64 a.contra_price s.contra_price) (to_z-of_z w64 a.contra_shares s.contra_shares) in
    pair_fields c.paired_answers-answer.result _ _ _ _ _
    (c.paired_answers-answer.ensures
    ∙ ap₂ (paired _)
    (ap number (c.check_slices-agency.ensures ∙ same_check _ _ _ _ (c.terms_of-terms.ensures ∙ first)))
    (ap number (c.check_slices-contra.ensures ∙ same_check _ _ _ _ (c.terms_of-terms-2.ensures ∙ second))))
