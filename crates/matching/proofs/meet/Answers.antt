use Rattle.std.proofs.Common.{◌≡◌, ℤ, not, ap, ap₂, ◌∙◌, get_or, to_z, of_z, w64, arith}
use Rattle.rules.specs.OpenContracts.{sign, adjusted}
use Rattle.keys.specs.Tags.{is_bought}
use Rattle.tagged.specs.Tags.{after_match}
use Rattle.tagged.proofs.Signs.{sign_small, sign_held}
use Rattle.matching.proofs.Meeting.{few, few_all, figure_small, figure_read, gained, leaves}
use Rattle.matching.proofs.meet.Goals as goal

pub overflow_sub-left : goal.overflow_sub-left
overflow_sub-left c =
    let a = c.args in
    few a.tags.now a.left.now a.i a.at a.m a.s c.requires.in_sequence.0 (omega arith) c.requires.matched.1

pub adjusted-f-requires : goal.adjusted-f-requires
adjusted-f-requires c =
    let a = c.args in
    let q = c.requires.in_sequence.0 in
    let bought = is_bought (get_or a.tags.now a.i 0) in
    let e = c.requires.matched in (
      rw (figure_read a.tags.now a.left.now a.i a.at a.m a.s q (omega arith) e.1 e.2) (omega (arith, figure_small a.tags.now a.left.now a.i a.at a.m a.s q (omega arith) e.1 e.2)),
      rw (sign_held bought c.sign_of.result c.sign_of.ensures) (sign_small bought),
      omega (arith, few_all a.tags.now a.left.now a.i a.at a.m a.s q (omega arith) e.1),
    )

pub returns : goal.returns
returns c =
    let a = c.args in
    let q = c.requires.in_sequence.0 in
    let e = c.requires.matched in
    let bought = is_bought (get_or a.tags.now a.i 0) in
    let read = figure_read a.tags.now a.left.now a.i a.at a.m a.s q (omega arith) e.1 e.2 in
    let figure_is : c.adjusted-f.result ≡ adjusted a.s.figure (sign bought) a.m =
    c.adjusted-f.ensures ∙ ap₂ (λ (z k : ℤ). adjusted z k a.m) read (sign_held bought c.sign_of.result c.sign_of.ensures) in
    let kept : to_z w64 (of_z w64 c.adjusted-f.result) ≡ adjusted a.s.figure (sign bought) a.m =
    rw figure_is (gained a.tags.now a.left.now a.i a.at a.m a.s q (omega arith) e.1 e.2) in
    let r : c.after_match.result ≡ after_match a.s (not bought) (adjusted a.s.figure (sign bought) a.m) =
    c.after_match.ensures ∙ ap₂ (after_match a.s) (ap not c.is_bought.ensures) kept in
    rw r (leaves a.tags.now a.left.now a.i a.at a.m a.s q (omega arith) e.1 e.2 (omega arith) e.0)
