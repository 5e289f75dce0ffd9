use Rattle.std.proofs.Common.{◌+◌, length, arith, sym, ◌∙◌}
use Rattle.std.proofs.lemmas.Slice.{between_to_end}
use Rattle.series_refusals.proofs.Laws.{two_found, two_passed}
use Rattle.series_refusals.proofs.some_two.Goals as goal

pub returns-then-stands_again : goal.returns-then-stands_again
returns-then-stands_again c =
    let ps = c.args.places.now in
    let rs = c.args.roots.now in
    let i = c.loop-i.i in
    let again = rw (between_to_end ps (i + 1) (length ps) (omega arith), between_to_end rs (i + 1) (length rs) (omega arith)) at c.stands_again.ensures in
    two_found ps rs (omega arith) i (omega arith) (sym again ∙ c.if-stands_again.true) ∙ c.loop-i.invariant

pub loop-i-preserved : goal.loop-i-preserved
loop-i-preserved c =
    let ps = c.args.places.now in
    let rs = c.args.roots.now in
    let i = c.loop-i.i in
    let again = rw (between_to_end ps (i + 1) (length ps) (omega arith), between_to_end rs (i + 1) (length rs) (omega arith)) at c.stands_again.ensures in
    two_passed ps rs (omega arith) i (omega arith) (sym again ∙ c.if-stands_again.false) ∙ c.loop-i.invariant
