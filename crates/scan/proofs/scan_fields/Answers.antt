-- Each field that the iterator gives is the next of those that are left.
use Rattle.scan.proofs.Laws.{all_left, none_left, next_inside, one_passed}
use Rattle.scan.proofs.scan_fields.Goals as goal

pub loop-f-init : goal.loop-f-init
loop-f-init c = rw c.into_iter-f-iterator.ensures.into_iter_gives (all_left c.args.message.now c.args.at _ c.start-s.ensures)

pub step-s-requires : goal.step-s-requires
step-s-requires c = next_inside c.loop-f.invariant _ _ c.in-Some.ensures.steps.0

pub loop-f-preserved : goal.loop-f-preserved
loop-f-preserved c = one_passed c.loop-f.invariant _ _ c.in-Some.ensures.steps.0 _ c.step-s.ensures

pub returns : goal.returns
returns c = none_left c.loop-f.invariant c.in-None.ensures.steps.0.0
