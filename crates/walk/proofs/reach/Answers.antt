use Rattle.std.proofs.Common.{◌∙◌, arith}
use Rattle.walk.proofs.Reaching.{kept, rest_small, leaves}
use Rattle.walk.proofs.reach.Goals as goal

pub find-r-requires-clause-counts : goal.find-r-requires-clause-counts
find-r-requires-clause-counts c =
    (kept c.requires.in_sequence.0 c.args.i (omega arith) c.requires.stands.0 c.group_of-group.ensures c.begun-f.ensures, c.requires.stands.1)

pub adjusted-requires : goal.adjusted-requires
adjusted-requires c =
    let e = c.find-r.ensures in
    rest_small e.reaches.sequence c.args.i (omega arith) c.find-r.result (e.counts_after.1 ∙ c.group_of-group.ensures) e.counts_after.0 c.sign_of-sign.ensures

pub returns-clause-stands_after : goal.returns-clause-stands_after
returns-clause-stands_after c =
    let e = c.find-r.ensures in
    leaves e.reaches.sequence c.args.i (omega arith) c.find-r.result (e.counts_after.1 ∙ c.group_of-group.ensures) e.counts_after.0 c.sign_of-sign.ensures c.adjusted.ensures
