use Rattle.std.proofs.Common.{◌∙◌, arith}
use Rattle.tagged.specs.Tags.{tally_of}
use Rattle.tagged.proofs.Figures.{unsearched}
use Rattle.walk.proofs.Reaching.{test_small, shown}
use Rattle.walk.proofs.find.Goals as goal

pub shows_other-requires : goal.shows_other-requires
shows_other-requires c = test_small c.requires.in_sequence.0 c.args.i (omega arith) c.args.s.figure c.requires.counts.0 c.sign_of.ensures

pub search-requires-clause-counts : goal.search-requires-clause-counts
search-requires-clause-counts c =
    let e = shown c.requires.in_sequence.0 c.args.i (omega arith) c.args.s.figure c.requires.counts.0 c.sign_of.ensures c.shows_other.ensures in
    (c.requires.counts.0, c.requires.counts.1, e ∙ c.if-shows_other.true)

pub returns-else-shows_other-clause-reaches : goal.returns-else-shows_other-clause-reaches
returns-else-shows_other-clause-reaches c =
    let a = c.args in
    let q = c.requires.in_sequence.0 in
    let e = shown q a.i (omega arith) a.s.figure c.requires.counts.0 c.sign_of.ensures c.shows_other.ensures in
    unsearched a.tags.now a.left.now q a.i (omega arith) a.s.figure c.requires.counts.0 c.requires.counts.1 (e ∙ c.if-shows_other.false) (tally_of a.s)
