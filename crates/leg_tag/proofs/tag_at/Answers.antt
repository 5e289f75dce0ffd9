-- What the reader gives is a tag, and it is not 0.
use Rattle.std.proofs.Common.{ap, ◌∙◌}
use Rattle.std.specs.Option.{unwrap_or}
use Rattle.leg_tag.proofs.Tags.{no_tag, parts_few, parts_range, tag_read}
use Rattle.leg_tag.proofs.tag_at.Goals as goal

pub returns-in_err-p-clause-tag : goal.returns-in_err-p-clause-tag
returns-in_err-p-clause-tag c =
    ap (λ r. unwrap_or r 0) c.from_residual.ensures
    ∙ no_tag c.args.s.now c.requires.1 c.read_after.result c.read_after.ensures c.in_err-p.ensures.value c.args.bought

pub series_of-requires : goal.series_of-requires
series_of-requires c = parts_few c.args.s.now c.requires.1 c.read_after.result c.read_after.ensures c.in_ok-p.ensures.value

pub tag_of-requires : goal.tag_of-requires
tag_of-requires c = parts_range c.args.s.now c.requires.1 c.read_after.result c.read_after.ensures c.in_ok-p.ensures.value c.series_of.ensures

pub returns-clause-tag : goal.returns-clause-tag
returns-clause-tag c = (tag_read c.args.s.now c.requires.1 c.read_after.result c.read_after.ensures c.in_ok-p.ensures.value c.args.bought c.series_of.ensures c.tag_of.ensures.0).0

pub returns-clause-found : goal.returns-clause-found
returns-clause-found c =
    ((tag_read c.args.s.now c.requires.1 c.read_after.result c.read_after.ensures c.in_ok-p.ensures.value c.args.bought c.series_of.ensures c.tag_of.ensures.0).1, c.tag_of.ensures.1)
