use Rattle.std.proofs.Common.{arith, sym, ◌∙◌}
use Rattle.std.proofs.Math.Seq.{take_all}
use Rattle.unit_counts.proofs.Divisor.{divisor_positive, units_read}
use Rattle.unit_counts.proofs.units.Goals as goal

-- There is a leg, and every leg has contracts.
pub nonzero_div-counts : goal.nonzero_div-counts
nonzero_div-counts c = divisor_positive c.args.sizes.now _ (omega arith) c.requires.1 c.common_divisor-divisor.ensures

pub returns : goal.returns
returns c = λ ls e.
    let whole_counts = take_all c.loop-i.i c.loop-i.counts (omega arith) in
    let whole_sizes = take_all c.loop-i.i c.args.sizes.now (omega arith) in
    units_read ls c.args.sizes.now _ e (c.common_divisor-divisor.ensures ls e) ∙ sym (rw (whole_counts, whole_sizes) at c.loop-i.invariant)
