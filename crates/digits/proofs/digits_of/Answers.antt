use Rattle.std.proofs.Common.{arith, ◌∙◌, ◌-◌}
use Rattle.std.proofs.Math.ListN.{length-set}
use Rattle.digits.proofs.Written.{turn, all_written}
use Rattle.digits.proofs.digits_of.Goals as goal

pub loop-i-preserved : goal.loop-i-preserved
loop-i-preserved g c =
    let l = c.loop-i in
    let t = turn l.i l.rest l.digits (omega arith) (omega arith) l.invariant.fits c.byte_of.ensures l.invariant.said in
    record { said = t.0; fits = t.1; long = length-set l.digits (l.i - 1) c.byte_of.result ∙ l.invariant.long }

pub returns : goal.returns
returns g c = all_written c.loop-i.i c.loop-i.rest c.loop-i.digits (omega arith) c.loop-i.invariant.said
