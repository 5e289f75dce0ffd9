use Rattle.std.proofs.Common.{◌≡◌, ap, ◌∙◌, ℕ, take, arith}
use Rattle.std.proofs.Math.ListN.{length-set}
use Rattle.order_record.proofs.Laws.{stored, all_stored}
use Rattle.order_record.proofs.order_of.Goals as goal

pub loop-i-preserved : goal.loop-i-preserved
loop-i-preserved c =
    let l = c.loop-i in
    record {
      legs = stored c.args.symbols.now c.args.counts.now l.order.legs c.args.n l.i (omega arith) (omega arith) c.raw_leg.ensures l.invariant.legs;
      long = length-set l.order.legs l.i c.raw_leg.result ∙ l.invariant.long;
      len = l.invariant.len;
      terms = l.invariant.terms;
    }

pub returns : goal.returns
returns c =
    let l = c.loop-i in
    let e : l.order.len ≡ l.i = omega arith in
    record {
      legs = ap (λ (k : ℕ). take k l.order.legs) e ∙ all_stored c.args.symbols.now c.args.counts.now l.order.legs c.args.n l.i (omega arith) l.invariant.legs;
      len = l.invariant.len;
      terms = l.invariant.terms;
    }
