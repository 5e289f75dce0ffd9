-- The unit legs of a valid order, and its numbers one by one.
use Rattle.std.proofs.Common.{◌∙◌, sym, arith}
use Rattle.std.proofs.Math.Seq.{length-take-le}
use Rattle.arranging.proofs.Zip.{zip_take}
use Rattle.judge.proofs.Laws.{complex_units, judged_by}
use Rattle.judge.proofs.judge_complex.Goals as goal

pub rejection-requires : goal.rejection-requires
rejection-requires c =
    let a = c.args in
    let r = c.requires in
    let k = c.classify-c.ensures 0 in
    let few = r.0.valid.few in
    let full = r.0.valid.full in (
      length-take-le a.n a.tags.now (omega arith) ∙ sym (length-take-le a.n _ (omega arith)),
      rw (← zip_take) (complex_units a.h.now.settings a.t a.n a.tags.now a.left.now _ a.h.now.settings_within r.0 r.1 r.2 k.counts),
      rw (← zip_take) k.shape,
    )

pub returns : goal.returns
returns c = λ root m.
    let k = c.classify-c.ensures root in
    judged_by c.args.h.now.settings m c.args.t _ _ k.counts k.class k.shape k.pairings (rw (c.from-class.ensures, ← zip_take) at (c.rejection.ensures root m))
