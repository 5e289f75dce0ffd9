-- Each number is its definition's, and the counts are those of the unit legs.
use Rattle.std.proofs.Common.{◌≡◌, ◌≤◌, length, take, drop, ◌++◌, arith, sym, ◌∙◌}
use Rattle.std.proofs.Math.Seq.{take_at, length-take-le}
use Rattle.std.proofs.lemmas.Grind.{common_steps}
use Rattle.arranging.proofs.Zip.{zip_take}
use Rattle.classify.proofs.Laws.{legs_units, classed}
use Rattle.classify.proofs.classify.Goals as goal

pub returns : goal.returns
returns c =
    let a = c.args in
    let v = c.requires in
    let few : a.n ≤ 16 = v.valid.few in
    let cs = c.units.new.counts in
    let long : length cs ≡ a.n = c.units.auto.counts ∙ length-take-le a.n a.counts.now (omega arith) in
    let full : length (cs ++ drop a.n a.counts.now) ≡ 16 = grind (arith, common_steps) in
    let first : take a.n (cs ++ drop a.n a.counts.now) ≡ cs = take_at cs (drop a.n a.counts.now) a.n long in
    let w = c.both_walks-paired.ensures in
    λ root. record {
      counts = legs_units root a.n a.tags.now a.left.now _ v.valid.full v.full full (λ ls e. c.units.ensures ls e ∙ sym first);
      class = classed _ _ (rw (← zip_take) at (c.class_by-class.ensures root)) (rw (← zip_take) at (w root).class);
      shape = rw (← zip_take) at (c.shape_of-shape.ensures root);
      pairings = rw (← zip_take) at (w root).pairings;
    }
