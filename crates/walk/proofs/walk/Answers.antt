use Rattle.std.proofs.Common.{◌≡◌, ◌+◌, ◌-◌, ◌<◌, length, refl, arith}
use Rattle.tagged.specs.Tags.{tally_of}
use Rattle.tagged.proofs.Numbered.{outer_start, outer_turn}
use Rattle.tagged.proofs.Figures.{stands_first, one_side_walked}
use Rattle.walk.proofs.walk.Goals as goal

pub loop-i-init : goal.loop-i-init
loop-i-init c =
    let a = c.args in
    let q = c.requires in record {
      walked = λ root second. outer_start a.tags.now q.small second root a.left.now q.long;
      within = omega arith;
      sequence = q;
      few = omega (arith, q.few);
      stands = stands_first a.tags.now a.left.now q _ refl;
    }

pub reach-s-requires-clause-stands : goal.reach-s-requires-clause-stands
reach-s-requires-clause-stands c =
    let a = c.args in
    let l = c.loop-i in
    let back : l.i ≡ l.i - 1 + 1 = omega arith in (
      rw back at l.invariant.stands,
      one_side_walked a.tags.now a.left.now l.left c.requires.small c.requires.long (tally_of l.s) (l.i - 1) (omega arith) (λ root second. rw back at (l.invariant.walked root second)),
    )

pub loop-i-preserved : goal.loop-i-preserved
loop-i-preserved c =
    let a = c.args in
    let l = c.loop-i in
    let e = c.reach-s.ensures in
    let back : l.i ≡ l.i - 1 + 1 = omega arith in
    let h : l.i - 1 < length a.tags.now = omega arith in record {
      walked = λ root second.
          outer_turn a.tags.now c.requires.small second root a.left.now l.left c.reach-s.new.left (tally_of l.s) (tally_of c.reach-s.result) (l.i - 1) c.requires.long h (rw back at (l.invariant.walked root second)) (e.reaches.legs root second) (e.reaches.tally root second);
      within = omega arith;
      sequence = e.reaches.sequence;
      few = omega (arith, e.reaches.few);
      stands = e.stands_after;
    }
