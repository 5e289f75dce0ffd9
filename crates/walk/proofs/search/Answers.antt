use Rattle.std.proofs.Common.{◌∙◌, inl, inr, arith}
use Rattle.walk.proofs.Reaching.{test_small, shown}
use Rattle.walk.proofs.Turns.{begins, counted, none_behind, again, turned, skipped, reaches, counts}
use Rattle.walk.proofs.search.Goals as goal
use Rattle.walk.proofs.search.Goals.{then-m-ne0, else-m-ne0, else-loop-at-test, then-loop-at-test+then-x-eq0, then-x-eq0-via-then-x-eq0, then-x-eq0-via-else-x-eq0+then-not-shows_other}

pub loop-at-init : goal.loop-at-init
loop-at-init c =
    let a = c.args in
    begins a.tags.now a.left.now a.i a.s c.requires.in_sequence.0 (omega arith) c.requires.counts.0 c.requires.counts.1

pub shows_other-requires : goal.shows_other-requires
shows_other-requires c =
    let v = c.loop-at.invariant in
    test_small v.sequence c.args.i (omega arith) c.loop-at.r.figure (counted (omega arith) v) c.sign_of-sign.ensures

pub meet-r-requires-clause-matched : goal.meet-r-requires-clause-matched
meet-r-requires-clause-matched c =
    let v = c.loop-at.invariant in
    let e = shown v.sequence c.args.i (omega arith) c.loop-at.r.figure (counted (omega arith) v) c.sign_of-sign.ensures c.shows_other.ensures ∙ c.if-not-shows_other.false in
    (omega arith, again (omega arith) v (omega arith) (omega arith) e c.min-m.ensures, counted (omega arith) v, e)

pub loop-at-preserved : goal.loop-at-preserved
loop-at-preserved c =
    let v = c.loop-at.invariant in
    let e = shown v.sequence c.args.i (omega arith) c.loop-at.r.figure (counted (omega arith) v) c.sign_of-sign.ensures c.shows_other.ensures ∙ c.if-not-shows_other.false in
    elim c.if-m-ne0.branch [
      | then-m-ne0 w ↦ rw (w.left-is, w.r-is, w.x-is) (turned (omega arith) v (omega arith) (omega arith) e c.min-m.ensures w.meet-r.ensures)
      | else-m-ne0 w ↦ rw (w.left-is, w.r-is, w.x-is) (skipped (omega arith) v (omega arith) (omega arith) e c.min-m.ensures (omega arith))
    ]

pub returns-clause-reaches : goal.returns-clause-reaches
returns-clause-reaches c =
    let v = c.loop-at.invariant in
    reaches (omega arith) v c.requires.in_sequence.0.long
    (elim c.loop-at-test.branch [
      | else-loop-at-test w ↦ none_behind (omega arith) v (omega arith)
      | then-loop-at-test+then-x-eq0 w ↦ elim w.then-x-eq0.branch [
        | then-x-eq0-via-then-x-eq0 k ↦ inl (omega arith)
        | then-x-eq0-via-else-x-eq0+then-not-shows_other k ↦ inr (shown v.sequence c.args.i (omega arith) c.loop-at.r.figure (counted (omega arith) v) c.sign_of-sign.ensures k.shows_other.ensures ∙ k.if-not-shows_other.true)
      ]
    ])

pub returns-clause-counts_after : goal.returns-clause-counts_after
returns-clause-counts_after c = (counts (omega arith) c.loop-at.invariant, c.loop-at.invariant.group)
