use Rattle.std.proofs.Common.{◌≡◌, ℕ, ◌+◌, ◌/◌, ◌%◌, get_or, ap, ◌∙◌, arith}
use Rattle.std.proofs.Math.Seq.{drop-set-lt}
use Rattle.loops.proofs.Filling.{fill_turn, next_same, rest_same}
use Rattle.keys.proofs.arrange.Goals as goal

pub loop-i-preserved : goal.loop-i-preserved
loop-i-preserved c =
    let l = c.loop-i in
    let v = l.invariant in
    let xs = c.args.places.now in
    let sizes = c.args.sizes.now in
    let same : get_or l.places l.i 0 ≡ get_or xs l.i 0 = next_same 0 xs l.places l.i (omega arith) (omega arith) v.others in record {
      each_tag = fill_turn 0 (λ p. p / 16) xs l.places l.i _ (omega arith) (omega arith) (ap (λ (q : ℕ). q / 16) same) v.each_tag;
      others = drop-set-lt (l.i + 1) l.places l.i _ (omega arith) ∙ rest_same 0 xs l.places l.i (omega arith) (omega arith) v.others;
      each_left = fill_turn 0 (λ p. get_or sizes (p % 16) 0) xs l.left l.i _ (omega arith) (omega arith) (ap (λ (q : ℕ). get_or sizes (q % 16) 0) same) v.each_left;
    }
