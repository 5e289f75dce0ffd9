use Rattle.std.proofs.Common.{◌≡◌, true, false, not, ◌&&◌, ◌||◌, refl, sym, ap, ◌∙◌, arith}
use Rattle.loners.proofs.Alone.{alone_pairs}
use Rattle.tagged.specs.declared.PairTally.{PairTally}
use Rattle.tagged.specs.Tags.{none}
use Rattle.walks.proofs.Both.{one_walk, two_walks, first_few, second_few}
use Rattle.pairing.proofs.tally.Goals as goal
use Rattle.pairing.proofs.tally.Goals.{then-european-via-then-european, then-european-via-else-european+then-not-alone, then-alone, else-alone}

pub joined-requires : goal.joined-requires
joined-requires c = (first_few 0 c.requires c.walk-pairs.ensures, omega (arith, ap (λ (t : PairTally). t.pairs) c.loners-alone.ensures, alone_pairs none c.args.tags.now c.walk-pairs.new.left))

-- The first walk and its loners.
pub returns-then-european : goal.returns-then-european
returns-then-european c root =
    let alone = c.loners-alone.result in
    let test : c.args.european || not (alone.debit && alone.credit) ≡ true = elim c.then-european.branch [
      | then-european-via-then-european w ↦ rw w.if-european.true refl
      | then-european-via-else-european+then-not-alone w ↦ elim w.if-alone.branch [
        | then-alone k ↦ let e : alone.credit ≡ false = sym k.value-is ∙ w.if-not-alone.true in rw (w.if-european.false, k.if-alone.true, e) refl
        | else-alone k ↦ rw (w.if-european.false, k.if-alone.false) refl
      ]
    ] in
    one_walk root c.requires c.walk-pairs.ensures c.args.european alone c.joined.result c.loners-alone.ensures test c.joined.ensures

pub joined-requires-2 : goal.joined-requires-2
joined-requires-2 c = (first_few 0 c.requires c.walk-pairs.ensures, second_few 0 c.requires c.walk-pairs.ensures c.second_walk.result (c.second_walk.ensures 0))

-- The second walk too, where both sides are left open.
pub returns : goal.returns
returns c root =
    rw c.if-european.false (two_walks root c.requires c.walk-pairs.ensures c.second_walk.result (c.second_walk.ensures root) c.joined-2.result c.joined-2.ensures)
