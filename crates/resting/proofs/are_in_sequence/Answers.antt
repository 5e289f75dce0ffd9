-- What `is_sorted_by` finds of the prices.
use Rattle.std.proofs.Common.{arith, true, false}
use Rattle.std.proofs.lemmas.Bool.Decides.{nat_tests}
use Rattle.std.proofs.lemmas.List.Sorted.{answers_always}
use Rattle.resting.proofs.Laws.{before, sequence_found}
use Rattle.resting.proofs.are_in_sequence.Goals as goal

pub returns-then-bought : goal.returns-then-bought
returns-then-bought c =
    let ps = c.args.prices.now in
    rw c.if-bought.true
    (sequence_found true ps _ (c.is_sorted_by.ensures.cases (before true) (answers_always _ _ _ (λ f a r g h. grind (arith, nat_tests)))))

pub returns-else-bought : goal.returns-else-bought
returns-else-bought c =
    let ps = c.args.prices.now in
    rw c.if-bought.false
    (sequence_found false ps _ (c.is_sorted_by-else-bought.ensures.cases (before false) (answers_always _ _ _ (λ f a r g h. grind (arith, nat_tests)))))
