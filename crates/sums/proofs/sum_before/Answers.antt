-- The fold adds the bytes one by one.
use Rattle.std.proofs.Common.{◌∙◌, ◌+◌, ◌%◌, take, arith, rules, tests}
use Rattle.std.proofs.lemmas.Iterator.{YieldsList-from_slice}
use Rattle.std.proofs.lemmas.Iterator.Consumers.{fold_from_yields_List}
use Rattle.sums.proofs.Laws.{sum_lem}
use Rattle.sums.proofs.sum_before.Goals as goal

pub returns : goal.returns
returns c =
    let bytes = take c.args.to c.args.message.now in
    let added = fold_from_yields_List _ (λ s b. (s + b) % 256) 0 c.fold-sum.result c.fold-sum.ensures.ran (YieldsList-from_slice bytes cc) (λ s x b q k. search (rules, tests)) in
    let sum = added ∙ sum_lem bytes in
    omega arith
