-- What `all` finds of the numbers.
use Rattle.std.proofs.Common.{◌∙◌, rules, tests}
use Rattle.std.proofs.lemmas.Iterator.{YieldsList-from_slice}
use Rattle.std.proofs.lemmas.Iterator.Search.{all_from_yields_List}
use Rattle.rules.specs.Limits.{within}
use Rattle.resting.proofs.Laws.{all_same}
use Rattle.resting.proofs.are_within.Goals as goal

pub returns : goal.returns
returns c =
    let ns = c.args.numbers.now in
    let f = within 1 c.args.most in
    all_from_yields_List f _ _ c.all.result c.all.ensures.ran (YieldsList-from_slice ns (cc)) (λ x b q k. search (rules, tests)) ∙ all_same f ns
