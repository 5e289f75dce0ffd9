use Rattle.std.proofs.Common.{rules, tests, sym, ◌∙◌, eqb}
use Rattle.std.proofs.lemmas.Iterator.{YieldsList-from_slice}
use Rattle.std.proofs.lemmas.Iterator.Search.{all_from_yields_List}
use Rattle.roots.proofs.Laws.{all_spaces}
use Rattle.roots.proofs.are_spaces.Goals as goal

pub returns : goal.returns
returns c =
    all_from_yields_List (λ b. eqb b 32) _ _ _ c.all.ensures.ran (YieldsList-from_slice c.args.tail.now cc) (λ x b q k. search (rules, tests))
    ∙ sym (all_spaces c.args.tail.now)
