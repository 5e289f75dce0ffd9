use Rattle.std.proofs.Common.{rules, tests, sym, ◌∙◌, ◌&&◌, leb, ltb}
use Rattle.std.proofs.lemmas.Iterator.{YieldsList-from_slice}
use Rattle.std.proofs.lemmas.Iterator.Search.{all_from_yields_List}
use Rattle.digits.proofs.Laws.{all_digits}
use Rattle.digits.proofs.are_digits.Goals as goal

pub returns : goal.returns
returns c =
    all_from_yields_List (λ b. leb 48 b && ltb b 58) _ _ _ c.all.ensures.ran (YieldsList-from_slice c.args.s.now cc) (λ x b q k. search (rules, tests))
    ∙ sym (all_digits c.args.s.now)
