use Rattle.std.proofs.Common.{rules, ◌∙◌}
use Rattle.std.proofs.lemmas.Iterator.{YieldsList-from_slice, YieldsList-from_zip}
use Rattle.std.proofs.lemmas.Iterator.Adapters.{YieldsList-from_skip}
use Rattle.std.proofs.lemmas.Iterator.Search.{any_from_yields_List}
use borrow.Author.Tests.{tests}
use Rattle.series_refusals.specs.Twice.{is_one_key}
use Rattle.series_refusals.proofs.Laws.{next_beside}
use Rattle.series_refusals.proofs.some_next.Goals as goal

pub returns : goal.returns
returns c =
    let ps = c.args.places.now in
    any_from_yields_List (λ p. is_one_key p.0 p.1) c.any.new.self _ _ c.any.ensures.ran (YieldsList-from_zip (YieldsList-from_slice ps cc) (YieldsList-from_skip 1 (YieldsList-from_slice ps cc) cc)) (λ x b q k. search (rules, tests))
    ∙ next_beside ps
