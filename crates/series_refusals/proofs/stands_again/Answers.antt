use Rattle.std.proofs.Common.{rules, ◌∙◌}
use Rattle.std.proofs.lemmas.Iterator.{YieldsList-from_slice, YieldsList-from_zip}
use Rattle.std.proofs.lemmas.Iterator.Search.{any_from_yields_List}
use borrow.Author.Tests.{tests}
use Rattle.series_refusals.specs.Twice.{with_root, is_same_key}
use Rattle.series_refusals.proofs.Laws.{again_beside}
use Rattle.series_refusals.proofs.stands_again.Goals as goal

pub returns : goal.returns
returns c =
    let a = c.args in
    let k = with_root a.place a.root in
    any_from_yields_List (λ p. is_same_key k (with_root p.0 p.1)) c.any.new.self _ _ c.any.ensures.ran (YieldsList-from_zip (YieldsList-from_slice a.places.now cc) (YieldsList-from_slice a.roots.now cc)) (λ x b q k. search (rules, tests))
    ∙ again_beside k a.places.now a.roots.now
