-- What `all` finds of the limits.
use Rattle.std.proofs.Common.{◌∙◌, rules, tests}
use Rattle.std.proofs.lemmas.Iterator.{YieldsList-from_slice}
use Rattle.std.proofs.lemmas.Iterator.Search.{all_from_yields_List}
use Rattle.rules.specs.Session.{is_rejection_limit}
use Rattle.session_start.proofs.Laws.{all_limits}
use Rattle.session_start.proofs.are_limits.Goals as goal

pub returns : goal.returns
returns c =
    let ns = c.args.limits.now in
    all_from_yields_List is_rejection_limit _ _ c.all.result c.all.ensures.ran (YieldsList-from_slice ns (cc)) (λ x b q k. search (rules, tests)) ∙ all_limits ns
