-- What `any` finds over the places of the logins, of the logins themselves.
use Rattle.std.proofs.Common.{◌∙◌, rules, tests, refl}
use Rattle.std.proofs.lemmas.Iterator.{YieldsList-from_range}
use Rattle.std.proofs.lemmas.Iterator.Search.{any_from_yields_List}
use Rattle.rules.specs.Session.{login_at, is_bad_login}
use Rattle.session.proofs.Survey.{any_login}
use Rattle.session.proofs.some_bad.Goals as goal

pub returns : goal.returns
returns c =
    let s = c.args.session.now in
    any_from_yields_List (λ k. is_bad_login (login_at s k)) _ _ c.any.result c.any.ensures.ran (YieldsList-from_range 0 32 32 (cc) refl) (λ x b q k. search (rules, tests)) ∙ any_login s is_bad_login 32 0
