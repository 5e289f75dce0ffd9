-- The words of the theorem by computing them: a list of calls of three logins with what each gets, and where the theorem's conditions hold.
use Rattle.std.specs.Prelude.{List, [], ◌∷◌, true, false, ℕ}
use Rattle.rules.specs.declared.OrderAnswer.{OrderAnswer}
use Rattle.rules.specs.Numbers.{refused}
use Rattle.rules.specs.Session.{with_login}
use Rattle.rules.specs.Edges.{Hold, answers}
use Rattle.rules.specs.Sessions.{login, started, having, sound, wrong}
use Rattle.session_theorems.specs.Calls.{SessionCall, ordered, released, session_after, is_before_limit, own_calls, own_answers, own_numbers, all_numbers, turns_away, since_release, has_no_release}

-- login 7 is restricted by its second rejection, and released; there is no login 32
abbrev calls : List SessionCall
calls = ordered 7 wrong ∷ ordered 8 sound ∷ ordered 7 wrong ∷ ordered 7 sound ∷ released 7 ∷ ordered 7 wrong ∷ ordered 32 sound ∷ []

abbrev releases : List SessionCall
releases = released 7 ∷ released 8 ∷ []

-- 999,999 and 1,000,000 tallied in all
abbrev almost : List ℕ
almost = having 5 (login 2 999999 999999 0 0 0)

abbrev full : List ℕ
full = having 5 (login 2 1000000 1000000 0 0 0)

abbrev rejected : OrderAnswer
rejected = answers 23 1 1 1

pub record Cases : Type 0 where
  pub own : Hold ((own_calls 8 calls, ordered 8 sound ∷ []) ∷ (own_calls 7 releases, released 7 ∷ []) ∷ (own_calls 9 calls, []) ∷ [])
  pub given : Hold ((own_answers 7 started calls, rejected ∷ rejected ∷ refused 35 ∷ refused 0 ∷ rejected ∷ []) ∷ (own_answers 8 started calls, answers 0 1 1 1 ∷ []) ∷ (own_answers 32 started calls, refused 34 ∷ []) ∷ [])
  -- releases have no number of an order
  pub numbers : Hold ((own_numbers 7 started calls, 23 ∷ 23 ∷ 35 ∷ 23 ∷ []) ∷ (all_numbers started calls, 23 ∷ 0 ∷ 23 ∷ 35 ∷ 23 ∷ 34 ∷ []) ∷ [])
  pub session : Hold ((session_after started calls, with_login (having 7 (login 2 3 0 0 3 1)) 8 (login 2 1 0 1 0 0)) ∷ [])
  pub since : Hold ((since_release 7 started calls 0, 1) ∷ (since_release 8 started calls 0, 0) ∷ [])
  pub away : Hold ((turns_away 12, true) ∷ (turns_away 34, true) ∷ (turns_away 35, true) ∷ (turns_away 0, false) ∷ (turns_away 9, false) ∷ (turns_away 23, false) ∷ (turns_away 30, false) ∷ [])
  -- each call comes before the limit: the one that reaches it too, and the next does not
  pub before : Hold (
      (is_before_limit started calls, true)
      ∷ (is_before_limit almost releases, true)
      ∷ (is_before_limit almost (ordered 7 sound ∷ []), true)
      ∷ (is_before_limit almost (ordered 7 sound ∷ released 7 ∷ []), false)
      ∷ (is_before_limit full releases, false)
      ∷ (is_before_limit full [], true)
      ∷ [])
  pub without : Hold ((has_no_release 7 [], true) ∷ (has_no_release 7 calls, false) ∷ (has_no_release 8 calls, true) ∷ (has_no_release 8 releases, false) ∷ [])
