-- Document 02, S-6: what is promised of every list of orders and releases from a session's start.
use Rattle.std.specs.Prelude.{◌≡◌, List, true, false, cond, not, ◌&&◌, ◌||◌, ℕ, ◌≤◌, ◌<◌, length, get_or, eqb, leb, ltb}
use Rattle.rules.specs.Lists.{all}
use Rattle.rules.specs.Kinds.{is_accepted, is_rejected, is_refused}
use Rattle.rules.specs.Numbers.{refused}
use Rattle.rules.specs.Tally.{Call, own_answer, how_many}
use Rattle.rules.specs.Session.{login_at, is_bad_session, in_all, is_full, is_restricted, check_in_session, release_login, start_session}
use Rattle.session_theorems.specs.Calls.{SessionCall, login_of, after, session_after, is_before_limit, own_calls, own_answers, own_numbers, all_numbers, turns_away, since_release, has_no_release}

-- "Over every two lists of orders and releases from a session's start, a login with the same limit and the same calls in the same sequence gets the same answers, others' parts of the session aside, while neither has reached the session limit."

-- login `i` after the calls `cs` from `s`, and after `ds` from `t`
pub record Alike (i : ℕ) (s : List ℕ) (cs : List SessionCall) (t : List ℕ) (ds : List SessionCall) : Type 0 where
  pub answers : own_answers i s cs ≡ own_answers i t ds
  -- its part of the session
  pub part : login_at (session_after s cs) i ≡ login_at (session_after t ds) i

-- of any login number, one above 31 too; whatever limits the sessions were started with, those that get 9 too, and whatever the 192 numbers were before
abbrev pub Isolation : Type 0
Isolation = (i : ℕ) (limits limits' lent lent' : List ℕ) → length lent ≡ 192 → length lent' ≡ 192
    → let s = (start_session limits lent).session in
    let t = (start_session limits' lent').session in
    (login_at s i).limit ≡ (login_at t i).limit → (cs ds : List SessionCall) → own_calls i cs ≡ own_calls i ds → is_before_limit s cs ≡ true → is_before_limit t ds ≡ true → Alike i s cs t ds

-- the base's theorem on tallies, by login: 12, 34 and 35 left out, and releases
pub record OwnTally (i : ℕ) (s : List ℕ) (cs : List SessionCall) : Type 0 where
  pub seen : (login_at (session_after s cs) i).tally.seen ≡ how_many (λ n. not (turns_away n)) (own_numbers i s cs)
  pub refused : (login_at (session_after s cs) i).tally.refused ≡ how_many (λ n. is_refused n && not (turns_away n)) (own_numbers i s cs)
  pub accepted : (login_at (session_after s cs) i).tally.accepted ≡ how_many is_accepted (own_numbers i s cs)
  pub rejected : (login_at (session_after s cs) i).tally.rejected ≡ how_many is_rejected (own_numbers i s cs)

-- login `i` after the calls `cs` from a start with `limits` that gave 0
pub record Kept (limits : List ℕ) (s : List ℕ) (cs : List SessionCall) (i : ℕ) : Type 0 where
  -- "fixed for the session"
  pub limit : (login_at (session_after s cs) i).limit ≡ get_or limits i 0
  pub tally : OwnTally i s cs
  -- "rejections since the start or its last release"
  pub running : (login_at (session_after s cs) i).running ≡ since_release i s cs 0
  -- "At that many rejections [..] it is restricted"
  pub restricted : is_restricted (login_at (session_after s cs) i) ≡ leb (get_or limits i 0) (since_release i s cs 0)

-- a restricted login over calls without its release: 35, or 12 once the session limit is reached, and its part of the session stays
pub record Restricted (i : ℕ) (u : List ℕ) (ds : List SessionCall) : Type 0 where
  pub numbers : all (λ n. eqb n 35 || eqb n 12) (own_numbers i u ds) ≡ true
  pub before : is_before_limit u ds ≡ true → all (λ n. eqb n 35) (own_numbers i u ds) ≡ true
  pub part : login_at (session_after u ds) i ≡ login_at u i

-- what a session `u` that was reached gives to the next call
pub record Next (u : List ℕ) : Type 0 where
  pub good : is_bad_session u ≡ false
  -- so 12 is of the session limit alone, and of orders alone
  pub twelve : (i : ℕ) (c : Call) → (check_in_session u i c).answer.number ≡ 12 → is_full u ≡ true
  pub full : (i : ℕ) (c : Call) → i ≤ 31 → is_full u ≡ true → (check_in_session u i c).answer ≡ refused 12
  pub release : (i : ℕ) → (release_login u i).number ≡ cond (ltb 31 i) 34 0
  -- a restricted login's order gets 35, 12 once the session limit is reached
  pub restricted : (i : ℕ) (c : Call) → i ≤ 31 → is_restricted (login_at u i) ≡ true → (check_in_session u i c).answer ≡ refused (cond (is_full u) 12 35)
  -- "until the host releases it"
  pub until : (i : ℕ) (ds : List SessionCall) → i ≤ 31 → is_restricted (login_at u i) ≡ true → has_no_release i ds ≡ true → Restricted i u ds
  -- any other's order gets what the order check gives, before the session limit
  pub free : (i : ℕ) (c : Call) → i ≤ 31 → is_restricted (login_at u i) ≡ false → is_full u ≡ false → (check_in_session u i c).answer ≡ own_answer c

pub record SessionTheorem : Type 0 where
  pub isolation : Isolation
  -- its condition holds of every list of up to 1,000,000 calls
  pub short : (limits lent : List ℕ) → length lent ≡ 192 → (cs : List SessionCall) → length cs ≤ 1000000 → is_before_limit (start_session limits lent).session cs ≡ true
  -- from every start that gave 0
  pub kept : (limits lent : List ℕ) → (start_session limits lent).number ≡ 0 → (cs : List SessionCall) (i : ℕ) → Kept limits (start_session limits lent).session cs i
  pub next : (limits lent : List ℕ) → (start_session limits lent).number ≡ 0 → (cs : List SessionCall) → Next (session_after (start_session limits lent).session cs)
  -- "orders tallied in all"
  pub tallied : (limits lent : List ℕ) → (start_session limits lent).number ≡ 0 → (cs : List SessionCall) → let s = (start_session limits lent).session in in_all (session_after s cs) ≡ how_many (λ n. not (turns_away n)) (all_numbers s cs)
  -- of any session at all: an order that is not turned away gets what the order check gives
  pub same : (s : List ℕ) (i : ℕ) (c : Call) → turns_away (check_in_session s i c).answer.number ≡ false → (check_in_session s i c).answer ≡ own_answer c
  -- "34 for a login above 31, before everything"
  pub beyond : (s : List ℕ) (i : ℕ) (c : Call) → 31 < i → ((check_in_session s i c).answer ≡ refused 34) × ((release_login s i).number ≡ 34)
  -- and a call changes no other login
  pub others : (s : List ℕ) (c : SessionCall) (j : ℕ) → (j ≡ login_of c → ⊥) → login_at (after s c) j ≡ login_at s j
