-- Document 02, S-6: a tally for each login.
use Rattle.std.specs.Prelude.{List, [], ◌∷◌, ◌++◌, map, Bool, true, false, cond, not, ◌&&◌, ◌||◌, ℕ, zero, suc, ◌+◌, ◌*◌, length, take, drop, get_or, replicate, eqb, leb, ltb}
use Rattle.rules.specs.declared.Login.{Login}
use Rattle.rules.specs.declared.OrderAnswer.{OrderAnswer}
use Rattle.rules.specs.Limits.{within}
use Rattle.rules.specs.Lists.{all, any, total}
use Rattle.rules.specs.Kinds.{is_rejected}
use Rattle.rules.specs.Numbers.{first_of, outcome}
use Rattle.rules.specs.Tally.{is_broken, one_more, counted, fresh, Call, own_answer}

-- "keep a tally for each of 32 logins, 0 to 31": a session as the host lends it is 192 numbers, six for each login

-- login `i`
unfoldable pub login_at : List ℕ → ℕ → Login
login_at s i =
    record {
      limit = get_or s (6 * i) 0;
      tally = record { seen = get_or s (6 * i + 1) 0; refused = get_or s (6 * i + 2) 0; accepted = get_or s (6 * i + 3) 0; rejected = get_or s (6 * i + 4) 0 };
      running = get_or s (6 * i + 5) 0;
    }

-- a login's six numbers
abbrev pub login_numbers : Login → List ℕ
login_numbers l = l.limit ∷ l.tally.seen ∷ l.tally.refused ∷ l.tally.accepted ∷ l.tally.rejected ∷ l.running ∷ []

-- the session with another login `i`
unfoldable pub with_login : List ℕ → ℕ → Login → List ℕ
with_login s i l = take (6 * i) s ++ (login_numbers l ++ drop (6 * i + 6) s)

-- `n` logins from `i` on
unfoldable pub logins_from : ℕ → ℕ → List ℕ → List Login
logins_from zero i s = []
logins_from (suc n) i s = login_at s i ∷ logins_from n (suc i) s

-- all 32
abbrev pub logins : List ℕ → List Login
logins s = logins_from 32 0 s

-- as many numbers as 32 logins have
abbrev pub is_whole_session : List ℕ → Bool
is_whole_session s = eqb (length s) 192

-- "Each login has its own rejection limit, 1 to 10,000"
abbrev pub is_rejection_limit : ℕ → Bool
is_rejection_limit n = within 1 10000 n

-- "a limit outside its range, a tally whose seen is not its other three together, or a running number above its limit or its rejected"
unfoldable pub is_bad_login : Login → Bool
is_bad_login l = not (is_rejection_limit l.limit) || (is_broken l.tally || (ltb l.limit l.running || ltb l.tally.rejected l.running))

-- of any of the 32 logins; a session of another length is none
unfoldable pub is_bad_session : List ℕ → Bool
is_bad_session s = not (is_whole_session s) || any is_bad_login (logins s)

-- "orders tallied in all"
unfoldable pub in_all : List ℕ → ℕ
in_all s = total (map (λ l. l.tally.seen) (logins s))

-- "under one session limit: from 1,000,000 orders tallied in all"
abbrev pub is_full : List ℕ → Bool
is_full s = leb 1000000 (in_all s)

-- "At that many rejections since the start or its last release it is restricted until the host releases it."
abbrev pub is_restricted : Login → Bool
is_restricted l = leb l.limit l.running

-- "orders, not releases, get 12" from the session limit on; "Orders and releases get 12 for a session with [..]"
abbrev pub gets_twelve : Bool → List ℕ → Bool
gets_twelve is_order s = is_bad_session s || is_order && is_full s

-- "Turned away: 34 for a login above 31, before everything; 35 for a restricted one's order, after 12 and before 30"
abbrev pub turnings : Bool → List ℕ → ℕ → List (Bool × ℕ)
turnings is_order s i = (ltb 31 i, 34) ∷ (gets_twelve is_order s, 12) ∷ cond is_order ((is_restricted (login_at s i), 35) ∷ []) []

-- the number that turns away an order of login `i`, or its release; 0 if none does
unfoldable pub turned_away : Bool → List ℕ → ℕ → ℕ
turned_away is_order s i = first_of (turnings is_order s i)

-- where nothing turned the call away (0) the session is the changed one, else the one that came
abbrev pub changed_by : ℕ → List ℕ → List ℕ → List ℕ
changed_by zero s changed = changed
changed_by (suc n) s changed = s

-- the step of a login, by the number that its order got
abbrev pub counted_login : Login → ℕ → Login
counted_login l n = record { limit = l.limit; tally = counted l.tally n; running = one_more (is_rejected n) l.running }

-- what an order of a login gets, and the session after it
pub record SessionAnswer : Type 0 where
  pub answer : OrderAnswer
  pub session : List ℕ

-- one order of login `i`, by slices or as a message: "neither changes the session, a tally to demand 1"
unfoldable pub check_in_session : List ℕ → ℕ → Call → SessionAnswer
check_in_session s i c =
    let n = turned_away true s i in
    record { answer = outcome n (own_answer c); session = changed_by n s (with_login s i (counted_login (login_at s i) (own_answer c).number)) }

-- a number and the session after it
pub record SessionLeft : Type 0 where
  pub number : ℕ
  pub session : List ℕ

-- "A release gives 0 and zeroes that running number only."
abbrev pub released_login : Login → Login
released_login l = record { limit = l.limit; tally = l.tally; running = 0 }

-- a release of login `i`
unfoldable pub release_login : List ℕ → ℕ → SessionLeft
release_login s i =
    let n = turned_away false s i in
    record { number = n; session = changed_by n s (with_login s i (released_login (login_at s i))) }

-- a login at the start of a session
abbrev pub fresh_login : ℕ → Login
fresh_login limit = record { limit = limit; tally = fresh; running = 0 }

-- a session of fresh logins with these limits
unfoldable pub session_of : List ℕ → List ℕ
session_of [] = []
session_of (limit ∷ limits) = login_numbers (fresh_login limit) ++ session_of limits

-- "starting a session with another value gives 9 and an all-zero session"; limits that are not 32 are other values, and a session of another length gets 12 before and stays as it is
abbrev pub start_refusals : List ℕ → List ℕ → List (Bool × ℕ)
start_refusals limits s = (not (is_whole_session s), 12) ∷ (not (eqb (length limits) 32 && all is_rejection_limit limits), 9) ∷ []

-- a start, by its number
unfoldable pub start_session : List ℕ → List ℕ → SessionLeft
start_session limits s =
    let n = first_of (start_refusals limits s) in
    record { number = n; session = cond (eqb n 12) s (cond (eqb n 0) (session_of limits) (replicate 192 0)) }
