-- Document 02, S-6: lists of orders and releases of all logins, in any sequence, and what each gets.
use Rattle.std.specs.Prelude.{List, [], ◌∷◌, Bool, true, false, cond, not, ◌&&◌, ◌||◌, ℕ, eqb}
use Rattle.rules.specs.declared.OrderAnswer.{OrderAnswer}
use Rattle.rules.specs.Kinds.{is_rejected}
use Rattle.rules.specs.Tally.{one_more, Call}
use Rattle.rules.specs.Session.{is_full, check_in_session, release_login}

-- an order of a login, by slices or as a message, or its release
pub data SessionCall : Type 0 where
  ordered : (i : ℕ) (c : Call) → SessionCall
  released : (i : ℕ) → SessionCall

abbrev pub login_of : SessionCall → ℕ
login_of (ordered i c) = i
login_of (released i) = i

abbrev pub is_order : SessionCall → Bool
is_order (ordered i c) = true
is_order (released i) = false

-- what a call gets: of a release its number, and zeros
abbrev pub answered : List ℕ → SessionCall → OrderAnswer
answered s (ordered i c) = (check_in_session s i c).answer
answered s (released i) = record { number = (release_login s i).number; class = 0; shape = 0; pairings = 0 }

-- the session after it
abbrev pub after : List ℕ → SessionCall → List ℕ
after s (ordered i c) = (check_in_session s i c).session
after s (released i) = (release_login s i).session

-- and after a list of them
unfoldable pub session_after : List ℕ → List SessionCall → List ℕ
session_after s [] = s
session_after s (c ∷ cs) = session_after (after s c) cs

-- "while [it has not] reached the session limit": each call of the list comes before
unfoldable pub is_before_limit : List ℕ → List SessionCall → Bool
is_before_limit s [] = true
is_before_limit s (c ∷ cs) = not (is_full s) && is_before_limit (after s c) cs

abbrev pub is_of : ℕ → SessionCall → Bool
is_of i c = eqb (login_of c) i

-- the calls of login `i`
unfoldable pub own_calls : ℕ → List SessionCall → List SessionCall
own_calls i [] = []
own_calls i (c ∷ cs) = cond (is_of i c) (c ∷ own_calls i cs) (own_calls i cs)

-- what they get
unfoldable pub own_answers : ℕ → List ℕ → List SessionCall → List OrderAnswer
own_answers i s [] = []
own_answers i s (c ∷ cs) = let rest = own_answers i (after s c) cs in cond (is_of i c) (answered s c ∷ rest) rest

-- the numbers of the orders that pass a test
unfoldable pub order_numbers_of : (SessionCall → Bool) → List ℕ → List SessionCall → List ℕ
order_numbers_of f s [] = []
order_numbers_of f s (c ∷ cs) = let rest = order_numbers_of f (after s c) cs in cond (is_order c && f c) ((answered s c).number ∷ rest) rest

-- of login `i`, and of all
abbrev pub own_numbers : ℕ → List ℕ → List SessionCall → List ℕ
own_numbers i s cs = order_numbers_of (is_of i) s cs

abbrev pub all_numbers : List ℕ → List SessionCall → List ℕ
all_numbers s cs = order_numbers_of (λ c. true) s cs

-- 12, 34 and 35 turn an order away: it is tallied nowhere
abbrev pub turns_away : ℕ → Bool
turns_away n = eqb n 12 || (eqb n 34 || eqb n 35)

-- "rejections since the start or its last release", `k` before the list
unfoldable pub since_release : ℕ → List ℕ → List SessionCall → ℕ → ℕ
since_release i s [] k = k
since_release i s (c ∷ cs) k = since_release i (after s c) cs (cond (is_of i c) (cond (is_order c) (one_more (is_rejected (answered s c).number) k) 0) k)

-- no release of login `i` in a list
unfoldable pub has_no_release : ℕ → List SessionCall → Bool
has_no_release i [] = true
has_no_release i (c ∷ cs) = (is_order c || not (is_of i c)) && has_no_release i cs
