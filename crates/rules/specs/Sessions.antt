-- Document 02, S-6, by computing its definitions: the layout, and each limit on both sides. What lists of calls get is computed in `session_theorems`.
use Rattle.std.specs.Prelude.{List, [], ◌∷◌, ◌++◌, true, false, ℕ, ◌^◌, ◌-◌, drop, replicate, ℤ, pos}
use Rattle.rules.specs.declared.Login.{Login}
use Rattle.rules.specs.declared.OrderAnswer.{OrderAnswer}
use Rattle.rules.specs.Order.{Lent, symbols_of, counts_of}
use Rattle.rules.specs.Numbers.{refused}
use Rattle.rules.specs.Examples.{example_settings, example_market, minus, calls}
use Rattle.rules.specs.Edges.{Hold, answers}
use Rattle.rules.specs.Tally.{Call, order, message}
use Rattle.rules.specs.Session.{login_at, with_login, is_bad_login, is_bad_session, is_full, turned_away, counted_login, SessionAnswer, check_in_session, SessionLeft, release_login, session_of, start_session}

-- a login by its six numbers
abbrev pub login : ℕ → ℕ → ℕ → ℕ → ℕ → ℕ → Login
login limit seen refused accepted rejected running = record { limit = limit; tally = record { seen = seen; refused = refused; accepted = accepted; rejected = rejected }; running = running }

-- 32 fresh logins that two rejections restrict, and such a session with another login
abbrev pub started : List ℕ
started = session_of (replicate 32 2)

abbrev pub having : ℕ → Login → List ℕ
having i l = with_login started i l

-- a limit order by slices; a vertical bought: 0 where paid for, 23 where received
abbrev ordered : List Lent → ℤ → Call
ordered ls price =
    order (record { settings = example_settings 0; market = example_market; price = price; kind = 0; stop = 0; manual = 0; opening = 0; shares = pos 0 }) (symbols_of ls) (counts_of ls)

abbrev bought : ℤ → Call
bought price = ordered (calls (pos 1) 20 ∷ calls (minus 1) 30 ∷ []) price

abbrev pub sound : Call
sound = bought (pos 5000)

abbrev pub wrong : Call
wrong = bought (minus 5000)

-- no leg: 3; no message: 30
abbrev empty : Call
empty = ordered [] (pos 5000)

abbrev unframed : Call
unframed = message (record { settings = example_settings 0; market = example_market; stop = 0; manual = 0; opening = 0 }) []

abbrev answered : OrderAnswer → List ℕ → SessionAnswer
answered answer s = record { answer = answer; session = s }

abbrev left : ℕ → List ℕ → SessionLeft
left n s = record { number = n; session = s }

-- the least number that no word holds
abbrev word : ℕ
word = 2 ^ 64

-- two logins: 999,999 and 1,000,000 seen in all; more than a word holds
abbrev almost : List ℕ
almost = with_login (having 0 (login 2 999000 999000 0 0 0)) 31 (login 2 999 0 999 0 0)

-- rejected orders among them
abbrev full_of_rejected : List ℕ
full_of_rejected = with_login (having 0 (login 2 1000 1000 0 0 0)) 30 (login 2 999000 0 0 999000 0)

abbrev full : List ℕ
full = with_login (having 0 (login 2 999000 999000 0 0 0)) 31 (login 2 1000 0 1000 0 0)

abbrev beyond_word : List ℕ
beyond_word = with_login (having 0 (login 2 (word - 1) (word - 1) 0 0 0)) 31 (login 2 1 1 0 0 0)

-- the first two logins of a session, as its numbers
abbrev two : List ℕ
two = 9 ∷ 0 ∷ 0 ∷ 0 ∷ 0 ∷ 0 ∷ 5 ∷ 9 ∷ 1 ∷ 2 ∷ 6 ∷ 3 ∷ []

pub record Sessions : Type 0 where
  -- limit, seen, refused, accepted, rejected, running: read and written
  pub places : Hold ((login_at two 0, login 9 0 0 0 0 0) ∷ (login_at two 1, login 5 9 1 2 6 3) ∷ [])
  pub written : Hold ((with_login (replicate 18 7) 1 (login 5 9 1 2 6 3), replicate 6 7 ++ (5 ∷ 9 ∷ 1 ∷ 2 ∷ 6 ∷ 3 ∷ replicate 6 7)) ∷ [])
  -- the running number: one more by 20 to 26, the same by all others
  pub counting : Hold (
      (counted_login (login 5 9 3 4 2 1) 20, login 5 10 3 4 3 2)
      ∷ (counted_login (login 5 9 3 4 2 1) 26, login 5 10 3 4 3 2)
      ∷ (counted_login (login 5 9 3 4 2 1) 0, login 5 10 3 5 2 1)
      ∷ (counted_login (login 5 9 3 4 2 1) 11, login 5 10 4 4 2 1)
      ∷ (counted_login (login 5 9 3 4 2 1) 30, login 5 10 4 4 2 1)
      ∷ [])
  -- a limit outside 1 to 10,000; a sum that is not that of the parts, nor where it is in a word; a running number above the limit, or above what was rejected
  pub logins : Hold (
      (is_bad_login (login 1 0 0 0 0 0), false)
      ∷ (is_bad_login (login 10000 0 0 0 0 0), false)
      ∷ (is_bad_login (login 0 0 0 0 0 0), true)
      ∷ (is_bad_login (login 10001 0 0 0 0 0), true)
      ∷ (is_bad_login (login 5 6 1 2 3 3), false)
      ∷ (is_bad_login (login 5 5 1 2 3 3), true)
      ∷ (is_bad_login (login 5 7 1 2 3 3), true)
      ∷ (is_bad_login (login 5 0 (word - 3) 2 1 0), true)
      ∷ (is_bad_login (login 5 7 0 0 7 5), false)
      ∷ (is_bad_login (login 5 7 0 0 7 6), true)
      ∷ (is_bad_login (login 5 7 3 0 4 4), false)
      ∷ (is_bad_login (login 5 7 3 0 4 5), true)
      ∷ [])
  -- any of the 32; another length
  pub sessions : Hold (
      (is_bad_session started, false)
      ∷ (is_bad_session (having 0 (login 0 0 0 0 0 0)), true)
      ∷ (is_bad_session (having 31 (login 0 0 0 0 0 0)), true)
      ∷ (is_bad_session (drop 6 started), true)
      ∷ (is_bad_session (0 ∷ started), true)
      ∷ (is_bad_session [], true)
      ∷ [])
  -- "from 1,000,000 orders tallied in all"
  pub limit : Hold ((is_full almost, false) ∷ (is_full full, true) ∷ (is_full full_of_rejected, true) ∷ (is_full beyond_word, true) ∷ [])
  -- 34, then 12, then 35; of a release 34, then 12 without the session limit
  pub turned : Hold (
      (turned_away true started 31, 0)
      ∷ (turned_away true started 32, 34)
      ∷ (turned_away true [] 32, 34)
      ∷ (turned_away true [] 31, 12)
      ∷ (turned_away true (having 7 (login 2 1 0 0 1 1)) 7, 0)
      ∷ (turned_away true (having 7 (login 2 2 0 0 2 2)) 7, 35)
      ∷ (turned_away true (having 7 (login 2 2 0 0 2 2)) 8, 0)
      ∷ (turned_away true (having 7 (login 2 3 0 0 3 3)) 7, 12)
      ∷ (turned_away true (having 7 (login 2 3 0 0 3 3)) 8, 12)
      ∷ (turned_away true almost 7, 0)
      ∷ (turned_away true full 7, 12)
      ∷ (turned_away true (with_login full 7 (login 2 2 0 0 2 2)) 7, 12)
      ∷ (turned_away true full 32, 34)
      ∷ (turned_away false started 31, 0)
      ∷ (turned_away false started 32, 34)
      ∷ (turned_away false [] 32, 34)
      ∷ (turned_away false [] 31, 12)
      ∷ (turned_away false (having 7 (login 2 2 0 0 2 2)) 7, 0)
      ∷ (turned_away false (having 7 (login 2 3 0 0 3 3)) 8, 12)
      ∷ (turned_away false full 7, 0)
      ∷ (turned_away false beyond_word 7, 0)
      ∷ [])
  -- an order is counted in its login's tally, and a rejection in its running number; what turns an order away leaves all
  pub orders : Hold (
      (check_in_session started 7 sound, answered (answers 0 1 1 1) (having 7 (login 2 1 0 1 0 0)))
      ∷ (check_in_session started 7 wrong, answered (answers 23 1 1 1) (having 7 (login 2 1 0 0 1 1)))
      ∷ (check_in_session started 7 empty, answered (refused 3) (having 7 (login 2 1 1 0 0 0)))
      ∷ (check_in_session started 7 unframed, answered (refused 30) (having 7 (login 2 1 1 0 0 0)))
      ∷ (check_in_session (having 7 (login 2 9 3 4 2 1)) 7 wrong, answered (answers 23 1 1 1) (having 7 (login 2 10 3 4 3 2)))
      ∷ (check_in_session (having 7 (login 2 9 3 4 2 2)) 7 wrong, answered (refused 35) (having 7 (login 2 9 3 4 2 2)))
      ∷ (check_in_session (having 7 (login 2 9 3 4 2 2)) 7 unframed, answered (refused 35) (having 7 (login 2 9 3 4 2 2)))
      ∷ (check_in_session (having 7 (login 2 9 3 4 2 1)) 31 wrong, answered (answers 23 1 1 1) (with_login (having 7 (login 2 9 3 4 2 1)) 31 (login 2 1 0 0 1 1)))
      ∷ (check_in_session full 7 sound, answered (refused 12) full)
      ∷ (check_in_session started 32 sound, answered (refused 34) started)
      ∷ [])
  -- "A release gives 0 and zeroes that running number only."
  pub releases : Hold (
      (release_login (having 7 (login 2 9 3 4 2 2)) 7, left 0 (having 7 (login 2 9 3 4 2 0)))
      ∷ (release_login (having 7 (login 2 9 3 4 2 1)) 7, left 0 (having 7 (login 2 9 3 4 2 0)))
      ∷ (release_login (having 7 (login 2 9 3 4 2 2)) 8, left 0 (having 7 (login 2 9 3 4 2 2)))
      ∷ (release_login full 31, left 0 full)
      ∷ (release_login started 32, left 34 started)
      ∷ (release_login [] 7, left 12 [])
      ∷ [])
  -- the limits of a start, and the two lengths
  pub starts : Hold (
      (start_session (replicate 32 2) (replicate 192 5), left 0 started)
      ∷ (start_session (replicate 32 2) (session_of (replicate 32 3)), left 0 started)
      ∷ (start_session (10000 ∷ replicate 31 1) (replicate 192 5), left 0 (10000 ∷ (replicate 5 0 ++ drop 6 (session_of (replicate 32 1)))))
      ∷ (start_session (10001 ∷ replicate 31 1) (replicate 192 5), left 9 (replicate 192 0))
      ∷ (start_session (replicate 31 1 ++ (0 ∷ [])) (replicate 192 5), left 9 (replicate 192 0))
      ∷ (start_session (replicate 31 2) (replicate 192 5), left 9 (replicate 192 0))
      ∷ (start_session (replicate 33 2) (replicate 192 5), left 9 (replicate 192 0))
      ∷ (start_session (replicate 32 2) (replicate 191 5), left 12 (replicate 191 5))
      ∷ (start_session [] (replicate 193 5), left 12 (replicate 193 5))
      ∷ [])
