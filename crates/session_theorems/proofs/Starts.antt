-- A session's start: fresh logins with their limits, or with no limits at all.
use mathlib.Core.Path.{◌≡◌, refl, sym, ap, ◌∙◌}
use mathlib.Core.List.{List, [], ◌∷◌}
use mathlib.Core.Bool.{Bool, true, false, cond, not, ◌&&◌, true≢false}
use Prim.Native.Nat.{ℕ, zero, suc, ◌*◌, ◌≤◌, ◌<◌}
use native.Mathlib.Omega.{arith}
use native.Mathlib.Nat.{not-suc-le-zero, le_of_suc-le-suc}
use lib.ListN.{length, get_or, replicate, get_or-replicate, get_or-eq_default}
use lib.Dec.{eqb, ltb}
use borrow.Author.Tests.{ltb-true, ltb-false, eqb-true, eq-eqb}
use Rattle.rules.specs.declared.Login.{Login}
use Rattle.rules.specs.Lists.{all, any}
use Rattle.rules.specs.Numbers.{first_of}
use Rattle.rules.specs.Tally.{is_broken}
use Rattle.rules.specs.Session.{login_at, logins_from, is_whole_session, is_rejection_limit, is_bad_login, is_bad_session, fresh_login, session_of, start_session}
use Rattle.rules.proofs.Tests.{and_both, within_both}
use Rattle.rules.proofs.Logins.{length_session, login_started, login_beyond}
use Rattle.rules.proofs.Turning.{is_good}
use Rattle.session_theorems.proofs.Goodness.{not_bad}

-- ---- which session a start leaves

abbrev are_limits : List ℕ → Bool
are_limits limits = eqb (length limits) 32 && all is_rejection_limit limits

-- the limits that count: all 0 where they are refused
abbrev limits_in : Bool → List ℕ → List ℕ
limits_in b limits = cond b limits (replicate 32 0)

session_is : (limits lent : List ℕ) → is_whole_session lent ≡ true → (start_session limits lent).session ≡ session_of (limits_in (are_limits limits) limits)
unfolding start_session first_of session_of
session_is limits lent h = go (is_whole_session lent) (are_limits limits) h
  where
    go : (w b : Bool) → w ≡ true → let n = first_of ((not w, 12) ∷ (not b, 9) ∷ []) in cond (eqb n 12) lent (cond (eqb n 0) (session_of limits) (replicate 192 0)) ≡ session_of (limits_in b limits)
    go true true h = refl
    go true false h = refl
    go false b h = absurd (true≢false (sym h))

gave_zero : (limits lent : List ℕ) → (start_session limits lent).number ≡ 0 → (is_whole_session lent ≡ true) × (are_limits limits ≡ true)
unfolding start_session first_of
gave_zero limits lent h = go (is_whole_session lent) (are_limits limits) h
  where
    go : (w b : Bool) → first_of ((not w, 12) ∷ (not b, 9) ∷ []) ≡ 0 → (w ≡ true) × (b ≡ true)
    go true true h = (refl, refl)
    go true false h = absurd (omega (arith, h))
    go false b h = absurd (omega (arith, h))

-- ---- its logins

login_of_lem : (limits : List ℕ) (i : ℕ) → login_at (session_of limits) i ≡ fresh_login (get_or limits i 0)
login_of_lem limits i = go (ltb i (length limits)) refl
  where
    go : (b : Bool) → ltb i (length limits) ≡ b → login_at (session_of limits) i ≡ fresh_login (get_or limits i 0)
    go true e = login_started limits i (ltb-true i (length limits) e)
    go false e =
        let f = ltb-false i (length limits) e in
        let g = length_session limits in
        login_beyond (session_of limits) i (omega (arith, g)) ∙ ap fresh_login (sym (get_or-eq_default limits 0 {n = i} f))

all_at : (f : ℕ → Bool) (xs : List ℕ) (j : ℕ) → all f xs ≡ true → j < length xs → f (get_or xs j 0) ≡ true
unfolding all
all_at f [] j h l = absurd (not-suc-le-zero l)
all_at f (x ∷ xs) zero h l = (and_both (f x) (all f xs) h).0
all_at f (x ∷ xs) (suc j) h l = all_at f xs j (and_both (f x) (all f xs) h).1 (le_of_suc-le-suc l)

module _ (limits : List ℕ) (h : are_limits limits ≡ true) where
  abbrev both : (eqb (length limits) 32 ≡ true) × (all is_rejection_limit limits ≡ true)
  both = and_both (eqb (length limits) 32) (all is_rejection_limit limits) h

  count : length limits ≡ 32
  count = eqb-true (length limits) 32 both.0

  limit_holds : (i : ℕ) → i ≤ 31 → is_rejection_limit (get_or limits i 0) ≡ true
  limit_holds i l = let n = count in all_at is_rejection_limit limits i both.1 (omega (arith, n))

  good_start : is_bad_session (session_of limits) ≡ false
  unfolding is_broken
  good_start = is_good (session_of limits) (record { whole = length_session limits ∙ ap (λ (n : ℕ). 6 * n) count; each = each })
    where
      each : (i : ℕ) → i ≤ 31 → is_bad_login (login_at (session_of limits) i) ≡ false
      each i l =
          let k = within_both 1 10000 (get_or limits i 0) (limit_holds i l) in
          ap is_bad_login (login_of_lem limits i) ∙ not_bad (fresh_login (get_or limits i 0)) (record { least = k.0; most = k.1; sum = refl; limited = omega arith; rejected = omega arith })

-- the all-zero session
no_limits : is_bad_session (session_of (replicate 32 0)) ≡ true
unfolding is_bad_session session_of any logins_from login_at is_bad_login
no_limits = refl

-- ---- every start from 192 numbers

pub record Start (s : List ℕ) : Type 0 where
  pub fresh : (i : ℕ) → login_at s i ≡ fresh_login (login_at s i).limit
  pub bad : (i : ℕ) → i ≤ 31 → is_bad_session s ≡ not (is_rejection_limit (login_at s i).limit)

-- with limits that hold throughout, or nowhere
start_of : (limits : List ℕ) (b : Bool) → ((i : ℕ) → i ≤ 31 → is_rejection_limit (get_or limits i 0) ≡ b) → is_bad_session (session_of limits) ≡ not b → Start (session_of limits)
start_of limits b h k = record { fresh = λ i. login_of_lem limits i ∙ ap fresh_login (sym (limit i)); bad = λ i l. k ∙ ap not (sym (ap is_rejection_limit (limit i) ∙ h i l)) }
  where
    limit : (i : ℕ) → (login_at (session_of limits) i).limit ≡ get_or limits i 0
    limit i = ap (λ (l : Login). l.limit) (login_of_lem limits i)

pub start : (limits lent : List ℕ) → length lent ≡ 192 → Start (start_session limits lent).session
start limits lent w = rw (session_is limits lent (eq-eqb (length lent) 192 w)) (go (are_limits limits) refl)
  where
    go : (b : Bool) → are_limits limits ≡ b → Start (session_of (limits_in b limits))
    go true e = start_of limits true (limit_holds limits e) (good_start limits e)
    go false e = start_of (replicate 32 0) false (λ i l. ap is_rejection_limit (get_or-replicate 32 i 0 0 (omega arith))) no_limits

-- ---- a start that gave 0

pub record Opened (limits : List ℕ) (s : List ℕ) : Type 0 where
  pub good : is_bad_session s ≡ false
  pub login : (i : ℕ) → login_at s i ≡ fresh_login (get_or limits i 0)

pub opened : (limits lent : List ℕ) → (start_session limits lent).number ≡ 0 → Opened limits (start_session limits lent).session
opened limits lent h =
    let k = gave_zero limits lent h in
    let e : (start_session limits lent).session ≡ session_of limits = session_is limits lent k.0 ∙ ap (λ (b : Bool). session_of (limits_in b limits)) k.1 in
    record { good = ap is_bad_session e ∙ good_start limits k.1; login = λ i. ap (λ (s : List ℕ). login_at s i) e ∙ login_of_lem limits i }
