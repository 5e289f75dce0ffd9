-- One call of a session: whether it is taken, what it gets, and each login after it.
use mathlib.Core.Path.{◌≡◌, refl, sym, ap, ◌∙◌}
use mathlib.Core.List.{List}
use mathlib.Core.Bool.{Bool, true, false, cond, ◌&&◌, ◌||◌, true≢false}
use Prim.Native.Nat.{ℕ, zero, suc, ◌+◌, ◌*◌, ◌≤◌}
use native.Mathlib.Omega.{arith}
use lib.ListN.{length}
use borrow.Author.Tests.{eqb-true, eqb-false, ne_eqb}
use Rattle.rules.specs.declared.Login.{Login}
use Rattle.rules.specs.declared.OrderAnswer.{OrderAnswer}
use Rattle.rules.specs.Lists.{all}
use Rattle.rules.specs.Numbers.{refused, outcome}
use Rattle.rules.specs.Tally.{own_answer}
use Rattle.rules.specs.Session.{login_at, with_login, turnings, turned_away, changed_by, counted_login, check_in_session, released_login, release_login}
use Rattle.rules.proofs.Numbering.{first_passes}
use Rattle.rules.proofs.Logins.{login_within, login_other}
use Rattle.rules.proofs.Turning.{Admitted, admitted, good}
use Rattle.session_theorems.specs.Calls.{SessionCall, ordered, released, login_of, is_order, answered, after, is_of, turns_away}

-- ---- the number that decides

-- what turns a call away, 0 if nothing does
abbrev pub turned : List ℕ → SessionCall → ℕ
turned s c = turned_away (is_order c) s (login_of c)

abbrev pub is_none : ℕ → Bool
is_none zero = true
is_none (suc n) = false

abbrev pub is_taken : List ℕ → SessionCall → Bool
is_taken s c = is_none (turned s c)

none_is : (n : ℕ) → is_none n ≡ true → n ≡ 0
none_is zero h = refl
none_is (suc n) h = absurd (true≢false (sym h))

pub taken : (s : List ℕ) (c : SessionCall) → is_taken s c ≡ true → Admitted (is_order c) s (login_of c)
taken s c h = admitted (is_order c) s (login_of c) (none_is (turned s c) h)

away : (s : List ℕ) (c : SessionCall) → is_taken s c ≡ false → turns_away (turned s c) ≡ true
unfolding turned_away all
away s c h = ap (λ (b : Bool). b || turns_away (turned s c)) (sym h) ∙ go (is_order c)
  where
    go : (b : Bool) → is_none (turned_away b s (login_of c)) || turns_away (turned_away b s (login_of c)) ≡ true
    go true = first_passes (λ n. is_none n || turns_away n) (turnings true s (login_of c)) refl refl
    go false = first_passes (λ n. is_none n || turns_away n) (turnings false s (login_of c)) refl refl

-- ---- what a call gets

-- where it is taken
abbrev pub own : SessionCall → OrderAnswer
own (ordered i c) = own_answer c
own (released i) = refused 0

pub answer_is : (s : List ℕ) (c : SessionCall) → answered s c ≡ outcome (turned s c) (own c)
unfolding check_in_session release_login outcome
answer_is s (ordered i c) = refl
answer_is s (released i) = go (turned_away false s i)
  where
    go : (n : ℕ) → ◌≡◌ {A = OrderAnswer} (record { number = n; class = 0; shape = 0; pairings = 0 }) (outcome n (refused 0))
    go zero = refl
    go (suc n) = refl

pub taken_answer : (s : List ℕ) (c : SessionCall) → is_taken s c ≡ true → answered s c ≡ own c
unfolding outcome
taken_answer s c h = answer_is s c ∙ ap (λ (n : ℕ). outcome n (own c)) (none_is (turned s c) h)

pub away_answer : (s : List ℕ) (c : SessionCall) → is_taken s c ≡ false → turns_away (answered s c).number ≡ true
unfolding outcome
away_answer s c h = ap (λ (a : OrderAnswer). turns_away a.number) (answer_is s c) ∙ go (turned s c) h (away s c h)
  where
    go : (n : ℕ) → is_none n ≡ false → turns_away n ≡ true → turns_away (outcome n (own c)).number ≡ true
    go zero k t = absurd (true≢false k)
    go (suc n) k t = t

-- ---- the session after it

-- the call's own login where it is taken
abbrev pub stepped : SessionCall → Login → Login
stepped (ordered i c) l = counted_login l (own_answer c).number
stepped (released i) l = released_login l

abbrev step_in : List ℕ → SessionCall → List ℕ
step_in s c = with_login s (login_of c) (stepped c (login_at s (login_of c)))

after_is : (s : List ℕ) (c : SessionCall) → after s c ≡ changed_by (turned s c) s (step_in s c)
unfolding check_in_session release_login
after_is s (ordered i c) = refl
after_is s (released i) = refl

pub away_session : (s : List ℕ) (c : SessionCall) → is_taken s c ≡ false → after s c ≡ s
away_session s c h = after_is s c ∙ go (turned s c) h
  where
    go : (n : ℕ) → is_none n ≡ false → changed_by n s (step_in s c) ≡ s
    go zero k = absurd (true≢false k)
    go (suc n) k = refl

pub taken_session : (s : List ℕ) (c : SessionCall) → is_taken s c ≡ true → after s c ≡ step_in s c
taken_session s c h = after_is s c ∙ ap (λ (n : ℕ). changed_by n s (step_in s c)) (none_is (turned s c) h)

-- a call that is taken fits in
pub fits : (s : List ℕ) (c : SessionCall) → is_taken s c ≡ true → 6 * login_of c + 6 ≤ length s
fits s c h = let a = taken s c h in let w = (good s a.good).whole in let k = a.here in omega (arith, w, k)

-- each login after a call
pub login_after : (s : List ℕ) (c : SessionCall) (j : ℕ) → login_at (after s c) j ≡ cond (is_of j c && is_taken s c) (stepped c (login_at s j)) (login_at s j)
login_after s c j = go (is_taken s c) refl (is_of j c) refl
  where
    at : {t : List ℕ} → after s c ≡ t → login_at (after s c) j ≡ login_at t j
    at e = ap (λ (t : List ℕ). login_at t j) e

    own_login : (i : ℕ) → i ≡ j → 6 * i + 6 ≤ length s → login_at (with_login s i (stepped c (login_at s i))) j ≡ stepped c (login_at s j)
    own_login i e f = ap (λ (k : ℕ). login_at (with_login s i (stepped c (login_at s i))) k) (sym e) ∙ login_within s i (stepped c (login_at s i)) f ∙ ap (λ (k : ℕ). stepped c (login_at s k)) e

    go : (t : Bool) → is_taken s c ≡ t → (b : Bool) → is_of j c ≡ b → login_at (after s c) j ≡ cond (b && t) (stepped c (login_at s j)) (login_at s j)
    go true e true f = at (taken_session s c e) ∙ own_login (login_of c) (eqb-true (login_of c) j f) (fits s c e)
    go true e false f = at (taken_session s c e) ∙ login_other s (login_of c) (stepped c (login_at s (login_of c))) (fits s c e) j (λ k. eqb-false (login_of c) j f (sym k))
    go false e true f = at (away_session s c e)
    go false e false f = at (away_session s c e)

-- a call changes no other login
pub others : (s : List ℕ) (c : SessionCall) (j : ℕ) → (j ≡ login_of c → ⊥) → login_at (after s c) j ≡ login_at s j
others s c j h = login_after s c j ∙ ap (λ (b : Bool). cond (b && is_taken s c) (stepped c (login_at s j)) (login_at s j)) (ne_eqb (login_of c) j (λ e. h (sym e)))
