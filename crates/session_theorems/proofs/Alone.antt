-- A login alone: before the session limit what it gets follows from its own part of the session and its own calls, so it is the same beside any others.
use mathlib.Core.Path.{◌≡◌, refl, sym, ap, ap₂, ◌∙◌}
use mathlib.Core.List.{List, [], ◌∷◌}
use mathlib.Core.Bool.{Bool, true, false, cond, not, ◌&&◌, ◌||◌}
use Prim.Native.Nat.{ℕ, ◌≤◌}
use lib.Dec.{ltb}
use borrow.Author.Tests.{ltb-false, eqb-true, not-true}
use Rattle.rules.specs.declared.Login.{Login}
use Rattle.rules.specs.declared.OrderAnswer.{OrderAnswer}
use Rattle.rules.specs.Numbers.{first_of, outcome}
use Rattle.rules.specs.Session.{login_at, is_rejection_limit, is_bad_session, is_full, is_restricted, turned_away, fresh_login, start_session}
use Rattle.rules.proofs.Tests.{and_both}
use Rattle.session_theorems.specs.Calls.{SessionCall, login_of, is_order, answered, after, session_after, is_before_limit, is_of, own_calls, own_answers}
use Rattle.session_theorems.specs.Sessions.{Isolation}
use Rattle.session_theorems.proofs.Steps.{turned, is_none, is_taken, own, answer_is, stepped, login_after}
use Rattle.session_theorems.proofs.Goodness.{bad_after, limit_after}
use Rattle.session_theorems.proofs.Starts.{start}

-- every login of the all-zero session, and none of another
abbrev has_no_limit : Login → Bool
has_no_limit l = not (is_rejection_limit l.limit)

or_none : (a o b : Bool) → b ≡ false → a || o && b ≡ a
or_none true o b h = refl
or_none false true b h = h
or_none false false b h = refl

-- 34 comes before 12
first_same : (a b d : Bool) (es : List (Bool × ℕ)) → (a ≡ false → b ≡ d) → first_of ((a, 34) ∷ (b, 12) ∷ es) ≡ first_of ((a, 34) ∷ (d, 12) ∷ es)
unfolding first_of
first_same true b d es h = refl
first_same false b d es h = ap (λ (e : Bool). cond e 12 (first_of es)) (h refl)

module _ (i : ℕ) where
  -- what login `i` gets with what it has
  abbrev turned_alone : Login → SessionCall → ℕ
  turned_alone l c = first_of ((ltb 31 i, 34) ∷ (has_no_limit l, 12) ∷ cond (is_order c) ((is_restricted l, 35) ∷ []) [])

  abbrev left_by : Login → SessionCall → Login
  left_by l c = cond (is_none (turned_alone l c)) (stepped c l) l

  unfoldable answers_alone : Login → List SessionCall → List OrderAnswer
  answers_alone l [] = []
  answers_alone l (c ∷ cs) = outcome (turned_alone l c) (own c) ∷ answers_alone (left_by l c) cs

  unfoldable left_alone : Login → List SessionCall → Login
  left_alone l [] = l
  left_alone l (c ∷ cs) = left_alone (left_by l c) cs

  -- the session is bad where this login has no limit
  abbrev IsUniform : List ℕ → Type 0
  IsUniform s = i ≤ 31 → is_bad_session s ≡ has_no_limit (login_at s i)

  turned_alone_lem : (s : List ℕ) (c : SessionCall) → is_of i c ≡ true → is_full s ≡ false → IsUniform s → turned s c ≡ turned_alone (login_at s i) c
  unfolding turned_away
  turned_alone_lem s c e f k =
      ap (λ (j : ℕ). turned_away (is_order c) s j) (eqb-true (login_of c) i e)
      ∙ first_same (ltb 31 i) (is_bad_session s || is_order c && is_full s) (has_no_limit (login_at s i)) _ (λ a. or_none (is_bad_session s) (is_order c) (is_full s) f ∙ k (ltb-false 31 i a))

  uniform_after : (s : List ℕ) (c : SessionCall) → IsUniform s → IsUniform (after s c)
  uniform_after s c k l = bad_after s c ∙ k l ∙ ap (λ (n : ℕ). not (is_rejection_limit n)) (sym (limit_after s c i))

  alone : (s : List ℕ) (cs : List SessionCall) → IsUniform s → is_before_limit s cs ≡ true
      → (own_answers i s cs ≡ answers_alone (login_at s i) (own_calls i cs)) × (login_at (session_after s cs) i ≡ left_alone (login_at s i) (own_calls i cs))
  unfolding own_answers own_calls session_after is_before_limit answers_alone left_alone
  alone s [] k h = (refl, refl)
  alone s (c ∷ cs) k h = go (is_of i c) refl (alone u cs (uniform_after s c k) both.1)
    where
      u : List ℕ
      u = after s c

      l : Login
      l = login_at s i

      both : (not (is_full s) ≡ true) × (is_before_limit u cs ≡ true)
      both = and_both _ _ h

      login : (b : Bool) → is_of i c ≡ b → login_at u i ≡ cond (b && is_taken s c) (stepped c l) l
      login b e = login_after s c i ∙ ap (λ (d : Bool). cond (d && is_taken s c) (stepped c l) l) e

      go : (b : Bool) → is_of i c ≡ b → (own_answers i u cs ≡ answers_alone (login_at u i) (own_calls i cs)) × (login_at (session_after u cs) i ≡ left_alone (login_at u i) (own_calls i cs))
          → (cond b (answered s c ∷ own_answers i u cs) (own_answers i u cs) ≡ answers_alone l (cond b (c ∷ own_calls i cs) (own_calls i cs)))
          × (login_at (session_after u cs) i ≡ left_alone l (cond b (c ∷ own_calls i cs) (own_calls i cs)))
      go true e ih =
          let t = turned_alone_lem s c e (not-true (is_full s) both.0) k in
          let v : login_at u i ≡ left_by l c = login true e ∙ ap (λ (n : ℕ). cond (is_none n) (stepped c l) l) t in
          (ap₂ ◌∷◌ (answer_is s c ∙ ap (λ (n : ℕ). outcome n (own c)) t) (ih.0 ∙ ap (λ (m : Login). answers_alone m (own_calls i cs)) v), ih.1 ∙ ap (λ (m : Login). left_alone m (own_calls i cs)) v)
      go false e ih = (ih.0 ∙ ap (λ (m : Login). answers_alone m (own_calls i cs)) (login false e), ih.1 ∙ ap (λ (m : Login). left_alone m (own_calls i cs)) (login false e))

pub isolation : Isolation
isolation i limits limits' lent lent' w w' e cs ds same before before' =
    let p = start limits lent w in
    let q = start limits' lent' w' in
    let v = p.fresh i ∙ ap fresh_login e ∙ sym (q.fresh i) in
    let a = alone i (start_session limits lent).session cs (p.bad i) before in
    let b = alone i (start_session limits' lent').session ds (q.bad i) before' in
    record { answers = a.0 ∙ ap₂ (answers_alone i) v same ∙ sym b.0; part = a.1 ∙ ap₂ (left_alone i) v same ∙ sym b.1 }
