-- A login's tally over lists of calls: each of its numbers rises by one where an order's number passes its test.
use mathlib.Core.Path.{◌≡◌, refl, sym, ap, ◌∙◌}
use mathlib.Core.Logic.{⊎_elim}
use mathlib.Core.List.{List, [], ◌∷◌}
use mathlib.Core.Bool.{Bool, true, false, cond, not, ◌&&◌, ◌||◌}
use Prim.Native.Nat.{ℕ, ◌+◌}
use native.Mathlib.Omega.{arith}
use lib.Dec.{eqb}
use borrow.Author.Tests.{eqb-true, not-true}
use Rattle.rules.specs.declared.Login.{Login}
use Rattle.rules.specs.declared.OrderAnswer.{OrderAnswer}
use Rattle.rules.specs.declared.Tally.{Tally}
use Rattle.rules.specs.Lists.{all}
use Rattle.rules.specs.Kinds.{is_accepted, is_rejected, is_refused}
use Rattle.rules.specs.Demand1.{call_numbers}
use Rattle.rules.specs.Tally.{one_more, counted, Call, order, message, own_answer, fresh, how_many}
use Rattle.rules.specs.Session.{login_at}
use Rattle.rules.proofs.Tests.{and_no, and_false, or_either}
use Rattle.rules.proofs.Demand1.{passes, call_answers}
use Rattle.session_theorems.specs.Calls.{SessionCall, ordered, released, is_order, answered, after, session_after, is_of, order_numbers_of, turns_away}
use Rattle.session_theorems.specs.Sessions.{OwnTally}
use Rattle.session_theorems.proofs.Steps.{is_taken, taken_answer, away_answer, stepped, login_after}

-- ---- the numbers that turn away

-- a test that 12, 34 and 35 fail
pub away_fails : (f : ℕ → Bool) → f 12 ≡ false → f 34 ≡ false → f 35 ≡ false → (n : ℕ) → turns_away n ≡ true → f n ≡ false
away_fails f a b d n h =
    let at : (m : ℕ) → f m ≡ false → eqb n m ≡ true → f n ≡ false = λ m k e. ap f (eqb-true n m e) ∙ k in
    ⊎_elim (at 12 a) (λ k. ⊎_elim (at 34 b) (at 35 d) (or_either (eqb n 34) (eqb n 35) k)) (or_either (eqb n 12) (eqb n 34 || eqb n 35) h)

-- no check gives one by itself
pub not_away : (c : Call) → turns_away (own_answer c).number ≡ false
unfolding all
not_away c = not-true _ (passes (λ n. not (turns_away n)) _ (call_numbers c) (none c) (call_answers c).number)
  where
    none : (c : Call) → all (λ n. not (turns_away n)) (call_numbers c) ≡ true
    none (order a symbols counts) = refl
    none (message a m) = refl

-- ---- a number of a session that rises by one with some orders

moved : (b : Bool) (x y : ℕ) → one_more b x + y ≡ x + one_more b y
moved true x y = omega arith
moved false x y = refl

module _
    (measure : List ℕ → ℕ)
    (f : ℕ → Bool)
    (g : SessionCall → Bool)
    (step : (s : List ℕ) (c : SessionCall) → measure (after s c) ≡ one_more (is_order c && g c && f (answered s c).number) (measure s))
  where
    pub measured : (s : List ℕ) (cs : List SessionCall) → measure (session_after s cs) ≡ measure s + how_many f (order_numbers_of g s cs)
    unfolding session_after order_numbers_of how_many
    measured s [] = omega arith
    measured s (c ∷ cs) = measured (after s c) cs ∙ ap (λ (x : ℕ). x + how_many f rest) (step s c) ∙ go (is_order c && g c)
      where
        n : ℕ
        n = (answered s c).number

        rest : List ℕ
        rest = order_numbers_of g (after s c) cs

        go : (a : Bool) → one_more (a && f n) (measure s) + how_many f rest ≡ measure s + how_many f (cond a (n ∷ rest) rest)
        go true = moved (f n) (measure s) (how_many f rest)
        go false = refl

-- ---- a number of login `i`'s tally

module _
    (get : Tally → ℕ)
    (f : ℕ → Bool)
    (none : (n : ℕ) → turns_away n ≡ true → f n ≡ false)
    (step : (t : Tally) (n : ℕ) → turns_away n ≡ false → get (counted t n) ≡ one_more (f n) (get t))
    (i : ℕ)
  where
    abbrev got : Login → ℕ
    got l = get l.tally

    taken_step : (s : List ℕ) (c : SessionCall) (l : Login) → is_taken s c ≡ true → got (stepped c l) ≡ one_more (is_order c && true && f (answered s c).number) (got l)
    taken_step s (ordered j c) l e = step l.tally (own_answer c).number (not_away c) ∙ ap (λ (a : OrderAnswer). one_more (f a.number) (got l)) (sym (taken_answer s (ordered j c) e))
    taken_step s (released j) l e = refl

    pub login_step : (s : List ℕ) (c : SessionCall) → got (login_at (after s c) i) ≡ one_more (is_order c && is_of i c && f (answered s c).number) (got (login_at s i))
    login_step s c = ap got (login_after s c i) ∙ go (is_of i c) (is_taken s c) refl
      where
        l : Login
        l = login_at s i

        n : ℕ
        n = (answered s c).number

        go : (b t : Bool) → is_taken s c ≡ t → got (cond (b && t) (stepped c l) l) ≡ one_more (is_order c && b && f n) (got l)
        go true true e = taken_step s c l e
        go true false e = ap (λ (b : Bool). one_more b (got l)) (sym (ap (λ (b : Bool). is_order c && true && b) (none n (away_answer s c e)) ∙ and_no (is_order c && true)))
        go false t e = ap (λ (b : Bool). one_more b (got l)) (sym (and_false (is_order c) (f n)))

    -- from a session whose login `i` is fresh there
    own_tally : (s : List ℕ) (cs : List SessionCall) → got (login_at s i) ≡ 0 → got (login_at (session_after s cs) i) ≡ how_many f (order_numbers_of (is_of i) s cs)
    own_tally s cs z = let h = measured (λ u. got (login_at u i)) f (is_of i) login_step s cs in omega (arith, h, z)

-- ---- each number of the tally

and_yes : (b d : Bool) → d ≡ false → b && not d ≡ b
and_yes true d h = ap not h
and_yes false d h = refl

pub seen_step : (t : Tally) (n : ℕ) → turns_away n ≡ false → (counted t n).seen ≡ one_more (not (turns_away n)) t.seen
unfolding counted
seen_step t n h = ap (λ (b : Bool). one_more (not b) t.seen) (sym h)

refused_step : (t : Tally) (n : ℕ) → turns_away n ≡ false → (counted t n).refused ≡ one_more (is_refused n && not (turns_away n)) t.refused
unfolding counted
refused_step t n h = ap (λ (b : Bool). one_more b t.refused) (sym (and_yes (is_refused n) (turns_away n) h))

accepted_step : (t : Tally) (n : ℕ) → turns_away n ≡ false → (counted t n).accepted ≡ one_more (is_accepted n) t.accepted
unfolding counted
accepted_step t n h = refl

rejected_step : (t : Tally) (n : ℕ) → turns_away n ≡ false → (counted t n).rejected ≡ one_more (is_rejected n) t.rejected
unfolding counted
rejected_step t n h = refl

pub own_tallies : (i : ℕ) (s : List ℕ) (cs : List SessionCall) → (login_at s i).tally ≡ fresh → OwnTally i s cs
own_tallies i s cs e =
    record {
      seen = own_tally (λ t. t.seen) (λ n. not (turns_away n)) (λ n. ap not) seen_step i s cs (ap (λ (t : Tally). t.seen) e);
      refused = own_tally (λ t. t.refused) (λ n. is_refused n && not (turns_away n)) (away_fails (λ n. is_refused n && not (turns_away n)) refl refl refl) refused_step i s cs (ap (λ (t : Tally). t.refused) e);
      accepted = own_tally (λ t. t.accepted) is_accepted (away_fails is_accepted refl refl refl) accepted_step i s cs (ap (λ (t : Tally). t.accepted) e);
      rejected = own_tally (λ t. t.rejected) is_rejected (away_fails is_rejected refl refl refl) rejected_step i s cs (ap (λ (t : Tally). t.rejected) e);
    }
