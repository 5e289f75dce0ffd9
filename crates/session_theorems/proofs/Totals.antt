-- Orders tallied in all over lists of calls: one more with each that is not turned away.
use mathlib.Core.Path.{◌≡◌, refl, sym, ap, ◌∙◌}
use mathlib.Core.List.{List, [], ◌∷◌, map}
use mathlib.Core.Bool.{Bool, true, false, not, ◌&&◌}
use Prim.Native.Nat.{ℕ, zero, suc, ◌+◌, ◌≤◌, ◌<◌}
use native.Mathlib.Omega.{arith}
use lib.Dec.{eqb}
use lib.ListN.{length}
use borrow.Author.Tests.{eqb-true, eqb-false, eq-eqb, lt-leb}
use Rattle.rules.specs.declared.Login.{Login}
use Rattle.rules.specs.Lists.{total}
use Rattle.rules.specs.Tally.{one_more, how_many}
use Rattle.rules.specs.Session.{login_at, logins_from, in_all}
use Rattle.rules.proofs.Tests.{and_no, and_of}
use Rattle.session_theorems.specs.Calls.{SessionCall, login_of, is_order, answered, after, session_after, is_before_limit, all_numbers, turns_away}
use Rattle.session_theorems.proofs.Steps.{is_taken, taken, away_answer, away_session, others}
use Rattle.session_theorems.proofs.Tallies.{measured, login_step, seen_step}

-- ---- sums over two sessions that differ in login `i` alone

module _ (g : Login → ℕ) (s t : List ℕ) (i : ℕ) (same : (j : ℕ) → (j ≡ i → ⊥) → login_at t j ≡ login_at s j) where
  abbrev sum : ℕ → ℕ → List ℕ → ℕ
  sum n a u = total (map g (logins_from n a u))

  same_at : (j : ℕ) → (j ≡ i → ⊥) → g (login_at t j) ≡ g (login_at s j)
  same_at j h = ap g (same j h)

  sum_behind : (n a : ℕ) → i < a → sum n a t ≡ sum n a s
  unfolding logins_from total
  sum_behind zero a h = refl
  sum_behind (suc n) a h = let x = same_at a (λ e. omega (arith, e)) in let y = sum_behind n (suc a) (omega arith) in omega (arith, x, y)

  sum_moved : (n a : ℕ) → a ≤ i → i < a + n → sum n a t + g (login_at s i) ≡ sum n a s + g (login_at t i)
  unfolding logins_from total
  sum_moved zero a h k = absurd (omega arith)
  sum_moved (suc n) a h k = go (eqb a i) refl (sum_moved n (suc a))
    where
      go : (b : Bool) → eqb a i ≡ b → (suc a ≤ i → i < suc a + n → sum n (suc a) t + g (login_at s i) ≡ sum n (suc a) s + g (login_at t i))
          → g (login_at t a) + sum n (suc a) t + g (login_at s i) ≡ g (login_at s a) + sum n (suc a) s + g (login_at t i)
      go true e ih =
          let f = eqb-true a i e in
          let x = ap (λ (j : ℕ). g (login_at t j)) f in
          let y = ap (λ (j : ℕ). g (login_at s j)) f in
          let z = sum_behind n (suc a) (omega arith) in
          omega (arith, x, y, z)
      go false e ih = let f = eqb-false a i e in let x = same_at a f in let y = ih (omega arith) (omega arith) in omega (arith, x, y)

-- ---- orders tallied in all

abbrev seen : Login → ℕ
seen l = l.tally.seen

in_all_step : (s : List ℕ) (c : SessionCall) → in_all (after s c) ≡ one_more (is_order c && true && not (turns_away (answered s c).number)) (in_all s)
unfolding in_all
in_all_step s c = go (is_taken s c) refl
  where
    i : ℕ
    i = login_of c

    rises : Bool → Bool
    rises b = is_order c && b && not (turns_away (answered s c).number)

    raised : (b : Bool) (x y z : ℕ) → x + z ≡ y + one_more b z → x ≡ one_more b y
    raised true x y z h = omega arith
    raised false x y z h = omega arith

    go : (t : Bool) → is_taken s c ≡ t → in_all (after s c) ≡ one_more (rises true) (in_all s)
    go true e =
        let k = (taken s c e).here in
        let up : seen (login_at (after s c) i) ≡ one_more (rises true) (seen (login_at s i)) =
        login_step (λ t. t.seen) (λ n. not (turns_away n)) (λ n. ap not) seen_step i s c ∙ ap (λ (b : Bool). one_more (rises b) (seen (login_at s i))) (eq-eqb i i refl)
        in
        raised (rises true) (in_all (after s c)) (in_all s) (seen (login_at s i)) (sum_moved seen s (after s c) i (others s c) 32 0 (omega arith) (omega arith) ∙ ap (λ (x : ℕ). in_all s + x) up)
    go false e = ap in_all (away_session s c e) ∙ ap (λ (b : Bool). one_more b (in_all s)) (sym (ap (λ (b : Bool). is_order c && true && not b) (away_answer s c e) ∙ and_no (is_order c && true)))

none_in_all : (s : List ℕ) → ((i : ℕ) → seen (login_at s i) ≡ 0) → in_all s ≡ 0
unfolding in_all logins_from total
none_in_all s h = go 32 0
  where
    go : (n a : ℕ) → total (map seen (logins_from n a s)) ≡ 0
    go zero a = refl
    go (suc n) a = let x = h a in let y = go n (suc a) in omega (arith, x, y)

-- ---- the session limit, by the number of calls

at_most : (b : Bool) (x : ℕ) → one_more b x ≤ x + 1
at_most true x = omega arith
at_most false x = omega arith

below_limit : (s : List ℕ) (cs : List SessionCall) → in_all s + length cs ≤ 1000000 → is_before_limit s cs ≡ true
unfolding is_before_limit
below_limit s [] h = refl
below_limit s (c ∷ cs) h =
    let step = in_all_step s c in
    let most = at_most (is_order c && true && not (turns_away (answered s c).number)) (in_all s) in
    and_of (ap not (lt-leb 1000000 (in_all s) (omega arith))) (below_limit (after s c) cs (omega (arith, step, most)))

pub short_lists : (s : List ℕ) → ((i : ℕ) → seen (login_at s i) ≡ 0) → (cs : List SessionCall) → length cs ≤ 1000000 → is_before_limit s cs ≡ true
short_lists s none cs h = let z = none_in_all s none in below_limit s cs (omega (arith, z))

-- from a session without any
pub in_all_lem : (s : List ℕ) (cs : List SessionCall) → ((i : ℕ) → seen (login_at s i) ≡ 0) → in_all (session_after s cs) ≡ how_many (λ n. not (turns_away n)) (all_numbers s cs)
in_all_lem s cs none = let z = none_in_all s none in let h = measured in_all (λ n. not (turns_away n)) (λ c. true) in_all_step s cs in omega (arith, h, z)
