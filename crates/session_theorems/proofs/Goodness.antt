-- A call leaves a session as good or bad as it was, and every limit as it was.
use mathlib.Core.Path.{◌≡◌, refl, sym, ap, ◌∙◌}
use mathlib.Core.List.{List, [], ◌∷◌}
use mathlib.Core.Bool.{Bool, true, false, cond, not, ◌&&◌}
use Prim.Native.Nat.{ℕ, ◌≤◌, ◌<◌}
use native.Mathlib.Omega.{arith}
use lib.ListN.{length}
use borrow.Author.Tests.{leb-false, eqb-true, le-ltb, le-leb, eq-eqb, not-false}
use Rattle.rules.specs.declared.Login.{Login}
use Rattle.rules.specs.declared.Tally.{Tally}
use Rattle.rules.specs.Kinds.{is_rejected}
use Rattle.rules.specs.Tally.{is_broken, is_bad_tally, one_more, counted, tallied, Call, own_answer, check_tallied}
use Rattle.rules.specs.Session.{login_at, is_bad_login, is_bad_session}
use Rattle.rules.proofs.Logins.{length_with}
use Rattle.rules.proofs.Tallying.{tally_theorem}
use Rattle.rules.proofs.Turning.{Admitted, good, is_good, GoodLogin, good_login, countable}
use Rattle.session_theorems.specs.Calls.{SessionCall, ordered, released, login_of, is_order, after, session_after, is_of}
use Rattle.session_theorems.proofs.Steps.{is_taken, taken, stepped, away_session, taken_session, fits, login_after}

-- ---- a login that is not bad

pub not_bad : (l : Login) → GoodLogin l → is_bad_login l ≡ false
unfolding is_bad_login
not_bad l g = rw (le-leb 1 l.limit g.least, le-leb l.limit 10000 g.most, g.sum, le-ltb l.limit l.running g.limited, le-ltb l.tally.rejected l.running g.rejected) refl

-- ---- its next order, or its release

sum_kept : (t : Tally) (c : Call) → is_bad_tally t ≡ false → is_broken t ≡ false → is_broken (counted t (own_answer c).number) ≡ false
unfolding is_broken check_tallied tallied
sum_kept t c h b =
    let e : (check_tallied t c).tally ≡ counted t (own_answer c).number = ap (λ (d : Bool). cond d t (counted t (own_answer c).number)) h in
    ap is_broken (sym e) ∙ ap not (eq-eqb _ _ (tally_theorem.sum t c (eqb-true _ _ (not-false _ b))))

more_under : (b : Bool) (x y : ℕ) → x < y → one_more b x ≤ y
more_under true x y h = omega arith
more_under false x y h = omega arith

more_both : (b : Bool) (x y : ℕ) → x ≤ y → one_more b x ≤ one_more b y
more_both true x y h = omega arith
more_both false x y h = h

stepped_good : (s : List ℕ) (c : SessionCall) → Admitted (is_order c) s (login_of c) → is_bad_login (stepped c (login_at s (login_of c))) ≡ false
unfolding counted
stepped_good s (ordered i c) a =
    let l = login_at s i in
    let n = (own_answer c).number in
    let g = good_login l ((good s a.good).each i a.here) in
    not_bad _
    (record {
      least = g.least;
      most = g.most;
      sum = sum_kept l.tally c (countable s i a) g.sum;
      limited = more_under (is_rejected n) l.running l.limit (leb-false l.limit l.running a.free);
      rejected = more_both (is_rejected n) l.running l.tally.rejected g.rejected;
    })
stepped_good s (released i) a =
    let g = good_login (login_at s i) ((good s a.good).each i a.here) in
    not_bad _ (record { least = g.least; most = g.most; sum = g.sum; limited = omega arith; rejected = omega arith })

-- ---- a session after a call

pub bad_after : (s : List ℕ) (c : SessionCall) → is_bad_session (after s c) ≡ is_bad_session s
bad_after s c = go (is_taken s c) refl
  where
    login : is_taken s c ≡ true → (j : ℕ) → j ≤ 31 → (b t : Bool) → is_of j c ≡ b → is_bad_login (cond (b && t) (stepped c (login_at s j)) (login_at s j)) ≡ false
    login k j l true true f = ap (λ (i : ℕ). is_bad_login (stepped c (login_at s i))) (sym (eqb-true (login_of c) j f)) ∙ stepped_good s c (taken s c k)
    login k j l true false f = (good s (taken s c k).good).each j l
    login k j l false t f = (good s (taken s c k).good).each j l

    go : (t : Bool) → is_taken s c ≡ t → is_bad_session (after s c) ≡ is_bad_session s
    go true e =
        let a = taken s c e in
        let w : length (after s c) ≡ 192 = ap length (taken_session s c e) ∙ length_with s (login_of c) _ (fits s c e) ∙ (good s a.good).whole in
        is_good (after s c) (record { whole = w; each = λ j l. ap is_bad_login (login_after s c j) ∙ login e j l (is_of j c) (is_taken s c) refl }) ∙ sym a.good
    go false e = ap is_bad_session (away_session s c e)

pub limit_after : (s : List ℕ) (c : SessionCall) (j : ℕ) → (login_at (after s c) j).limit ≡ (login_at s j).limit
limit_after s c j = ap (λ (l : Login). l.limit) (login_after s c j) ∙ go c (is_of j c && is_taken s c)
  where
    go : (d : SessionCall) (b : Bool) → (cond b (stepped d (login_at s j)) (login_at s j)).limit ≡ (login_at s j).limit
    go (ordered i d) true = refl
    go (released i) true = refl
    go d false = refl

-- and after a list of them
pub bad_kept : (s : List ℕ) (cs : List SessionCall) → is_bad_session (session_after s cs) ≡ is_bad_session s
unfolding session_after
bad_kept s [] = refl
bad_kept s (c ∷ cs) = bad_kept (after s c) cs ∙ bad_after s c

pub limit_kept : (s : List ℕ) (cs : List SessionCall) (j : ℕ) → (login_at (session_after s cs) j).limit ≡ (login_at s j).limit
unfolding session_after
limit_kept s [] j = refl
limit_kept s (c ∷ cs) j = limit_kept (after s c) cs j ∙ limit_after s c j
