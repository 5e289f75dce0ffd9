-- What turns a call of a login away, case by case; and what is known of a session where nothing does.
use mathlib.Core.Path.{◌≡◌, refl, ap, ◌∙◌}
use mathlib.Core.List.{List, [], ◌∷◌}
use mathlib.Core.Bool.{Bool, true, false, cond, not, ◌&&◌}
use Prim.Native.Nat.{ℕ, ◌≤◌, ◌<◌}
use native.Mathlib.Omega.{arith}
use lib.Dec.{ltb}
use lib.ListN.{length}
use borrow.Author.Tests.{eqb-true, eq-eqb, ltb-true, ltb-false, le-ltb, lt-ltb, leb-false, lt-leb, not-false}
use Rattle.rules.specs.declared.Login.{Login}
use Rattle.rules.specs.Limits.{within}
use Rattle.rules.specs.Lists.{any}
use Rattle.rules.specs.Numbers.{first_of}
use Rattle.rules.specs.Tally.{is_broken, is_bad_tally}
use Rattle.rules.specs.Session.{login_at, logins, is_whole_session, is_bad_login, is_bad_session, in_all, is_full, is_restricted, gets_twelve, turned_away}
use Rattle.rules.proofs.Tests.{or_neither, within_both}
use Rattle.rules.proofs.Logins.{none_passes, passes_none, one_of_all}

-- ---- each number

module _ (is_order : Bool) (s : List ℕ) (i : ℕ) where
  pub gets_34 : 31 < i → turned_away is_order s i ≡ 34
  unfolding turned_away first_of
  gets_34 h = rw (lt-ltb 31 i h)

  module _ (here : i ≤ 31) where
    pub gets_12 : gets_twelve is_order s ≡ true → turned_away is_order s i ≡ 12
    unfolding turned_away first_of
    gets_12 h = rw (le-ltb 31 i here, h)

    pub gets_35 : gets_twelve is_order s ≡ false → turned_away is_order s i ≡ cond (is_order && is_restricted (login_at s i)) 35 0
    unfolding turned_away first_of
    gets_35 h = rw (le-ltb 31 i here, h) (go is_order)
      where
        go : (b : Bool) → first_of (cond b ((is_restricted (login_at s i), 35) ∷ []) []) ≡ cond (b && is_restricted (login_at s i)) 35 0
        go true = refl
        go false = refl

-- ---- nothing turns the call away

pub record Admitted (is_order : Bool) (s : List ℕ) (i : ℕ) : Type 0 where
  pub here : i ≤ 31
  pub good : is_bad_session s ≡ false
  pub room : is_order && is_full s ≡ false
  pub free : is_order && is_restricted (login_at s i) ≡ false

pub admitted : (is_order : Bool) (s : List ℕ) (i : ℕ) → turned_away is_order s i ≡ 0 → Admitted is_order s i
admitted is_order s i h = go (ltb 31 i) refl (gets_twelve is_order s) refl (is_order && is_restricted (login_at s i)) refl
  where
    go : (a : Bool) → ltb 31 i ≡ a → (b : Bool) → gets_twelve is_order s ≡ b → (c : Bool) → is_order && is_restricted (login_at s i) ≡ c → Admitted is_order s i
    go true e b f c g = let k = gets_34 is_order s i (ltb-true 31 i e) in absurd (omega (arith, k, h))
    go false e true f c g = let k = gets_12 is_order s i (ltb-false 31 i e) f in absurd (omega (arith, k, h))
    go false e false f true g = let k = gets_35 is_order s i (ltb-false 31 i e) f ∙ ap (λ (b : Bool). cond b 35 0) g in absurd (omega (arith, k, h))
    go false e false f false g = let n = or_neither (is_bad_session s) (is_order && is_full s) f in record { here = ltb-false 31 i e; good = n.0; room = n.1; free = g }

-- ---- a good session, and a good login

pub record Good (s : List ℕ) : Type 0 where
  pub whole : length s ≡ 192
  pub each : (j : ℕ) → j ≤ 31 → is_bad_login (login_at s j) ≡ false

pub good : (s : List ℕ) → is_bad_session s ≡ false → Good s
unfolding is_bad_session
good s h =
    let k = or_neither (not (is_whole_session s)) (any is_bad_login (logins s)) h in
    record { whole = eqb-true (length s) 192 (not-false _ k.0); each = λ j l. none_passes s is_bad_login 32 0 k.1 j (omega arith) (omega arith) }

pub is_good : (s : List ℕ) → Good s → is_bad_session s ≡ false
unfolding is_bad_session
is_good s g = rw (eq-eqb (length s) 192 g.whole) (passes_none s is_bad_login 32 0 (λ j k l. g.each j (omega arith)))

pub record GoodLogin (l : Login) : Type 0 where
  pub least : 1 ≤ l.limit
  pub most : l.limit ≤ 10000
  pub sum : is_broken l.tally ≡ false
  pub limited : l.running ≤ l.limit
  pub rejected : l.running ≤ l.tally.rejected

pub good_login : (l : Login) → is_bad_login l ≡ false → GoodLogin l
unfolding is_bad_login
good_login l h =
    let a = or_neither (not (within 1 10000 l.limit)) _ h in
    let b = or_neither (is_broken l.tally) _ a.1 in
    let c = or_neither (ltb l.limit l.running) _ b.1 in
    let w = within_both 1 10000 l.limit (not-false _ a.0) in
    record { least = w.0; most = w.1; sum = b.0; limited = ltb-false l.limit l.running c.0; rejected = ltb-false l.tally.rejected l.running c.1 }

-- an order's login has a tally that can be counted
pub countable : (s : List ℕ) (i : ℕ) → Admitted true s i → is_bad_tally (login_at s i).tally ≡ false
unfolding is_bad_tally in_all
countable s i a =
    let l = good_login (login_at s i) ((good s a.good).each i a.here) in
    let below = leb-false 1000000 (in_all s) a.room in
    let part = one_of_all s (λ l. l.tally.seen) 32 0 i (omega arith) (omega (arith, a.here)) in
    rw (lt-leb 1000000 (login_at s i).tally.seen (omega (arith, below, part)), l.sum)
