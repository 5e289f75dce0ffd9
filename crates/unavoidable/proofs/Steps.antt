-- The table of a series: it falls and rises as the tables of S-8 do, and tells the series walked up to its own from the others.
use mathlib.Core.Path.{◌≡◌, refl, sym, ◌∙◌}
use mathlib.Core.List.{List}
use mathlib.Core.Bool.{Bool, true, false, cond, ◌&&◌, true≢false}
use Prim.Native.Nat.{ℕ, ◌≤◌, ◌<◌}
use native.Mathlib.Omega.{arith}
use lib.Dec.{eqb, leb, ltb}
use borrow.Author.Tests.{leb-true, le-leb, lt-leb, ltb-true, lt-ltb, le-ltb, eq-eqb}
use Rattle.rules.specs.declared.Series.{Series}
use Rattle.rules.specs.declared.Leg.{Leg}
use Rattle.rules.specs.Lists.{same_bool}
use Rattle.rules.specs.Pairing.{one_expiry, is_debit}
use Rattle.unavoidable.specs.Tables.{Monotone, step}

-- a table of 0 and 1 does not rise where 1 comes with 1
at_most : (a b : Bool) → (a ≡ true → b ≡ true) → cond a 1 0 ≤ cond b 1 0
at_most true true h = omega arith
at_most true false h = absurd (true≢false (sym (h refl)))
at_most false b h = omega arith

pub step_monotone : (legs : List Leg) (x : Series) → Monotone legs (step x)
unfolding step
step_monotone legs x = record { calls = λ s t hs ht. calls x.call s t; puts = λ s t hs ht. puts x.call s t }
  where
    k : ℕ
    k = x.strike.0

    calls : (c : Bool) (s t : Series) → s.call ≡ true → t.call ≡ true → s.strike.0 < t.strike.0
        → cond (same_bool c t.call && cond c (leb t.strike.0 k) (leb k t.strike.0)) 1 0 ≤ cond (same_bool c s.call && cond c (leb s.strike.0 k) (leb k s.strike.0)) 1 0
    calls true s t p q l = rw (p, q) (at_most (leb t.strike.0 k) (leb s.strike.0 k) (λ e. le-leb s.strike.0 k (omega (arith, leb-true t.strike.0 k e))))
    calls false s t p q l = rw (p, q) (omega arith)

    puts : (c : Bool) (s t : Series) → s.call ≡ false → t.call ≡ false → s.strike.0 < t.strike.0
        → cond (same_bool c s.call && cond c (leb s.strike.0 k) (leb k s.strike.0)) 1 0 ≤ cond (same_bool c t.call && cond c (leb t.strike.0 k) (leb k t.strike.0)) 1 0
    puts true s t p q l = rw (p, q) (omega arith)
    puts false s t p q l = rw (p, q) (at_most (leb k s.strike.0) (leb k t.strike.0) (λ e. le-leb k t.strike.0 (omega (arith, leb-true k s.strike.0 e))))

-- 1 for the series that are walked together with `s`
abbrev pub among : Series → Series → ℕ
among s t = cond (one_expiry s t) 1 0

-- `t` is walked before `s`: the table of `s` has it where both are walked together, that of `t` has not `s`, and of the two, bought and sold, buying `t` is the debit
pub record Earlier (s t : Series) : Type 0 where
  pub has : step s t ≡ among s t
  pub has_not : step t s ≡ 0
  pub debit : one_expiry s t ≡ true → is_debit t s ≡ true
  pub credit : one_expiry s t ≡ true → is_debit s t ≡ false

-- of one expiry, and `t` nearer to where its type is walked from
pub earlier : (s t : Series) → s.expiry ≡ t.expiry
    → (s.call ≡ t.call → cond s.call (ltb t.strike.0 s.strike.0) (ltb s.strike.0 t.strike.0) ≡ true) → Earlier s t
unfolding step is_debit
earlier s t e h = go s.call t.call refl refl h
  where
    x : eqb s.expiry t.expiry ≡ true
    x = eq-eqb s.expiry t.expiry e

    y : eqb t.expiry s.expiry ≡ true
    y = eq-eqb t.expiry s.expiry (sym e)

    a : ℕ
    a = s.strike.0

    b : ℕ
    b = t.strike.0

    go : (c d : Bool) → s.call ≡ c → t.call ≡ d → (c ≡ d → cond c (ltb b a) (ltb a b) ≡ true) → Earlier s t
    go true true p q k =
        let l = ltb-true b a (k refl) in
        record { has = rw (p, q, x, le-leb b a (omega arith)); has_not = rw (p, q, lt-leb a b l); debit = λ o. rw (y, q, lt-ltb b a l); credit = λ o. rw (x, p, le-ltb a b (omega arith)) }
    go false false p q k =
        let l = ltb-true a b (k refl) in
        record { has = rw (p, q, x, le-leb a b (omega arith)); has_not = rw (p, q, lt-leb b a l); debit = λ o. rw (y, q, lt-ltb a b l); credit = λ o. rw (x, p, le-ltb b a (omega arith)) }
    go true false p q k = let apart : one_expiry s t ≡ false = rw (p, q) in record { has = rw (p, q); has_not = rw (p, q); debit = λ o. absurd (true≢false (sym o ∙ apart)); credit = λ o. absurd (true≢false (sym o ∙ apart)) }
    go false true p q k = let apart : one_expiry s t ≡ false = rw (p, q) in record { has = rw (p, q); has_not = rw (p, q); debit = λ o. absurd (true≢false (sym o ∙ apart)); credit = λ o. absurd (true≢false (sym o ∙ apart)) }

-- its own
pub step_self : (s : Series) → step s s ≡ among s s
unfolding step
step_self s = go s.call refl
  where
    k : ℕ
    k = s.strike.0

    go : (c : Bool) → s.call ≡ c → step s s ≡ among s s
    go true p = rw (p, eq-eqb s.expiry s.expiry refl, le-leb k k (omega arith))
    go false p = rw (p, eq-eqb s.expiry s.expiry refl, le-leb k k (omega arith))
