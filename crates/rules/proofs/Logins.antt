-- A login read from a session, and one that is put into it.
use mathlib.Core.Path.{◌≡◌, refl, sym, ap, ◌∙◌}
use mathlib.Core.Bool.{Bool, true, false}
use mathlib.Core.List.{List, [], ◌∷◌, ◌++◌, map}
use Prim.Native.Nat.{ℕ, zero, suc, ◌+◌, ◌*◌, ◌-◌, ◌≤◌, ◌<◌}
use native.Mathlib.Omega.{arith}
use native.Mathlib.Nat.{not-suc-le-zero, le_of_suc-le-suc}
use lib.Dec.{eqb, ltb}
use lib.ListN.{length, take, drop, get_or, length-append, length-drop, get_or-append, get_or-eq_default}
use lib.Seq.{length-take-le, get_or-append-add, get_or-take, get_or-drop}
use borrow.Author.Tests.{ltb-true, ltb-false, eqb-true, eqb-false}
use Rattle.rules.specs.declared.Login.{Login}
use Rattle.rules.specs.Lists.{any, total}
use Rattle.rules.specs.Session.{login_at, login_numbers, with_login, logins_from, fresh_login, session_of}
use Rattle.rules.proofs.Tests.{or_neither}

-- ---- a session with another login

module _ (s : List ℕ) (i : ℕ) (l : Login) (fits : 6 * i + 6 ≤ length s) where
  before : length (take (6 * i) s) ≡ 6 * i
  before = length-take-le (6 * i) s (omega arith)

  pub length_with : length (with_login s i l) ≡ length s
  unfolding with_login
  length_with =
      let a = length-append (take (6 * i) s) (login_numbers l ++ drop (6 * i + 6) s) in
      let b = length-append (login_numbers l) (drop (6 * i + 6) s) in
      let d = length-drop (6 * i + 6) s in
      omega (arith, before, a, b, d)

  -- the numbers of the login that was put in
  inside : (k : ℕ) → k < 6 → get_or (with_login s i l) (6 * i + k) 0 ≡ get_or (login_numbers l) k 0
  unfolding with_login
  inside k h =
      ap (λ (n : ℕ). get_or (take (6 * i) s ++ (login_numbers l ++ drop (6 * i + 6) s)) (n + k) 0) (sym before)
      ∙ get_or-append-add (take (6 * i) s) (login_numbers l ++ drop (6 * i + 6) s) k 0
      ∙ get_or-append (login_numbers l) (drop (6 * i + 6) s) 0 k h

  -- those before and behind
  outside_before : (n : ℕ) → n < 6 * i → get_or (with_login s i l) n 0 ≡ get_or s n 0
  unfolding with_login
  outside_before n h = get_or-append (take (6 * i) s) (login_numbers l ++ drop (6 * i + 6) s) 0 n (omega (arith, before)) ∙ get_or-take (6 * i) s n 0 h

  outside_behind : (k : ℕ) → get_or (with_login s i l) (6 * i + (6 + k)) 0 ≡ get_or s (6 * i + (6 + k)) 0
  unfolding with_login
  outside_behind k =
      let e : 6 * i + 6 + k ≡ 6 * i + (6 + k) = omega arith in
      ap (λ (n : ℕ). get_or (take (6 * i) s ++ (login_numbers l ++ drop (6 * i + 6) s)) (n + (6 + k)) 0) (sym before)
      ∙ get_or-append-add (take (6 * i) s) (login_numbers l ++ drop (6 * i + 6) s) (6 + k) 0
      ∙ get_or-append-add (login_numbers l) (drop (6 * i + 6) s) k 0
      ∙ get_or-drop (6 * i + 6) s k 0
      ∙ ap (λ (n : ℕ). get_or s n 0) e

  pub login_within : login_at (with_login s i l) i ≡ l
  unfolding login_at
  login_within =
      let e : 6 * i ≡ 6 * i + 0 = omega arith in
      let limit = ap (λ (n : ℕ). get_or (with_login s i l) n 0) e ∙ inside 0 (omega arith) in
      let seen = inside 1 (omega arith) in
      let refused = inside 2 (omega arith) in
      let accepted = inside 3 (omega arith) in
      let rejected = inside 4 (omega arith) in
      let running = inside 5 (omega arith) in
      λ p. record { limit = limit p; tally = record { seen = seen p; refused = refused p; accepted = accepted p; rejected = rejected p }; running = running p }

  module _ (j : ℕ) (other : j ≡ i → ⊥) where
    number_same : (k : ℕ) → k < 6 → get_or (with_login s i l) (6 * j + k) 0 ≡ get_or s (6 * j + k) 0
    number_same k h = go (ltb j i) refl
      where
        go : (b : Bool) → ltb j i ≡ b → get_or (with_login s i l) (6 * j + k) 0 ≡ get_or s (6 * j + k) 0
        go true e = let f = ltb-true j i e in outside_before (6 * j + k) (omega arith)
        go false e =
            let f = ltb-false j i e in
            let g : i < j = omega arith in
            let n : 6 * i + (6 + (6 * j + k - (6 * i + 6))) ≡ 6 * j + k = omega arith in
            ap (λ (m : ℕ). get_or (with_login s i l) m 0) (sym n) ∙ outside_behind (6 * j + k - (6 * i + 6)) ∙ ap (λ (m : ℕ). get_or s m 0) n

    pub login_other : login_at (with_login s i l) j ≡ login_at s j
    unfolding login_at
    login_other =
        let e : 6 * j ≡ 6 * j + 0 = omega arith in
        let limit = ap (λ (n : ℕ). get_or (with_login s i l) n 0) e ∙ number_same 0 (omega arith) ∙ ap (λ (n : ℕ). get_or s n 0) (sym e) in
        let seen = number_same 1 (omega arith) in
        let refused = number_same 2 (omega arith) in
        let accepted = number_same 3 (omega arith) in
        let rejected = number_same 4 (omega arith) in
        let running = number_same 5 (omega arith) in
        λ p. record { limit = limit p; tally = record { seen = seen p; refused = refused p; accepted = accepted p; rejected = rejected p }; running = running p }

-- ---- a session of fresh logins

pub length_session : (limits : List ℕ) → length (session_of limits) ≡ 6 * length limits
unfolding session_of
length_session [] = refl
length_session (l ∷ ls) = let e = length_session ls in omega (arith, e)

number_started : (limits : List ℕ) (i k : ℕ) → i < length limits → k < 6 → get_or (session_of limits) (6 * i + k) 0 ≡ get_or (login_numbers (fresh_login (get_or limits i 0))) k 0
unfolding session_of
number_started [] i k h g = absurd (not-suc-le-zero h)
number_started (l ∷ ls) zero k h g = let e : 6 * 0 + k ≡ k = omega arith in ap (λ (n : ℕ). get_or (session_of (l ∷ ls)) n 0) e ∙ get_or-append (login_numbers (fresh_login l)) (session_of ls) 0 k g
number_started (l ∷ ls) (suc i) k h g =
    let e : 6 * suc i + k ≡ 6 + (6 * i + k) = omega arith in
    ap (λ (n : ℕ). get_or (session_of (l ∷ ls)) n 0) e ∙ get_or-append-add (login_numbers (fresh_login l)) (session_of ls) (6 * i + k) 0 ∙ number_started ls i k (le_of_suc-le-suc h) g

pub login_started : (limits : List ℕ) (i : ℕ) → i < length limits → login_at (session_of limits) i ≡ fresh_login (get_or limits i 0)
unfolding login_at
login_started limits i h =
    let e : 6 * i ≡ 6 * i + 0 = omega arith in
    let number = number_started limits i in
    let limit = ap (λ (n : ℕ). get_or (session_of limits) n 0) e ∙ number 0 h (omega arith) in
    let seen = number 1 h (omega arith) in
    let refused = number 2 h (omega arith) in
    let accepted = number 3 h (omega arith) in
    let rejected = number 4 h (omega arith) in
    let running = number 5 h (omega arith) in
    λ p. record { limit = limit p; tally = record { seen = seen p; refused = refused p; accepted = accepted p; rejected = rejected p }; running = running p }

-- no login is behind the last
pub login_beyond : (s : List ℕ) (i : ℕ) → length s ≤ 6 * i → login_at s i ≡ fresh_login 0
unfolding login_at
login_beyond s i h =
    let none : (k : ℕ) → get_or s (6 * i + k) 0 ≡ 0 = λ k. get_or-eq_default s 0 {n = 6 * i + k} (omega arith) in
    let limit : get_or s (6 * i) 0 ≡ 0 = get_or-eq_default s 0 {n = 6 * i} h in
    λ p. record { limit = limit p; tally = record { seen = none 1 p; refused = none 2 p; accepted = none 3 p; rejected = none 4 p }; running = none 5 p }

-- ---- all logins

-- one more
pub next_login : (s : List ℕ) (i n : ℕ) → i < n → logins_from (n - i) i s ≡ login_at s i ∷ logins_from (n - (i + 1)) (i + 1) s
unfolding logins_from
next_login s i n h =
    let e : n - i ≡ suc (n - (i + 1)) = omega arith in
    let f : suc i ≡ i + 1 = omega arith in
    ap (λ (m : ℕ). logins_from m i s) e ∙ ap (λ (m : ℕ). login_at s i ∷ logins_from (n - (i + 1)) m s) f

module _ (s : List ℕ) (f : Login → Bool) where
  -- none passes a test
  pub none_passes : (n i : ℕ) → any f (logins_from n i s) ≡ false → (j : ℕ) → i ≤ j → j < i + n → f (login_at s j) ≡ false
  unfolding logins_from any
  none_passes zero i h j k l = absurd (omega arith)
  none_passes (suc n) i h j k l = go (eqb i j) refl (none_passes n (suc i) both.1 j)
    where
      both : (f (login_at s i) ≡ false) × (any f (logins_from n (suc i) s) ≡ false)
      both = or_neither (f (login_at s i)) (any f (logins_from n (suc i) s)) h

      go : (b : Bool) → eqb i j ≡ b → (suc i ≤ j → j < suc i + n → f (login_at s j) ≡ false) → f (login_at s j) ≡ false
      go true e ih = ap (λ (m : ℕ). f (login_at s m)) (sym (eqb-true i j e)) ∙ both.0
      go false e ih = let g = eqb-false i j e in ih (omega arith) (omega arith)

  pub passes_none : (n i : ℕ) → ((j : ℕ) → i ≤ j → j < i + n → f (login_at s j) ≡ false) → any f (logins_from n i s) ≡ false
  unfolding logins_from any
  passes_none zero i h = refl
  passes_none (suc n) i h = rw (h i (omega arith) (omega arith)) (passes_none n (suc i) (λ j k l. h j (omega arith) (omega arith)))

-- a part is at most the sum
pub one_of_all : (s : List ℕ) (g : Login → ℕ) (n i j : ℕ) → i ≤ j → j < i + n → g (login_at s j) ≤ total (map g (logins_from n i s))
unfolding logins_from total
one_of_all s g zero i j k l = absurd (omega arith)
one_of_all s g (suc n) i j k l = go (eqb i j) refl (one_of_all s g n (suc i) j)
  where
    go : (b : Bool) → eqb i j ≡ b → (suc i ≤ j → j < suc i + n → g (login_at s j) ≤ total (map g (logins_from n (suc i) s)))
        → g (login_at s j) ≤ g (login_at s i) + total (map g (logins_from n (suc i) s))
    go true e ih = let x = ap (λ (m : ℕ). g (login_at s m)) (eqb-true i j e) in omega (arith, x)
    go false e ih = let x = eqb-false i j e in let y = ih (omega arith) (omega arith) in omega (arith, y)
