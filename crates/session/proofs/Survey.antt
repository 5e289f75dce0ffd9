-- What all logins of a session have seen, taken from the room that it begins with; and whether one is bad.
use Rattle.std.proofs.Common.{◌≡◌, ◌||◌, ℕ, zero, suc, ◌+◌, ◌-◌, ◌<◌, ◌≤◌, Bool, true, false, List, map, eqb, leb, refl, ap, add-one, arith}
use Rattle.std.specs.List.{list_any, range_with_len}
use borrow.Author.Tests.{eqb-true, eqb-false, le-leb, lt-leb}
use Rattle.rules.specs.declared.Login.{Login}
use Rattle.rules.specs.Lists.{any, total}
use Rattle.rules.specs.Session.{login_at, logins_from}
use Rattle.rules.proofs.Logins.{next_login}

-- what is left of some room by the logins from `i` on
abbrev pub left_from : List ℕ → ℕ → ℕ → ℕ
left_from s room i = room - total (map (λ (l : Login). l.tally.seen) (logins_from (32 - i) i s))

pub room_next : (s : List ℕ) (room i : ℕ) → i < 32 → left_from s room i ≡ left_from s (room - (login_at s i).tally.seen) (i + 1)
unfolding total
room_next s room i h =
    let seen : List Login → ℕ = λ ls. total (map (λ (l : Login). l.tally.seen) ls) in
    let e = ap seen (next_login s i 32 h) in
    omega (arith, e)

pub room_all : (s : List ℕ) (room i : ℕ) → 32 ≤ i → left_from s room i ≡ room
unfolding total logins_from
room_all s room i h =
    let none : 32 - i ≡ 0 = omega arith in
    let e : total (map (λ (l : Login). l.tally.seen) (logins_from (32 - i) i s)) ≡ 0 = ap (λ (n : ℕ). total (map (λ (l : Login). l.tally.seen) (logins_from n i s))) none in
    omega (arith, e)

-- no room is left
pub no_room : (n : ℕ) → leb 1000000 n ≡ eqb (1000000 - n) 0
no_room n = go (eqb (1000000 - n) 0) refl
  where
    go : (b : Bool) → eqb (1000000 - n) 0 ≡ b → leb 1000000 n ≡ b
    go true e = let k = eqb-true (1000000 - n) 0 e in le-leb 1000000 n (omega arith)
    go false e = let k = eqb-false (1000000 - n) 0 e in lt-leb 1000000 n (omega arith)

-- some login passes a test
pub any_login : (s : List ℕ) (f : Login → Bool) (n i : ℕ) → list_any (λ k. f (login_at s k)) (range_with_len i n) ≡ any f (logins_from n i s)
unfolding any logins_from
any_login s f zero i = refl
any_login s f (suc n) i = rw add-one (ap (λ (b : Bool). f (login_at s i) || b) (any_login s f n (suc i)))
