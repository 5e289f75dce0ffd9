-- Both walks together make fewer pairings than there are legs.
-- Every pairing closes at least one open leg, and the last still finds two open.
use mathlib.Core.Path.{◌≡◌, refl}
use mathlib.Core.List.{List, [], ◌∷◌}
use mathlib.Core.Bool.{Bool, true, false, cond, not, ◌&&◌}
use Prim.Native.Nat.{ℕ, zero, suc, ◌+◌, ◌-◌, ◌*◌, ◌≤◌, min}
use native.Mathlib.Nat.{sub-zero}
use native.Mathlib.Omega.{arith}
use lib.Dec.{leb}
use lib.ListN.{length, length-append}
use borrow.Author.Tests.{leb-true, leb-false}
use Rattle.rules.specs.declared.Series.{Series}
use Rattle.rules.specs.declared.Leg.{Leg}
use Rattle.rules.specs.Lists.{same_bool, lex, insert, sort}
use Rattle.rules.specs.Pairing.{Walked, less, pair_of, matched, reach, walk, one_expiry, one_strike, by_expiry, both_walks}

-- 1 for a leg with contracts open
abbrev busy : ℕ → ℕ
busy zero = 0
busy (suc n) = 1

-- how many legs have contracts open
unfoldable running : List Leg → ℕ
running [] = 0
running (x ∷ xs) = busy x.size + running xs

-- `p` pairings that leave `b` legs open of `a`
abbrev Fewer : ℕ → ℕ → ℕ → Type 0
Fewer p b a = (p + b ≤ a) × (p ≤ a - 1)

busy_one : (n : ℕ) → busy n ≤ 1
busy_one zero = omega arith
busy_one (suc n) = omega arith

pairs_one : (x y : Leg) (n : ℕ) → length (pair_of x y n) ≡ busy n
unfolding pair_of
pairs_one x y zero = refl
pairs_one x y (suc n) = omega arith

-- one match, by the sizes of the two legs: nothing is matched, or one of the two is closed
closes : (x y n : ℕ) (m : Bool) → n ≡ cond m (min x y) 0
    → (busy n + busy (x - n) + busy (y - n) ≤ busy x + busy y) × (busy (x - n) ≤ busy x) × (2 * busy n ≤ busy x + busy y)
closes x y zero m e = rw (sub-zero x, sub-zero y) (omega arith)
closes x y (suc n) false e = absurd (omega arith)
closes zero y (suc n) true e = absurd (omega arith)
closes (suc x) zero (suc n) true e = absurd (omega arith)
closes (suc x) (suc y) (suc n) true e = go (suc x - suc n) (suc y - suc n) (leb x y) refl refl refl
  where
    go : (a b : ℕ) (l : Bool) → leb x y ≡ l → suc x - suc n ≡ a → suc y - suc n ≡ b
        → (1 + busy a + busy b ≤ 2) × (busy a ≤ 1) × (2 ≤ 2)
    go zero b l f p q = omega (arith, busy_one b)
    go (suc a) zero l f p q = omega arith
    go (suc a) (suc b) true f p q = absurd (omega (arith, leb-true x y f))
    go (suc a) (suc b) false f p q = absurd (omega (arith, leb-false x y f))

-- one match before `p` pairings more
match_fewer : (x y n p b c : ℕ) (m : Bool) → n ≡ cond m (min x y) 0
    → Fewer p b (busy (x - n) + c) → Fewer (busy n + p) (busy (y - n) + b) (busy x + (busy y + c))
match_fewer x y n p b c m e h = count (busy x) (busy y) (busy n) (busy (x - n)) (busy (y - n)) (closes x y n m e) (busy_one (x - n)) h
  where
    count : (a d k a' d' : ℕ) → (k + a' + d' ≤ a + d) × (a' ≤ a) × (2 * k ≤ a + d) → a' ≤ 1
        → Fewer p b (a' + c) → Fewer (k + p) (d' + b) (a + (d + c))
    count a d k a' d' f g h = omega arith

module _ (same : Series → Series → Bool) where
  reach_fewer : (x : Leg) (ys : List Leg) → let r = reach same x ys in
      Fewer (length r.pairs) (busy r.leg.size + running r.legs) (busy x.size + running ys)
  unfolding reach matched running
  reach_fewer x [] = omega arith
  reach_fewer x (y ∷ ys) =
      let n = matched same x y in
      let r = reach same (less x n) ys in
      let m = same x.series y.series && not (same_bool x.bought y.bought) in
      let h = reach_fewer (less x n) ys in
      let k = match_fewer x.size y.size n (length r.pairs) (busy r.leg.size + running r.legs) (running ys) m refl h in
      let l = length-append (pair_of x y n) r.pairs in
      let o = pairs_one x y n in
      omega arith

  walk_fewer : (xs : List Leg) → Fewer (length (walk same xs).pairs) (running (walk same xs).legs) (running xs)
  unfolding walk running
  walk_fewer [] = omega arith
  walk_fewer (x ∷ xs) =
      let w = walk same xs in
      let r = reach same x w.legs in
      let h = walk_fewer xs in
      let k = reach_fewer x w.legs in
      let l = length-append w.pairs r.pairs in
      omega arith

-- in another sequence as many legs have contracts open
module _ (key : Leg → List ℕ) where
  running_insert : (x : Leg) (ys : List Leg) → running (insert key x ys) ≡ busy x.size + running ys
  unfolding insert running
  running_insert x [] = refl
  running_insert x (y ∷ ys) = go (lex (key x) (key y)) (running_insert x ys)
    where
      go : (b : Bool) → running (insert key x ys) ≡ busy x.size + running ys
          → running (cond b (x ∷ y ∷ ys) (y ∷ insert key x ys)) ≡ busy x.size + (busy y.size + running ys)
      go true h = refl
      go false h = omega arith

  running_sort : (xs : List Leg) → running (sort key xs) ≡ running xs
  unfolding sort running
  running_sort [] = refl
  running_sort (x ∷ xs) = omega (arith, running_insert x (sort key xs), running_sort xs)

running_length : (xs : List Leg) → running xs ≤ length xs
unfolding running
running_length [] = omega arith
running_length (x ∷ xs) = omega (arith, running_length xs, busy_one x.size)

-- the pairings of an order are at most its legs less one
pub pairing_fewer : (european : Bool) (ls : List Leg) → length (both_walks european ls).pairs ≤ length ls - 1
unfolding both_walks by_expiry
pairing_fewer european ls = go european
  where
    w : Walked
    w = walk one_expiry ls

    u : Walked
    u = walk one_strike (by_expiry w.legs)

    go : (eu : Bool) → length (both_walks eu ls).pairs ≤ length ls - 1
    go true = omega (arith, (walk_fewer one_expiry ls).1, running_length ls)
    go false =
        let one : Fewer (length w.pairs) (running w.legs) (running ls) = walk_fewer one_expiry ls in
        let two : Fewer (length u.pairs) (running u.legs) (running (by_expiry w.legs))
        = walk_fewer one_strike (by_expiry w.legs) in
        let same : running (by_expiry w.legs) ≡ running w.legs = running_sort _ w.legs in
        let l = length-append w.pairs u.pairs in
        let m = running_length ls in
        omega arith
