-- In each group a walk leaves open contracts of one side only, whatever tells the groups.
-- A match of legs of two sides closes one of them, and later matches only close contracts.
use mathlib.Core.Path.{◌≡◌, refl}
use mathlib.Core.List.{List, [], ◌∷◌}
use mathlib.Core.Bool.{Bool, true, false, cond, not, ◌&&◌}
use Prim.Native.Nat.{ℕ, zero, suc, ◌-◌, ◌<◌, min}
use native.Mathlib.Omega.{arith}
use lib.ListN.{length, get_or}
use Rattle.rules.specs.declared.Series.{Series}
use Rattle.rules.specs.declared.Leg.{Leg}
use Rattle.rules.specs.Lists.{same_bool}
use Rattle.rules.specs.Pairing.{less, matched, reach, walk}

module _ (same : Series → Series → Bool) where
  -- if two legs of one group both have contracts open, these are of one side
  abbrev pub OneSide : Leg → Leg → Type 0
  OneSide x y = same x.series y.series ≡ true → 0 < x.size → 0 < y.size → x.bought ≡ y.bought

  -- `x` with each of the legs
  abbrev pub WithEach : Leg → List Leg → Type 0
  WithEach x [] = Unit {0}
  WithEach x (y ∷ ys) = OneSide x y × WithEach x ys

  -- each of the legs with each after it
  abbrev pub EachTwo : List Leg → Type 0
  EachTwo [] = Unit {0}
  EachTwo (x ∷ xs) = WithEach x xs × EachTwo xs

  -- closing contracts keeps it
  less_left : (x y : Leg) (n : ℕ) → OneSide x y → OneSide (less x n) y
  less_left x y n h e p q = h e (omega arith) q

  less_right : (x y : Leg) (n : ℕ) → OneSide x y → OneSide x (less y n)
  less_right x y n h e p q = h e p (omega arith)

  -- a match closes one of two legs of different sides
  match_one_side : (x y : Leg) → let n = matched same x y in OneSide (less x n) (less y n)
  unfolding matched
  match_one_side x y = go (same x.series y.series) x.bought y.bought
    where
      go : (s b c : Bool) → let n = cond (s && not (same_bool b c)) (min x.size y.size) 0 in
          s ≡ true → 0 < x.size - n → 0 < y.size - n → b ≡ c
      go s true true e p q = refl
      go s false false e p q = refl
      go true true false e p q = absurd (omega arith)
      go true false true e p q = absurd (omega arith)
      go false true false e p q = cc
      go false false true e p q = cc

  less_each : (x : Leg) (n : ℕ) (ys : List Leg) → WithEach x ys → WithEach (less x n) ys
  less_each x n [] h = tt
  less_each x n (y ∷ ys) h = (less_left x y n h.0, less_each x n ys h.1)

  -- a leg `z` beside those that `x` reaches
  reach_leg : (x : Leg) (ys : List Leg) (z : Leg) → OneSide x z → OneSide (reach same x ys).leg z
  unfolding reach
  reach_leg x [] z h = h
  reach_leg x (y ∷ ys) z h = let n = matched same x y in reach_leg (less x n) ys z (less_left x z n h)

  reach_each : (z x : Leg) (ys : List Leg) → WithEach z ys → WithEach z (reach same x ys).legs
  unfolding reach
  reach_each z x [] h = tt
  reach_each z x (y ∷ ys) h = let n = matched same x y in (less_right z y n h.0, reach_each z (less x n) ys h.1)

  reach_one_side : (x : Leg) (ys : List Leg) → WithEach (reach same x ys).leg (reach same x ys).legs
  unfolding reach
  reach_one_side x [] = tt
  reach_one_side x (y ∷ ys) =
      let n = matched same x y in
      (reach_leg (less x n) ys (less y n) (match_one_side x y), reach_one_side (less x n) ys)

  reach_each_two : (x : Leg) (ys : List Leg) → EachTwo ys → EachTwo (reach same x ys).legs
  unfolding reach
  reach_each_two x [] h = tt
  reach_each_two x (y ∷ ys) h =
      let n = matched same x y in
      let rest = (reach same (less x n) ys).legs in
      (less_each y n rest (reach_each y (less x n) ys h.0), reach_each_two (less x n) ys h.1)

  -- what a walk leaves, each two legs
  pub walk_each_two : (xs : List Leg) → EachTwo (walk same xs).legs
  unfolding walk
  walk_each_two [] = tt
  walk_each_two (x ∷ xs) = let ys = (walk same xs).legs in (reach_one_side x ys, reach_each_two x ys (walk_each_two xs))

  at_one : (x : Leg) (ys : List Leg) (j : ℕ) (d : Leg) → WithEach x ys → j < length ys → OneSide x (get_or ys j d)
  at_one x [] j d h l = absurd (omega arith)
  at_one x (y ∷ ys) zero d h l = h.0
  at_one x (y ∷ ys) (suc j) d h l = at_one x ys j d h.1 (omega arith)

  at_two : (xs : List Leg) (i j : ℕ) (d : Leg) → EachTwo xs → i < j → j < length xs → OneSide (get_or xs i d) (get_or xs j d)
  at_two [] i j d h k l = absurd (omega arith)
  at_two (x ∷ xs) i zero d h k l = absurd (omega arith)
  at_two (x ∷ xs) zero (suc j) d h k l = at_one x xs j d h.0 (omega arith)
  at_two (x ∷ xs) (suc i) (suc j) d h k l = at_two xs i j d h.1 (omega arith) (omega arith)

  -- any two legs left of one group that both have contracts open are of one side (both places are in the list, so `d` is never read)
  pub one_side : (xs : List Leg) (i j : ℕ) (d : Leg) → i < j → j < length (walk same xs).legs
      → let x = get_or (walk same xs).legs i d in let y = get_or (walk same xs).legs j d in
      same x.series y.series ≡ true → 0 < x.size → 0 < y.size → x.bought ≡ y.bought
  one_side xs i j d h l = at_two (walk same xs).legs i j d (walk_each_two xs) h l
