-- A walk keeps, for each side, the worth of all contracts under any premiums, and every pair that it makes is of one group.
use mathlib.Core.Path.{◌≡◌, refl, ap, ◌∙◌}
use mathlib.Core.List.{List, [], ◌∷◌, ◌++◌}
use mathlib.Core.Bool.{Bool, true, false, cond, ◌&&◌, not}
use Prim.Native.Nat.{ℕ, zero, suc, ◌+◌, ◌-◌, ◌*◌, ◌≤◌, min}
use native.Mathlib.Nat.{add-mul, add-sub_of_le, sub-zero}
use native.Mathlib.Omega.{arith}
use Rattle.rules.specs.declared.Series.{Series}
use Rattle.rules.specs.declared.Leg.{Leg}
use Rattle.rules.specs.Lists.{All, Perm, none, keep, swap, then, same_bool}
use Rattle.rules.specs.Pairing.{Pair, Walked, pair_of, less, matched, reach, walk, one_expiry, one_strike, by_expiry, both_walks}
use Rattle.rules.proofs.Tests.{and_both}
use Rattle.laws.proofs.Sorting.{all_append, sort_is_perm}

-- the contracts of one side (true: bought) times their premiums
module _ (v : Series → ℕ) (side : Bool) where
  abbrev pub leg_worth : Leg → ℕ
  leg_worth l = cond (same_bool side l.bought) (l.size * v l.series) 0

  unfoldable pub worth : List Leg → ℕ
  worth [] = 0
  worth (x ∷ xs) = leg_worth x + worth xs

  abbrev pub pair_worth : Pair → ℕ
  pair_worth m = m.size * v (cond side m.buy m.sell)

  unfoldable pub pairs_worth : List Pair → ℕ
  pairs_worth [] = 0
  pairs_worth (m ∷ ms) = pair_worth m + pairs_worth ms

  pairs_append : (ms ns : List Pair) → pairs_worth (ms ++ ns) ≡ pairs_worth ms + pairs_worth ns
  unfolding pairs_worth
  pairs_append [] ns = omega arith
  pairs_append (m ∷ ms) ns = omega (arith, pairs_append ms ns)

  pub worth_perm : {xs ys : List Leg} → Perm xs ys → worth xs ≡ worth ys
  unfolding worth
  worth_perm none = refl
  worth_perm (keep a p) = ap (λ n. leg_worth a + n) (worth_perm p)
  worth_perm (swap a b xs) = omega arith
  worth_perm (then p q) = worth_perm p ∙ worth_perm q

  split : (n s w : ℕ) → n ≤ s → s * w ≡ n * w + (s - n) * w
  split n s w h = rw (← (add-mul n (s - n) w), add-sub_of_le h)

  -- one match
  pair_worth_lem : (x y : Leg) (n : ℕ) → n ≤ x.size → n ≤ y.size → not (same_bool x.bought y.bought) ≡ true
      → leg_worth x + leg_worth y ≡ pairs_worth (pair_of x y n) + (leg_worth (less x n) + leg_worth (less y n))
  unfolding pair_of pairs_worth
  pair_worth_lem x y zero hx hy o = rw (sub-zero x.size, sub-zero y.size) (omega arith)
  pair_worth_lem x y (suc k) hx hy o = go side x.bought y.bought o
    where
      n : ℕ
      n = suc k

      go : (s b c : Bool) → not (same_bool b c) ≡ true
          → cond (same_bool s b) (x.size * v x.series) 0 + cond (same_bool s c) (y.size * v y.series) 0
          ≡ (n * v (cond s (cond b x.series y.series) (cond b y.series x.series)) + 0) + (cond (same_bool s b) ((x.size - n) * v x.series) 0 + cond (same_bool s c) ((y.size - n) * v y.series) 0)
      go true true true h = cc
      go true true false h = omega (arith, split n x.size (v x.series) hx)
      go true false true h = omega (arith, split n y.size (v y.series) hy)
      go true false false h = cc
      go false true true h = cc
      go false true false h = omega (arith, split n y.size (v y.series) hy)
      go false false true h = omega (arith, split n x.size (v x.series) hx)
      go false false false h = cc

  module _ (same : Series → Series → Bool) where
    match_worth : (x y : Leg) → leg_worth x + leg_worth y
        ≡ pairs_worth (pair_of x y (matched same x y)) + (leg_worth (less x (matched same x y)) + leg_worth (less y (matched same x y)))
    unfolding matched pair_of pairs_worth
    match_worth x y = go (same x.series y.series && not (same_bool x.bought y.bought)) refl
      where
        go : (m : Bool) → same x.series y.series && not (same_bool x.bought y.bought) ≡ m → let n = cond m (min x.size y.size) 0 in
            leg_worth x + leg_worth y ≡ pairs_worth (pair_of x y n) + (leg_worth (less x n) + leg_worth (less y n))
        go true e = pair_worth_lem x y (min x.size y.size) (omega arith) (omega arith) (and_both (same x.series y.series) _ e).1
        go false e = rw (sub-zero x.size, sub-zero y.size) (omega arith)

    reach_worth : (x : Leg) (ys : List Leg) → let r = reach same x ys in
        leg_worth x + worth ys ≡ pairs_worth r.pairs + (leg_worth r.leg + worth r.legs)
    unfolding reach worth pairs_worth
    reach_worth x [] = omega arith
    reach_worth x (y ∷ ys) =
        let n = matched same x y in
        omega (arith, match_worth x y, reach_worth (less x n) ys, pairs_append (pair_of x y n) (reach same (less x n) ys).pairs)

    -- a walk's worth is its pairs' worth and that of what is left
    pub walk_worth : (xs : List Leg) → worth xs ≡ pairs_worth (walk same xs).pairs + worth (walk same xs).legs
    unfolding walk worth pairs_worth
    walk_worth [] = refl
    walk_worth (x ∷ xs) =
        let w = walk same xs in
        omega (arith, walk_worth xs, reach_worth x w.legs, pairs_append w.pairs (reach same x w.legs).pairs)

  -- and so is that of both walks
  pub pairing_worth : (european : Bool) (ls : List Leg) → worth ls ≡ pairs_worth (both_walks european ls).pairs + worth (both_walks european ls).legs
  unfolding both_walks by_expiry
  pairing_worth european ls = go european
    where
      w : Walked
      w = walk one_expiry ls

      u : Walked
      u = walk one_strike (by_expiry w.legs)

      again : worth (by_expiry w.legs) ≡ worth w.legs
      again = worth_perm (sort_is_perm _ w.legs)

      go : (eu : Bool) → worth ls ≡ pairs_worth (both_walks eu ls).pairs + worth (both_walks eu ls).legs
      go true = walk_worth one_expiry ls
      go false = omega (arith, walk_worth one_expiry ls, again, walk_worth one_strike (by_expiry w.legs), pairs_append w.pairs u.pairs)

-- both walks keep the contracts of each side: the worth at one for each contract
pub pairing_contracts : (side european : Bool) (ls : List Leg) → let contracts = worth (λ s. 1) side in let w = both_walks european ls in
    contracts ls ≡ pairs_worth (λ s. 1) side w.pairs + contracts w.legs
pairing_contracts side european ls = pairing_worth (λ s. 1) side european ls

-- what is asked of the legs and of the pairs of a walk
module _ (same : Series → Series → Bool) (P : Series → Type 0) (Q : Series → Series → Type 0)
    (ok : (s t : Series) → P s → P t → same s t ≡ true → Q s t × Q t s) where
  abbrev Legs : List Leg → Type 0
  Legs = All (λ l. P l.series)

  abbrev Pairs : List Pair → Type 0
  Pairs = All (λ m. Q m.buy m.sell)

  pair_all : (x y : Leg) (n : ℕ) → Q x.series y.series × Q y.series x.series → Pairs (pair_of x y n)
  unfolding pair_of
  pair_all x y zero q = tt
  pair_all x y (suc n) q = (go x.bought, tt)
    where
      go : (b : Bool) → Q (cond b x.series y.series) (cond b y.series x.series)
      go true = q.0
      go false = q.1

  match_all : (x y : Leg) → P x.series → P y.series → Pairs (pair_of x y (matched same x y))
  unfolding matched pair_of
  match_all x y px py = go (same x.series y.series && not (same_bool x.bought y.bought)) refl
    where
      go : (m : Bool) → same x.series y.series && not (same_bool x.bought y.bought) ≡ m → Pairs (pair_of x y (cond m (min x.size y.size) 0))
      go true e = pair_all x y (min x.size y.size) (ok x.series y.series px py (and_both (same x.series y.series) _ e).0)
      go false e = tt

  reach_all : (x : Leg) (ys : List Leg) → P x.series → Legs ys → let r = reach same x ys in Pairs r.pairs × P r.leg.series × Legs r.legs
  unfolding reach
  reach_all x [] px h = (tt, px, tt)
  reach_all x (y ∷ ys) px h =
      let n = matched same x y in
      let r = reach_all (less x n) ys px h.1 in
      (all_append _ (pair_of x y n) (reach same (less x n) ys).pairs (match_all x y px h.0) r.0, r.1, (h.0, r.2))

  pub walk_all : (xs : List Leg) → Legs xs → Pairs (walk same xs).pairs × Legs (walk same xs).legs
  unfolding walk
  walk_all [] h = (tt, tt)
  walk_all (x ∷ xs) h =
      let w = walk_all xs h.1 in
      let r = reach_all x (walk same xs).legs h.0 w.1 in
      (all_append _ (walk same xs).pairs (reach same x (walk same xs).legs).pairs w.0 r.0, (r.1, r.2))
