-- The open contracts of a group among legs.
use mathlib.Core.Path.{◌≡◌, refl, sym, ◌∙◌}
use mathlib.Core.List.{List, [], ◌∷◌, ◌++◌}
use mathlib.Core.Bool.{Bool, true, false, cond, not, ◌&&◌, true≢false}
use Prim.Native.Nat.{ℕ, zero, suc, ◌+◌, ◌-◌, ◌*◌, ◌≤◌, ◌<◌, min}
use native.Mathlib.Nat.{sub-zero}
use native.Mathlib.Omega.{arith}
use lib.Dec.{ltb}
use lib.IntN.{nat_abs}
use lib.ListN.{length, get_or, set}
use Rattle.rules.specs.declared.Series.{Series}
use Rattle.rules.specs.declared.Leg.{Leg}
use Rattle.rules.specs.Lists.{All, same_bool}
use Rattle.rules.specs.Order.{no_leg}
use Rattle.rules.specs.Pairing.{pair_of, less, matched, reach}
use Rattle.rules.specs.OpenContracts.{sign, adjusted, shows_other, open_on, open_contracts}
use Rattle.open_contracts.proofs.Differences.{adjusted_net, shows_net, net_small}
use Rattle.open_contracts.proofs.Sides.{WithEach, EachTwo}

-- what tells groups: each series is in its own, and two of one group are in one with the same series
pub record Grouping (same : Series → Series → Bool) : Type 0 where
  pub self : (s : Series) → same s s ≡ true
  pub alike : (s t u : Series) → same s t ≡ true → same s u ≡ same t u

module _ (same : Series → Series → Bool) where
  -- what one leg has open on a side in the group of `s`
  abbrev pub leg_open : Bool → Series → Leg → ℕ
  leg_open side s l = cond (same s l.series && same_bool side l.bought) l.size 0

  -- what is open in the group of `s` is of one side
  abbrev pub OneSided : Series → List Leg → Type 0
  OneSided s ls = (side : Bool) → 0 < open_on same side s ls → open_on same (not side) s ls ≡ 0

  -- the legs of the group of `s` stand before all others
  abbrev pub Lined : Series → List Leg → Type 0
  Lined s [] = Unit {0}
  Lined s (l ∷ ls) = (same s l.series ≡ false → All (λ z. same s z.series ≡ false) ls) × Lined s ls

  -- ---- the figure

  pub adjusted_open : (s : Series) (ys zs : List Leg) (side : Bool) (n : ℕ)
      → open_on same side s ys + n + open_on same (not side) s zs ≡ open_on same side s zs + open_on same (not side) s ys
      → adjusted (open_contracts same s ys) (sign side) n ≡ open_contracts same s zs
  adjusted_open s ys zs side n h = adjusted_net (λ b. open_on same b s ys) (λ b. open_on same b s zs) side n h

  pub shows_open : (s : Series) (ls : List Leg) (side : Bool) → shows_other (open_contracts same s ls) (sign side) ≡ ltb (open_on same side s ls) (open_on same (not side) s ls)
  shows_open s ls side = shows_net (λ b. open_on same b s ls) side

  -- ---- lists

  pub open_append : (side : Bool) (s : Series) (xs ys : List Leg) → open_on same side s (xs ++ ys) ≡ open_on same side s xs + open_on same side s ys
  unfolding open_on
  open_append side s [] ys = omega arith
  open_append side s (x ∷ xs) ys = omega (arith, open_append side s xs ys)

  pub open_set : (side : Bool) (s : Series) (xs : List Leg) (k : ℕ) (z : Leg) → k < length xs
      → open_on same side s (set xs k z) + leg_open side s (get_or xs k no_leg) ≡ open_on same side s xs + leg_open side s z
  unfolding open_on
  open_set side s [] k z h = absurd (omega arith)
  open_set side s (x ∷ xs) zero z h = omega arith
  open_set side s (x ∷ xs) (suc k) z h = omega (arith, open_set side s xs k z (omega arith))

  -- none of the group
  pub open_none : (side : Bool) (s : Series) (ls : List Leg) → All (λ z. same s z.series ≡ false) ls → open_on same side s ls ≡ 0
  unfolding open_on
  open_none side s [] h = refl
  open_none side s (l ∷ ls) h = let r = open_none side s ls h.1 in rw h.0 (omega arith)

  -- the first is of another group, and so are all
  pub open_past : (side : Bool) (s : Series) (l : Leg) (ls : List Leg) → Lined s (l ∷ ls) → same s l.series ≡ false → open_on same side s (l ∷ ls) ≡ 0
  open_past side s l ls h e = open_none side s (l ∷ ls) (e, h.0 e)

  pub open_few : (side : Bool) (s : Series) (most : ℕ) (ls : List Leg) → All (λ l. l.size ≤ most) ls → open_on same side s ls ≤ most * length ls
  unfolding open_on
  open_few side s most [] h = omega arith
  open_few side s most (l ∷ ls) h = omega (arith, go (same s l.series && same_bool side l.bought), open_few side s most ls h.1)
    where
      go : (b : Bool) → cond b l.size 0 ≤ most
      go true = h.0
      go false = omega arith

  pub figure_small : (s : Series) (most : ℕ) (ls : List Leg) → ((side : Bool) → open_on same side s ls ≤ most) → nat_abs (open_contracts same s ls) ≤ most
  figure_small s most ls h = net_small (λ b. open_on same b s ls) most h

  -- ---- one match: what it takes from the leg walked before

  taken : (x y : Leg) → let m = matched same x y in
      (leg_open (not x.bought) x.series y ≡ leg_open (not x.bought) x.series (less y m) + m)
      × (leg_open x.bought x.series y ≡ leg_open x.bought x.series (less y m))
  unfolding matched
  taken x y = go (same x.series y.series) x.bought y.bought
    where
      go : (g b c : Bool) → let m = cond (g && not (same_bool b c)) (min x.size y.size) 0 in
          (cond (g && same_bool (not b) c) y.size 0 ≡ cond (g && same_bool (not b) c) (y.size - m) 0 + m)
          × (cond (g && same_bool b c) y.size 0 ≡ cond (g && same_bool b c) (y.size - m) 0)
      go false b c = (refl, refl)
      go true true true = (refl, omega arith)
      go true true false = (omega arith, refl)
      go true false true = (omega arith, refl)
      go true false false = (refl, omega arith)

  pub taken_other : (x y : Leg) → let m = matched same x y in leg_open (not x.bought) x.series y ≡ leg_open (not x.bought) x.series (less y m) + m
  taken_other x y = (taken x y).0

  pub taken_own : (x y : Leg) → let m = matched same x y in leg_open x.bought x.series y ≡ leg_open x.bought x.series (less y m)
  taken_own x y = (taken x y).1

  pub less_few : (side : Bool) (s : Series) (y : Leg) (m : ℕ) → leg_open side s (less y m) ≤ leg_open side s y
  less_few side s y m = go (same s y.series && same_bool side y.bought)
    where
      go : (b : Bool) → cond b (y.size - m) 0 ≤ cond b y.size 0
      go true = omega arith
      go false = omega arith

  -- where the leg reached has contracts left, the match closed the other's
  pub all_taken : (x y : Leg) → 0 < x.size - matched same x y → leg_open (not x.bought) x.series y ≤ matched same x y
  unfolding matched
  all_taken x y = go (same x.series y.series) x.bought y.bought
    where
      go : (g b c : Bool) → let m = cond (g && not (same_bool b c)) (min x.size y.size) 0 in
          0 < x.size - m → cond (g && same_bool (not b) c) y.size 0 ≤ m
      go false b c h = omega arith
      go true true true h = omega arith
      go true true false h = omega arith
      go true false true h = omega arith
      go true false false h = omega arith

  -- ---- a leg that meets nothing

  pub idle : (x : Leg) (ys : List Leg) → All (λ y. matched same x y ≡ 0) ys → reach same x ys ≡ record { pairs = []; leg = x; legs = ys }
  unfolding reach pair_of
  idle x [] h = refl
  idle x (y ∷ ys) h = rw (h.0, sub-zero x.size, sub-zero y.size, idle x ys h.1)

  -- it has nothing left
  pub spent : (x : Leg) (ys : List Leg) → x.size ≡ 0 → All (λ y. matched same x y ≡ 0) ys
  unfolding matched
  spent x [] h = tt
  spent x (y ∷ ys) h = (go (same x.series y.series && not (same_bool x.bought y.bought)), spent x ys h)
    where
      go : (b : Bool) → cond b (min x.size y.size) 0 ≡ 0
      go true = omega arith
      go false = refl

  -- nothing of the other side is open in its group
  pub no_other : (x : Leg) (ys : List Leg) → open_on same (not x.bought) x.series ys ≡ 0 → All (λ y. matched same x y ≡ 0) ys
  unfolding open_on matched
  no_other x [] h = tt
  no_other x (y ∷ ys) h = (go (same x.series y.series) x.bought y.bought (omega arith), no_other x ys (omega arith))
    where
      go : (g b c : Bool) → cond (g && same_bool (not b) c) y.size 0 ≡ 0 → cond (g && not (same_bool b c)) (min x.size y.size) 0 ≡ 0
      go false b c k = refl
      go true true true k = refl
      go true true false k = omega arith
      go true false true k = omega arith
      go true false false k = refl

  -- ---- what is open is of one side

  -- a leg with contracts open, and the other side in its group
  quiet : (z : Leg) (side : Bool) → same_bool side z.bought ≡ true → 0 < z.size → (ys : List Leg) → WithEach same z ys → open_on same (not side) z.series ys ≡ 0
  unfolding open_on
  quiet z side e p [] h = refl
  quiet z side e p (y ∷ ys) h = omega (arith, quiet z side e p ys h.1, go (same z.series y.series) refl side z.bought refl y.bought refl y.size refl e)
    where
      closed : (n : ℕ) → (0 < n → ⊥) → n ≡ 0
      closed zero k = refl
      closed (suc n) k = absurd (k (omega arith))

      go : (g : Bool) → same z.series y.series ≡ g → (d b : Bool) → z.bought ≡ b → (c : Bool) → y.bought ≡ c → (n : ℕ) → y.size ≡ n → same_bool d b ≡ true → cond (g && same_bool (not d) c) n 0 ≡ 0
      go false q d b u c v n w k = refl
      go true q true true u true v n w k = refl
      go true q true true u false v n w k = closed n (λ l. true≢false (sym u ∙ h.0 q p (rw w l) ∙ v))
      go true q true false u c v n w k = absurd (true≢false (sym k))
      go true q false true u c v n w k = absurd (true≢false (sym k))
      go true q false false u true v n w k = closed n (λ l. true≢false (sym v ∙ sym (h.0 q p (rw w l)) ∙ u))
      go true q false false u false v n w k = refl

  module _ (grouping : Grouping same) where
    -- two of one group find the same open
    pub open_alike : (side : Bool) (s t : Series) (ls : List Leg) → same s t ≡ true → open_on same side s ls ≡ open_on same side t ls
    unfolding open_on
    open_alike side s t [] e = refl
    open_alike side s t (l ∷ ls) e = let h = open_alike side s t ls e in rw (grouping.alike s t l.series e) (omega arith)

    pub one_sided_lem : (s : Series) (ys : List Leg) → EachTwo same ys → OneSided s ys
    unfolding open_on
    one_sided_lem s [] h side p = absurd (omega arith)
    one_sided_lem s (y ∷ ys) h side p = go (same s y.series) refl side y.bought refl y.size refl p (one_sided_lem s ys h.1 side)
      where
        others : (d : Bool) → same_bool d y.bought ≡ true → same s y.series ≡ true → 0 < y.size → open_on same (not d) s ys ≡ 0
        others d k q l = open_alike (not d) s y.series ys q ∙ quiet y d k l ys h.0

        go : (g : Bool) → same s y.series ≡ g → (d b : Bool) → y.bought ≡ b → (n : ℕ) → y.size ≡ n
            → 0 < cond (g && same_bool d b) n 0 + open_on same d s ys → (0 < open_on same d s ys → open_on same (not d) s ys ≡ 0) → cond (g && same_bool (not d) b) n 0 + open_on same (not d) s ys ≡ 0
        go false q d b u n v p ih = omega (arith, ih (omega arith))
        go true q true true u zero v p ih = omega (arith, ih (omega arith))
        go true q true true u (suc n) v p ih = omega (arith, others true (rw u) q (rw v (omega arith)))
        go true q true false u zero v p ih = omega (arith, ih (omega arith))
        go true q true false u (suc n) v p ih = let z = others false (rw u) q (rw v (omega arith)) in absurd (omega arith)
        go true q false true u zero v p ih = omega (arith, ih (omega arith))
        go true q false true u (suc n) v p ih = let z = others true (rw u) q (rw v (omega arith)) in absurd (omega arith)
        go true q false false u zero v p ih = omega (arith, ih (omega arith))
        go true q false false u (suc n) v p ih = omega (arith, others false (rw u) q (rw v (omega arith)))
