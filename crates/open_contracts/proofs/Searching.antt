-- A leg that is reached searches those walked before it, led by the figure: where the figure shows the other side, the next of them is of its group, and what that has open is of the other side.
use mathlib.Core.Path.{◌≡◌, refl, sym, ap, ◌∙◌}
use mathlib.Core.List.{List, [], ◌∷◌}
use mathlib.Core.Logic.{◌⊎◌, inl, inr}
use mathlib.Core.Bool.{Bool, true, false, cond, not, ◌&&◌}
use Prim.Native.Nat.{ℕ, ◌+◌, ◌≤◌, ◌<◌, min}
use native.Mathlib.Omega.{arith}
use lib.Dec.{ltb}
use lib.IntN.{ℤ}
use lib.ListN.{length, get_or, set}
use borrow.Author.Tests.{ltb-true, ltb-false, le-ltb}
use Rattle.rules.specs.declared.Series.{Series}
use Rattle.rules.specs.declared.Leg.{Leg}
use Rattle.rules.specs.Lists.{same_bool}
use Rattle.rules.specs.Order.{no_leg}
use Rattle.rules.specs.Pairing.{less, matched, reach}
use Rattle.rules.specs.OpenContracts.{sign, adjusted, shows_other, open_on, open_contracts}
use Rattle.open_contracts.proofs.Open.{leg_open, OneSided, Lined, adjusted_open, shows_open, open_set, open_past, taken_other, taken_own, less_few, all_taken, idle, spent, no_other}

-- `x` has met those before `rest`, of all that stand `behind` it
pub record Searching (same : Series → Series → Bool) (x : Leg) (behind rest : List Leg) (f : ℤ) : Type 0 where
  pub figure : f ≡ open_contracts same x.series behind
  pub one_sided : OneSided same x.series behind
  -- while it has contracts left, what is open of the other side is still to be met
  pub to_come : 0 < x.size → open_on same (not x.bought) x.series behind ≤ open_on same (not x.bought) x.series rest
  pub within : (side : Bool) → open_on same side x.series rest ≤ open_on same side x.series behind

not_not : (b : Bool) → not (not b) ≡ b
not_not true = refl
not_not false = refl

module _ (same : Series → Series → Bool) where
  -- ---- the figure `f` of what the legs `ys` have open, as a leg of the group of `s` sees it: `bought` is its side

  module _ (s : Series) (bought : Bool) (ys : List Leg) {f : ℤ} (e : f ≡ open_contracts same s ys) (one : OneSided same s ys) where
    shown : shows_other f (sign bought) ≡ ltb (open_on same bought s ys) (open_on same (not bought) s ys)
    shown = ap (λ (z : ℤ). shows_other z (sign bought)) e ∙ shows_open same s ys bought

    own_none : 0 < open_on same (not bought) s ys → open_on same bought s ys ≡ 0
    own_none p = ap (λ (b : Bool). open_on same b s ys) (sym (not_not bought)) ∙ one (not bought) p

    -- it shows the other side: that is open, and nothing else
    only_other : shows_other f (sign bought) ≡ true → (0 < open_on same (not bought) s ys) × (open_on same bought s ys ≡ 0)
    only_other h =
        let l = ltb-true (open_on same bought s ys) (open_on same (not bought) s ys) (sym shown ∙ h) in
        let p : 0 < open_on same (not bought) s ys = omega arith in
        (p, own_none p)

    -- it shows the other side exactly where that is open
    pub shows_exactly : shows_other f (sign bought) ≡ ltb 0 (open_on same (not bought) s ys)
    shows_exactly = shown ∙ go (ltb 0 (open_on same (not bought) s ys)) refl
      where
        go : (t : Bool) → ltb 0 (open_on same (not bought) s ys) ≡ t → ltb (open_on same bought s ys) (open_on same (not bought) s ys) ≡ ltb 0 (open_on same (not bought) s ys)
        go true q = ap (λ (k : ℕ). ltb k (open_on same (not bought) s ys)) (own_none (ltb-true 0 (open_on same (not bought) s ys) q))
        go false q = let z = ltb-false 0 (open_on same (not bought) s ys) q in le-ltb (open_on same bought s ys) (open_on same (not bought) s ys) (omega arith) ∙ sym q

    -- it does not: nothing of the other side is open
    pub none_other : shows_other f (sign bought) ≡ false → open_on same (not bought) s ys ≡ 0
    none_other h = let l = ltb-false 0 (open_on same (not bought) s ys) (sym shows_exactly ∙ h) in omega arith

  -- a match with the leg at `k` adjusts the figure
  pub matched_figure : (x : Leg) (behind : List Leg) (k m : ℕ) → k < length behind → let y = get_or behind k no_leg in m ≡ matched same x y
      → adjusted (open_contracts same x.series behind) (sign x.bought) m ≡ open_contracts same x.series (set behind k (less y m))
  matched_figure x behind k m l e =
      let y = get_or behind k no_leg in
      let own = rw (← e) at (taken_own same x y) in
      let other = rw (← e) at (taken_other same x y) in
      adjusted_open same x.series behind (set behind k (less y m)) x.bought m (omega (arith, open_set same x.bought x.series behind k (less y m) l, open_set same (not x.bought) x.series behind k (less y m) l, own, other))

  -- ---- the search

  -- it has met none yet
  pub start : (x : Leg) (ys : List Leg) (f : ℤ) → f ≡ open_contracts same x.series ys → OneSided same x.series ys → Searching same x ys ys f
  start x ys f e o = record { figure = e; one_sided = o; to_come = λ p. omega arith; within = λ side. omega arith }

  module _ {x : Leg} {behind rest : List Leg} {f : ℤ} (g : Searching same x behind rest f) where
    -- the search may end
    pub stop : (x.size ≡ 0) ⊎ (shows_other f (sign x.bought) ≡ false) → reach same x rest ≡ record { pairs = []; leg = x; legs = rest }
    stop (inl e) = idle same x rest (spent same x rest e)
    stop (inr e) = idle same x rest (no_other same x rest (omega (arith, none_other x.series x.bought behind g.figure g.one_sided e, g.within (not x.bought))))

    -- what the figure shows is still to be met
    still : 0 < x.size → shows_other f (sign x.bought) ≡ true → 0 < open_on same (not x.bought) x.series rest
    still p e = omega (arith, (only_other x.series x.bought behind g.figure g.one_sided e).0, g.to_come p)

  -- there is a next leg
  pub some : {x : Leg} {behind : List Leg} {f : ℤ} → Searching same x behind [] f → 0 < x.size → shows_other f (sign x.bought) ≡ true → ⊥
  unfolding open_on
  some g p e = absurd (omega (arith, still g p e))

  module _ {x y : Leg} {behind rest : List Leg} {f : ℤ} (g : Searching same x behind (y ∷ rest) f) where
    -- of which as many contracts are matched as the smaller has open
    pub meets : Lined same x.series (y ∷ rest) → 0 < x.size → shows_other f (sign x.bought) ≡ true → matched same x y ≡ min x.size y.size
    unfolding matched open_on
    meets lined p e =
        go (same x.series y.series) refl x.bought y.bought (still g p e) (g.within x.bought) (only_other x.series x.bought behind g.figure g.one_sided e).1
      where
        go : (s : Bool) → same x.series y.series ≡ s → (b c : Bool)
            → 0 < open_on same (not x.bought) x.series (y ∷ rest)
            → cond (s && same_bool b c) y.size 0 + open_on same x.bought x.series rest ≤ open_on same x.bought x.series behind
            → open_on same x.bought x.series behind ≡ 0
            → cond (s && not (same_bool b c)) (min x.size y.size) 0 ≡ min x.size y.size
        go false q b c h w z = let n = open_past same (not x.bought) x.series y rest lined q in absurd (omega arith)
        go true q true true h w z = omega arith
        go true q true false h w z = refl
        go true q false true h w z = refl
        go true q false false h w z = omega arith

    -- a leg that has nothing left is passed
    pub pass : y.size ≡ 0 → Searching same x behind rest f
    unfolding open_on
    pass e =
        record {
          figure = g.figure;
          one_sided = g.one_sided;
          to_come = λ p. omega (arith, g.to_come p, none (not x.bought));
          within = λ side. omega (arith, g.within side);
        }
      where
        none : (side : Bool) → leg_open same side x.series y ≡ 0
        none side = go (same x.series y.series && same_bool side y.bought)
          where
            go : (b : Bool) → cond b y.size 0 ≡ 0
            go true = e
            go false = refl

    -- the search goes on behind one that is met
    pub next : (k m : ℕ) (f' : ℤ) → k < length behind → get_or behind k no_leg ≡ y → m ≡ matched same x y → f' ≡ open_contracts same x.series (set behind k (less y m)) → Searching same (less x m) (set behind k (less y m)) rest f'
    unfolding open_on
    next k m f' l at e figure =
        record {
          figure = figure;
          one_sided = λ side p. let d = dropped side in let c = dropped (not side) in let z = g.one_sided side (omega arith) in omega arith;
          to_come = λ p. let h = g.to_come (omega arith) in omega (arith, moved (not x.bought), other, rw (← e) at (all_taken same x y (rw e at p)));
          within = λ side. omega (arith, moved side, g.within side);
        }
      where
        moved : (side : Bool) → open_on same side x.series (set behind k (less y m)) + leg_open same side x.series y ≡ open_on same side x.series behind + leg_open same side x.series (less y m)
        moved side = rw at at (open_set same side x.series behind k (less y m) l)

        other : leg_open same (not x.bought) x.series y ≡ leg_open same (not x.bought) x.series (less y m) + m
        other = rw e (taken_other same x y)

        dropped : (side : Bool) → open_on same side x.series (set behind k (less y m)) ≤ open_on same side x.series behind
        dropped side = omega (arith, moved side, less_few same side x.series y m)
