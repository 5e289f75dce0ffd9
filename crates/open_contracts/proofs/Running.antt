-- The running figure equals the sum of the open contracts at every step of both walks.
use mathlib.Core.Path.{◌≡◌, refl, sym, ap, ap₂, ◌∙◌, subst}
use mathlib.Core.List.{List, [], ◌∷◌, ◌++◌, append-nil}
use mathlib.Core.Logic.{inl, inr}
use mathlib.Core.Bool.{Bool, true, false, cond, not, ◌&&◌}
use Prim.Native.Nat.{ℕ, ◌+◌, ◌-◌, ◌≤◌}
use native.Mathlib.Omega.{arith}
use lib.Dec.{eqb, ltb}
use lib.IntN.{ℤ, pos, sub_ℕ}
use borrow.Author.Tests.{eqb-true, eq-eqb}
use Rattle.rules.specs.declared.Series.{Series}
use Rattle.rules.specs.declared.Leg.{Leg}
use Rattle.rules.specs.Lists.{All, lex, same_bool}
use Rattle.rules.specs.Pairing.{digit, less, matched, reach, walk, one_expiry, one_strike, strike_key, expiry_key, whole_leg, by_strike, by_expiry}
use Rattle.rules.specs.OpenContracts.{sign, adjusted, shows_other, open_on, open_contracts, begun, searched, figure, Figure, FigureOf, RunningFigure}
use Rattle.rules.proofs.Tests.{and_both, and_of, same_eq}
use Rattle.laws.proofs.Sorting.{Step, step, Rises, sort_rises, all_weaken}
use Rattle.open_contracts.proofs.Differences.{adjusted_net}
use Rattle.open_contracts.proofs.Sides.{walk_each_two}
use Rattle.open_contracts.proofs.Open.{Grouping, leg_open, OneSided, Lined, adjusted_open, open_append, open_none, open_alike, taken_own, taken_other, less_few, idle, no_other, one_sided_lem}
use Rattle.open_contracts.proofs.Searching.{none_other, shows_exactly}

module _ (same : Series → Series → Bool) where
  -- ---- a walk keeps series and sides, and opens nothing

  pub kept : (x : Leg) (ys : List Leg) → ((reach same x ys).leg.series ≡ x.series) × ((reach same x ys).leg.bought ≡ x.bought)
  unfolding reach
  kept x [] = (refl, refl)
  kept x (y ∷ ys) = kept (less x (matched same x y)) ys

  reach_all : (P : Series → Type 0) (x : Leg) (ys : List Leg) → All (λ l. P l.series) ys → All (λ l. P l.series) (reach same x ys).legs
  unfolding reach
  reach_all P x [] h = tt
  reach_all P x (y ∷ ys) h = (h.0, reach_all P (less x (matched same x y)) ys h.1)

  walk_all : (P : Series → Type 0) (xs : List Leg) → All (λ l. P l.series) xs → All (λ l. P l.series) (walk same xs).legs
  unfolding walk
  walk_all P [] h = tt
  walk_all P (x ∷ xs) h = let ys = (walk same xs).legs in (subst P (sym (kept x ys).0) h.0, reach_all P x ys (walk_all P xs h.1))

  reach_few : (side : Bool) (s : Series) (x : Leg) (ys : List Leg) → open_on same side s (reach same x ys).legs ≤ open_on same side s ys
  unfolding reach open_on
  reach_few side s x [] = omega arith
  reach_few side s x (y ∷ ys) = let m = matched same x y in omega (arith, less_few same side s y m, reach_few side s (less x m) ys)

  -- ---- the matches of one leg: `a` of each side is open beside the legs that it meets

  searched_open : (x : Leg) (met : List Leg) (f : ℤ) (a : Bool → ℕ)
      → f ≡ sub_ℕ (a true + open_on same true x.series met) (a false + open_on same false x.series met)
      → let after = (reach same x met).legs in searched same f x met ≡ sub_ℕ (a true + open_on same true x.series after) (a false + open_on same false x.series after)
  unfolding searched reach open_on
  searched_open x [] f a e = e
  searched_open x (y ∷ met) f a e =
      let m = matched same x y in
      let s = x.series in
      let b : Bool → ℕ = λ side. a side + leg_open same side s (less y m) in
      searched_open (less x m) met (adjusted f (sign x.bought) m) b
      (ap (λ (z : ℤ). adjusted z (sign x.bought) m) e
      ∙ adjusted_net (λ side. a side + open_on same side s (y ∷ met)) (λ side. b side + open_on same side s met) x.bought m (omega (arith, taken_own same x y, taken_other same x y)))
      ∙ ap₂ sub_ℕ (last true) (last false)
    where
      last : (side : Bool) → let m = matched same x y in let s = x.series in let after = (reach same (less x m) met).legs in
          a side + leg_open same side s (less y m) + open_on same side s after ≡ a side + (leg_open same side s (less y m) + open_on same side s after)
      last side = omega arith

  -- ---- what a leg leaves open

  own : (s : Series) (z : Leg) → same s z.series ≡ true → (leg_open same z.bought s z ≡ z.size) × (leg_open same (not z.bought) s z ≡ 0)
  own s z e = rw e (go z.bought)
    where
      go : (b : Bool) → (cond (true && same_bool b b) z.size 0 ≡ z.size) × (cond (true && same_bool (not b) b) z.size 0 ≡ 0)
      go true = (refl, refl)
      go false = (refl, refl)

  pub closing : (s : Series) (z : Leg) (ys : List Leg) → same s z.series ≡ true → adjusted (open_contracts same s ys) (sign z.bought) z.size ≡ open_contracts same s (z ∷ ys)
  unfolding open_on
  closing s z ys e = let o = own s z e in adjusted_open same s ys (z ∷ ys) z.bought z.size (omega (arith, o.0, o.1))

  -- ---- every step

  -- of legs in the walk's sequence, each group stands together
  abbrev InGroups : List Leg → Type 0
  InGroups [] = Unit {0}
  InGroups (x ∷ xs) = Lined same x.series xs × InGroups xs

  in_groups_from : (later : List Leg) (xs : List Leg) → InGroups (later ++ xs) → InGroups xs
  in_groups_from [] xs h = h
  in_groups_from (x ∷ later) xs h = in_groups_from later xs h.1

  module _ (grouping : Grouping same) where
    abbrev start : Leg → List Leg → ℤ
    start x xs = begun same (figure same xs) x xs

    module _ (x : Leg) (xs : List Leg) (begin : start x xs ≡ open_contracts same x.series (walk same xs).legs) where
      at_matches_lem : (met others : List Leg) → (walk same xs).legs ≡ met ++ others → searched same (start x xs) x met ≡ open_contracts same x.series ((reach same x met).legs ++ others)
      at_matches_lem met others e =
          let s = x.series in
          let both : (side : Bool) → open_on same side s (met ++ others) ≡ open_on same side s others + open_on same side s met = λ side. omega (arith, open_append same side s met others) in
          let back : (side : Bool) → open_on same side s others + open_on same side s (reach same x met).legs ≡ open_on same side s ((reach same x met).legs ++ others) = λ side. omega (arith, open_append same side s (reach same x met).legs others) in
          searched_open x met (start x xs) (λ side. open_on same side s others) (begin ∙ ap (open_contracts same s) e ∙ ap₂ sub_ℕ (both true) (both false))
          ∙ ap₂ sub_ℕ (back true) (back false)

      after_leg_lem : figure same (x ∷ xs) ≡ open_contracts same x.series (walk same (x ∷ xs)).legs
      unfolding figure walk
      after_leg_lem =
          let ys = (walk same xs).legs in
          let r = reach same x ys in
          let k = kept x ys in
          let e = at_matches_lem ys [] (sym (append-nil ys)) ∙ ap (open_contracts same x.series) (append-nil r.legs) in
          ap₂ (λ (z : ℤ) (b : Bool). adjusted z (sign b) r.leg.size) e (sym k.1)
          ∙ closing x.series r.leg r.legs (rw k.0 (grouping.self x.series))

      one_open : (met others : List Leg) → (walk same xs).legs ≡ met ++ others → OneSided same x.series ((reach same x met).legs ++ others)
      one_open met others e =
          let s = x.series in
          let now = (reach same x met).legs in
          let few : (side : Bool) → open_on same side s (now ++ others) ≤ open_on same side s (met ++ others) = λ side. omega (arith, open_append same side s met others, open_append same side s now others, reach_few side s x met) in
          let before : OneSided same s (met ++ others) = one_sided_lem same grouping s (met ++ others) (rw e at (walk_each_two same xs)) in
          λ side p. let a = few side in let b = few (not side) in let o = before side (omega arith) in omega arith

      shown : (met others : List Leg) → (walk same xs).legs ≡ met ++ others → shows_other (searched same (start x xs) x met) (sign x.bought) ≡ ltb 0 (open_on same (not x.bought) x.series ((reach same x met).legs ++ others))
      shown met others e = shows_exactly same x.series x.bought ((reach same x met).legs ++ others) (at_matches_lem met others e) (one_open met others e)

      unshown : (met others : List Leg) → (walk same xs).legs ≡ met ++ others → shows_other (searched same (start x xs) x met) (sign x.bought) ≡ false
          → reach same (reach same x met).leg others ≡ record { pairs = []; leg = (reach same x met).leg; legs = others }
      unshown met others e h =
          let z = (reach same x met).leg in
          let now = (reach same x met).legs in
          let k = kept x met in
          let none = none_other same x.series x.bought (now ++ others) (at_matches_lem met others e) (one_open met others e) h in
          idle same z others (no_other same z others (rw (k.0, k.1) (omega (arith, open_append same (not x.bought) x.series now others))))

    begins : (x : Leg) (xs : List Leg) → InGroups (x ∷ xs) → start x xs ≡ open_contracts same x.series (walk same xs).legs
    unfolding begun walk open_on
    begins x [] h = refl
    begins x (y ∷ ys) h = go (same x.series y.series) refl (after_leg_lem y ys (begins y ys h.1))
      where
        after : List Leg
        after = (walk same (y ∷ ys)).legs

        go : (g : Bool) → same x.series y.series ≡ g → figure same (y ∷ ys) ≡ open_contracts same y.series after → cond g (figure same (y ∷ ys)) (pos 0) ≡ open_contracts same x.series after
        go true e ih = ih ∙ sym (ap₂ sub_ℕ (open_alike same grouping true x.series y.series after e) (open_alike same grouping false x.series y.series after e))
        go false e ih =
            let none = walk_all (λ s. same x.series s ≡ false) (y ∷ ys) (e, h.0.0 e) in
            sym (ap₂ sub_ℕ (open_none same true x.series after none) (open_none same false x.series after none))

    holds : (x : Leg) (xs : List Leg) → InGroups (x ∷ xs) → Figure same x xs
    holds x xs h = let b = begins x xs h in record { at_matches = at_matches_lem x xs b; after_leg = after_leg_lem x xs b; shown = shown x xs b; unshown = unshown x xs b }

-- ---- both walks: a group has one type, and one expiry or one strike

module _ (part : Series → ℕ) where
  abbrev together : Series → Series → Bool
  together s t = same_bool s.call t.call && eqb (part s) (part t)

  one_group : (s t : Series) → together s t ≡ true → (s.call ≡ t.call) × (part s ≡ part t)
  one_group s t e = let h = and_both (same_bool s.call t.call) (eqb (part s) (part t)) e in (same_eq s.call t.call h.0, eqb-true (part s) (part t) h.1)

  pub parts : Grouping together
  parts = record { self = λ s. rw (eq-eqb (part s) (part s) refl) (go s.call); alike = λ s t u e. let h = one_group s t e in ap₂ (λ (c : Bool) (p : ℕ). same_bool c u.call && eqb p (part u)) h.0 h.1 }
    where
      go : (c : Bool) → same_bool c c && true ≡ true
      go true = refl
      go false = refl

  -- legs that rise by type and that part
  module _ (after : Leg → List ℕ) where
    abbrev key : Leg → List ℕ
    key l = digit l.series.call ∷ part l.series ∷ after l

    pair : (x y : Leg) → lex (key x) (key y) ≡ true → Step (digit x.series.call) (digit y.series.call) (part x.series ≤ part y.series)
    pair x y h = go (step (digit x.series.call) (digit y.series.call) (part x.series ∷ after x) (part y.series ∷ after y) h)
      where
        second : Step (part x.series) (part y.series) (lex (after x) (after y) ≡ true) → part x.series ≤ part y.series
        second (inl l) = omega arith
        second (inr l) = omega (arith, l.0)

        go : Step (digit x.series.call) (digit y.series.call) (lex (part x.series ∷ after x) (part y.series ∷ after y) ≡ true)
            → Step (digit x.series.call) (digit y.series.call) (part x.series ≤ part y.series)
        go (inl l) = inl l
        go (inr l) = inr (l.0, second (step (part x.series) (part y.series) (after x) (after y) l.1))

    -- what stands between two of one group is of their group
    between : (x y z : Leg) → lex (key x) (key y) ≡ true → lex (key y) (key z) ≡ true → together x.series z.series ≡ true → together x.series y.series ≡ true
    between x y z h k e =
        let g = one_group x.series z.series e in
        go (pair x y h) (pair y z k) (ap digit g.0) g.1
      where
        go : Step (digit x.series.call) (digit y.series.call) (part x.series ≤ part y.series)
            → Step (digit y.series.call) (digit z.series.call) (part y.series ≤ part z.series)
            → digit x.series.call ≡ digit z.series.call → part x.series ≡ part z.series → together x.series y.series ≡ true
        go (inl l) (inl m) p q = absurd (omega arith)
        go (inl l) (inr m) p q = absurd (omega (arith, m.0))
        go (inr l) (inl m) p q = absurd (omega (arith, l.0))
        go (inr l) (inr m) p q = and_of (same_digit x.series.call y.series.call l.0) (eq-eqb (part x.series) (part y.series) (omega (arith, l.1, m.1)))
          where
            same_digit : (a b : Bool) → digit a ≡ digit b → same_bool a b ≡ true
            same_digit true true d = refl
            same_digit true false d = absurd (omega arith)
            same_digit false true d = absurd (omega arith)
            same_digit false false d = refl

    -- so each group stands together
    lined : (x : Leg) (ys : List Leg) → All (λ y. lex (key x) (key y) ≡ true) ys → Rises key ys → Lined together x.series ys
    lined x [] h r = tt
    lined x (y ∷ ys) h r = ((λ e. all_weaken ys (λ z k. other z k e) r.0), lined x ys h.1 r.1)
      where
        other : (z : Leg) → lex (key y) (key z) ≡ true → together x.series y.series ≡ false → together x.series z.series ≡ false
        other z k e = go (together x.series z.series) refl
          where
            go : (b : Bool) → together x.series z.series ≡ b → b ≡ false
            go true q = sym (between x y z h.0 k q) ∙ e
            go false q = refl

    in_groups : (ls : List Leg) → Rises key ls → InGroups together ls
    in_groups [] r = tt
    in_groups (x ∷ ls) r = (lined x ls r.0 r.1, in_groups ls r.1)

    every_step : (ls later xs : List Leg) (x : Leg) → Rises key ls → ls ≡ later ++ (x ∷ xs) → Figure together x xs
    every_step ls later xs x r e = holds together parts x xs (in_groups_from together later (x ∷ xs) (rw e at (in_groups ls r)))

first_figure : FigureOf one_expiry by_strike
unfolding by_strike
first_figure ls later xs x e =
    let strikes : Leg → List ℕ = λ l. cond l.series.call (99999999 - l.series.strike.0) l.series.strike.0 ∷ whole_leg l in
    every_step (λ s. s.expiry) strikes (by_strike ls) later xs x (sort_rises (λ l. strike_key l.series ++ whole_leg l) ls) e

second_figure : FigureOf one_strike by_expiry
unfolding by_expiry
second_figure ls later xs x e =
    let expiries : Leg → List ℕ = λ l. l.series.expiry ∷ whole_leg l in
    every_step (λ s. s.strike.0) expiries (by_expiry ls) later xs x (sort_rises (λ l. expiry_key l.series ++ whole_leg l) ls) e

pub running_figure : RunningFigure
running_figure = (first_figure, second_figure)
