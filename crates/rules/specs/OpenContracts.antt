-- Document 02, S-3: the open contracts of a walk as a running figure.
use Rattle.std.specs.Prelude.{◌≡◌, List, [], ◌∷◌, ◌++◌, Bool, true, false, cond, not, ◌&&◌, ℕ, ◌+◌, ℤ, pos, neg_ℤ, ◌+ℤ◌, ◌*ℤ◌, ltb}
use Rattle.std.proofs.Math.IntN.{sub_ℕ}
use Rattle.std.specs.Int.Signed.{lt_z}
use Rattle.rules.specs.declared.Series.{Series}
use Rattle.rules.specs.declared.Leg.{Leg}
use Rattle.rules.specs.Lists.{same_bool}
use Rattle.rules.specs.Pairing.{less, matched, reach, walk, one_expiry, one_strike, by_strike, by_expiry}

-- a side's sign, "bought less sold": what is bought counts 1, what is sold -1
abbrev pub sign : Bool → ℤ
sign bought = cond bought (pos 1) (neg_ℤ (pos 1))

-- "adjusted at each match and for contracts left open": `n` contracts of the other side are closed, or `n` of the leg's own side stay open
abbrev pub adjusted : ℤ → ℤ → ℕ → ℤ
adjusted f side n = f +ℤ side *ℤ pos n

-- "where it shows the other side": open contracts of the side that has not this sign
abbrev pub shows_other : ℤ → ℤ → Bool
shows_other f side = lt_z (side *ℤ f) (pos 0)

-- `same` tells which series are walked together, as in the walk
module _ (same : Series → Series → Bool) where
  -- the open contracts of one side (true: bought) in the group of `s`
  unfoldable pub open_on : Bool → Series → List Leg → ℕ
  open_on side s [] = 0
  open_on side s (l ∷ ls) = cond (same s l.series && same_bool side l.bought) l.size 0 + open_on side s ls

  -- "the sum of the open contracts", "bought less sold"
  abbrev pub open_contracts : Series → List Leg → ℤ
  open_contracts s ls = sub_ℕ (open_on true s ls) (open_on false s ls)

  -- the figure with which `x` is reached after `xs`: a leg that begins its group finds nothing open in it
  unfoldable pub begun : ℤ → Leg → List Leg → ℤ
  begun f x [] = pos 0
  begun f x (y ∷ ys) = cond (same x.series y.series) f (pos 0)

  -- the figure after `x` has met these legs, latest walked first: "adjusted at each match"
  unfoldable pub searched : ℤ → Leg → List Leg → ℤ
  searched f x [] = f
  searched f x (y ∷ ys) = let n = matched same x y in searched (adjusted f (sign x.bought) n) (less x n) ys

  -- the figure after a walk, whose legs are listed latest walked first: adjusted "for contracts left open" by each leg
  unfoldable pub figure : List Leg → ℤ
  figure [] = pos 0
  figure (x ∷ xs) =
      let ys = (walk same xs).legs in
      adjusted (searched (begun (figure xs) x xs) x ys) (sign x.bought) (reach same x ys).leg.size

  -- "The figure is shown to equal the sum of the open contracts at every step", here of the steps of `x`, which is reached after `xs`
  pub record Figure (x : Leg) (xs : List Leg) : Type 0 where
    -- before and after each match: `x` has met the legs `met` of those walked before, and not yet the others. Its own contracts are no open contracts yet: those that it leaves are.
    pub at_matches : (met others : List Leg) → (walk same xs).legs ≡ met ++ others
        → searched (begun (figure xs) x xs) x met ≡ open_contracts x.series ((reach same x met).legs ++ others)
    -- after the leg
    pub after_leg : figure (x ∷ xs) ≡ open_contracts x.series (walk same (x ∷ xs)).legs
    -- "where it shows the other side": exactly where contracts of the other side are open
    pub shown : (met others : List Leg) → (walk same xs).legs ≡ met ++ others
        → shows_other (searched (begun (figure xs) x xs) x met) (sign x.bought) ≡ ltb 0 (open_on (not x.bought) x.series ((reach same x met).legs ++ others))
    -- "search for a match only where it shows the other side": where it does not, none is left to find
    pub unshown : (met others : List Leg) → (walk same xs).legs ≡ met ++ others
        → shows_other (searched (begun (figure xs) x xs) x met) (sign x.bought) ≡ false
        → reach same (reach same x met).leg others ≡ record { pairs = []; leg = (reach same x met).leg; legs = others }

-- every prefix of a walk: of the legs in its sequence, latest walked first, `x` is reached after `xs` and before `later`
abbrev pub FigureOf : (Series → Series → Bool) → (List Leg → List Leg) → Type 0
FigureOf same sequence = (ls later xs : List Leg) (x : Leg) → sequence ls ≡ later ++ (x ∷ xs) → Figure same x xs

-- the promise for both walks, whatever legs they are given
abbrev pub RunningFigure : Type 0
RunningFigure = FigureOf one_expiry by_strike × FigureOf one_strike by_expiry
