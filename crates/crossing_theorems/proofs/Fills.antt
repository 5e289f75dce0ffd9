-- The fills of a list of offers, whichever test says what may be filled.
use mathlib.Core.Path.{◌≡◌, refl, sym, ap, ap₂, ◌∙◌}
use mathlib.Core.List.{List, [], ◌∷◌, map}
use mathlib.Core.Bool.{Bool, true, false, cond, true≢false}
use Prim.Native.Nat.{ℕ, zero, suc, ◌-◌, ◌≤◌, ◌<◌, min}
use native.Mathlib.Omega.{arith}
use lib.ListN.{length, get_or}
use Rattle.rules.specs.Lists.{total}
use Rattle.rules.specs.Crossing.{fill_of, fills_of}
use Rattle.rules.proofs.Executing.{fill_small, total_fills}
use Rattle.crossing_theorems.proofs.Lists.{at_most_total}

-- ---- one offer

one_may : (b : Bool) (size n : ℕ) → 0 < cond b (min size n) 0 → b ≡ true
one_may true size n h = refl
one_may false size n h = absurd (omega arith)

-- what leaves something of the size fills the offer whole
one_whole : (b : Bool) (size n : ℕ) → b ≡ true → 0 < size - cond b (min size n) 0 → cond b (min size n) 0 ≡ n
one_whole true size n e h = omega arith
one_whole false size n e h = absurd (true≢false (sym e))

-- ---- a list of them

module _ (may : ℕ → Bool) where
  pub fills_small : (size : ℕ) (ps ns : List ℕ) (i : ℕ) → get_or (fills_of may size ps ns) i 0 ≤ get_or ns i 0
  unfolding fills_of
  fills_small size [] ns i = omega arith
  fills_small size (p ∷ ps) [] i = omega arith
  fills_small size (p ∷ ps) (n ∷ ns) zero = (fill_small (may p) size n).1
  fills_small size (p ∷ ps) (n ∷ ns) (suc i) = fills_small (size - fill_of may size p n) ps ns i

  pub fills_may : (size : ℕ) (ps ns : List ℕ) (i : ℕ) → 0 < get_or (fills_of may size ps ns) i 0 → may (get_or ps i 0) ≡ true
  unfolding fills_of
  fills_may size [] ns i h = absurd (omega arith)
  fills_may size (p ∷ ps) [] i h = absurd (omega arith)
  fills_may size (p ∷ ps) (n ∷ ns) zero h = one_may (may p) size n h
  fills_may size (p ∷ ps) (n ∷ ns) (suc i) h = fills_may (size - fill_of may size p n) ps ns i h

  -- what may be filled, ahead of a fill, is filled whole
  pub fills_ahead : (size : ℕ) (ps ns : List ℕ) (i j : ℕ) → j < i → 0 < get_or (fills_of may size ps ns) i 0 → may (get_or ps j 0) ≡ true → get_or (fills_of may size ps ns) j 0 ≡ get_or ns j 0
  unfolding fills_of
  fills_ahead size [] ns i j l h m = absurd (omega arith)
  fills_ahead size (p ∷ ps) [] i j l h m = refl
  fills_ahead size (p ∷ ps) (n ∷ ns) zero j l h m = absurd (omega arith)
  fills_ahead size (p ∷ ps) (n ∷ ns) (suc i) zero l h m =
      let left = size - fill_of may size p n in
      let fs = fills_of may left ps ns in
      one_whole (may p) size n m (omega (arith, h, at_most_total fs i, total_fills may left ps ns))
  fills_ahead size (p ∷ ps) (n ∷ ns) (suc i) (suc j) l h m = fills_ahead (size - fill_of may size p n) ps ns i j (omega arith) h m

  -- where something of the size is left, everything that may be filled is filled whole
  pub fills_left : (size : ℕ) (ps ns : List ℕ) → length ns ≡ length ps → total (fills_of may size ps ns) < size → (i : ℕ) → i < length ps → may (get_or ps i 0) ≡ true → get_or (fills_of may size ps ns) i 0 ≡ get_or ns i 0
  unfolding fills_of total
  fills_left size [] ns e h i l m = absurd (omega arith)
  fills_left size (p ∷ ps) [] e h i l m = refl
  fills_left size (p ∷ ps) (n ∷ ns) e h zero l m = one_whole (may p) size n m (omega (arith, h))
  fills_left size (p ∷ ps) (n ∷ ns) e h (suc i) l m = fills_left (size - fill_of may size p n) ps ns (omega (arith, e)) (omega (arith, h)) i (omega arith) m

-- the same test of other prices fills the same
pub fills_same : (may other : ℕ → Bool) (turn : ℕ → ℕ) (size : ℕ) (ps ns : List ℕ) → ((i : ℕ) → i < length ps → other (turn (get_or ps i 0)) ≡ may (get_or ps i 0)) → fills_of other size (map turn ps) ns ≡ fills_of may size ps ns
unfolding fills_of
fills_same may other turn size [] ns h = refl
fills_same may other turn size (p ∷ ps) [] h = refl
fills_same may other turn size (p ∷ ps) (n ∷ ns) h =
    let one : fill_of other size (turn p) n ≡ fill_of may size p n = ap (λ (b : Bool). cond b (min size n) 0) (h 0 (omega arith)) in
    ap₂ (λ (f : ℕ) (fs : List ℕ). f ∷ fs) one (ap (λ (f : ℕ). fills_of other (size - f) (map turn ps) ns) one ∙ fills_same may other turn (size - fill_of may size p n) ps ns (λ i l. h (suc i) (omega arith)))
