-- The definitions as the code computes them.
use mathlib.Core.Path.{◌≡◌, refl, ◌∙◌}
use mathlib.Core.List.{List, [], ◌∷◌, zip_with}
use mathlib.Core.Bool.{Bool, true, false}
use Prim.Native.Nat.{ℕ, ◌+◌, ◌-◌, ◌*◌, min, max}
use native.Mathlib.Omega.{arith}
use lib.Dec.{eqb}
use lib.ListN.{length, get_or}
use borrow.Author.Tests.{eqb-true, eqb-false, eq-eqb, ne_eqb}
use Rattle.rules.specs.declared.Leg.{Leg}
use Rattle.rules.specs.Class.{strike_of, is_vertical, is_butterfly, is_true_butterfly, is_box, shape_of}
use Rattle.keys.specs.Tags.{leg_at, legs_from}
use Rattle.strikes.proofs.Listed.{two, three, four, five_more, shown}

-- Twice the middle strike against the sum of the outer ones, by its distances from the lower and from the higher.
module _ (a m b : Leg) {low high : ℕ}
    (l : low ≡ strike_of m - min (strike_of a) (strike_of b))
    (h : high ≡ max (strike_of a) (strike_of b) - strike_of m) where
  abbrev twice : ℕ
  twice = 2 * strike_of m

  abbrev sum : ℕ
  sum = strike_of a + strike_of b

  pub true_read : eqb low high ≡ is_true_butterfly a m b
  true_read = go (eqb twice sum) refl
    where
      go : (t : Bool) → eqb twice sum ≡ t → eqb low high ≡ t
      go true e = let f = eqb-true twice sum e in eq-eqb low high (omega arith)
      go false e = ne_eqb low high (λ f. eqb-false twice sum e (omega arith))

-- The shape by the legs that the code takes: no shape looks at a root, so that of root 0 is that of any other.
module _ (tags units : List ℕ) where
  -- the leg that the code takes
  abbrev taken : ℕ → Leg
  taken i = leg_at 0 false (get_or tags i 0) (get_or units i 0)

  abbrev pub Shape : ℕ → Type 0
  Shape r = (root : ℕ) → r ≡ shape_of (legs_from root false tags units)

  pub shape_two : {a b : Leg} {r : ℕ} → length tags ≡ length units → length tags ≡ 2 → a ≡ taken 0 → b ≡ taken 1 → r ≡ shape_of (a ∷ b ∷ []) → Shape r
  unfolding shape_of is_vertical zip_with
  shape_two same h a b r root = shown shape_of root (two tags h) (two units (omega arith)) (r ∙ (λ i. shape_of (a i ∷ b i ∷ [])))

  pub shape_three : {a b c : Leg} {r : ℕ} → length tags ≡ length units → length tags ≡ 3 → a ≡ taken 0 → b ≡ taken 1 → c ≡ taken 2 → r ≡ shape_of (a ∷ b ∷ c ∷ []) → Shape r
  unfolding shape_of is_butterfly zip_with
  shape_three same h a b c r root =
      shown shape_of root (three tags h) (three units (omega arith)) (r ∙ (λ i. shape_of (a i ∷ b i ∷ c i ∷ [])))

  pub shape_four : {a b c d : Leg} {r : ℕ} → length tags ≡ length units → length tags ≡ 4 → a ≡ taken 0 → b ≡ taken 1 → c ≡ taken 2 → d ≡ taken 3 → r ≡ shape_of (a ∷ b ∷ c ∷ d ∷ []) → Shape r
  unfolding shape_of is_box zip_with
  shape_four same h a b c d r root =
      shown shape_of root (four tags h) (four units (omega arith)) (r ∙ (λ i. shape_of (a i ∷ b i ∷ c i ∷ d i ∷ [])))

-- fewer than two legs and more than four have no shape
pub shape_other : (tags units : List ℕ) → length tags ≡ length units → (length tags ≡ 2 → ⊥) → (length tags ≡ 3 → ⊥) → (length tags ≡ 4 → ⊥) → Shape tags units 0
unfolding shape_of zip_with
shape_other [] units same h k l root = refl
shape_other (t ∷ []) [] same h k l root = refl
shape_other (t ∷ []) (u ∷ units) same h k l root = refl
shape_other (t ∷ s ∷ tags) units same h k l root =
    shown shape_of root (five_more (t ∷ s ∷ tags) (omega arith)) (five_more units (omega arith)) refl
