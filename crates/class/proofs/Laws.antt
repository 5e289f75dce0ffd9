-- The class as the code computes it.
use mathlib.Core.Path.{◌≡◌, refl, ◌∙◌}
use mathlib.Core.List.{List, [], ◌∷◌, zip_with}
use mathlib.Core.Bool.{Bool, true, false, cond, ◌&&◌}
use Prim.Native.Nat.{ℕ, ◌+◌, ◌-◌, ◌*◌, ◌≤◌, ◌<◌, min, max}
use native.Mathlib.Omega.{arith}
use lib.Dec.{leb}
use lib.ListN.{length, get_or}
use borrow.Author.Tests.{leb-true, leb-false, le-leb, lt-leb}
use Rattle.std.proofs.Common.{Option, Some, None}
use Rattle.std.specs.Option.{unwrap_or, option_map_or}
use Rattle.answers.specs.declared.Class as answers
use Rattle.answers.specs.Answers.{class_number}
use Rattle.rules.specs.declared.Leg.{Leg}
use Rattle.rules.specs.Class.{strike_of, is_butterfly, has_own_class, class_with}
use Rattle.keys.specs.Tags.{leg_at, legs_from}
use Rattle.strikes.proofs.Listed.{three, four_more, shown}

leb_alike : (a b c d : ℕ) → (c ≤ d → a ≤ b) → (d < c → b < a) → leb a b ≡ leb c d
leb_alike a b c d f g = go (leb c d) refl
  where
    go : (t : Bool) → leb c d ≡ t → leb a b ≡ t
    go true e = le-leb a b (f (leb-true c d e))
    go false e = lt-leb a b (g (leb-false c d e))

-- Twice the middle strike against the sum of the outer ones, by its distances from the lower and from the higher.
module _ (a m b : Leg) {low high : ℕ}
    (l : low ≡ strike_of m - min (strike_of a) (strike_of b))
    (h : high ≡ max (strike_of a) (strike_of b) - strike_of m) where
  abbrev twice : ℕ
  twice = 2 * strike_of m

  abbrev sum : ℕ
  sum = strike_of a + strike_of b

  pub own_class_read : {leans butterfly r : Bool}
      → leans ≡ cond m.series.call (leb high low) (leb low high)
      → butterfly ≡ is_butterfly a m b
      → r ≡ butterfly && leans
      → r ≡ has_own_class a m b
  unfolding has_own_class
  own_class_read e f r =
      let calls = leb_alike high low sum twice (λ g. omega arith) (λ g. omega arith) in
      let puts = leb_alike low high twice sum (λ g. omega arith) (λ g. omega arith) in
      rw (← calls, ← puts, ← e, ← f) r

-- The class by the legs that the code takes: it does not look at a root, so that of root 0 is that of any other.
module _ (tags units : List ℕ) (pairs : ℕ) where
  -- the leg that the code takes
  abbrev taken : ℕ → Leg
  taken i = leg_at 0 false (get_or tags i 0) (get_or units i 0)

  abbrev pub Class : ℕ → Type 0
  Class r = (root : ℕ) → r ≡ class_with (legs_from root false tags units) pairs

  pub class_three : {a m b : Leg} {r : ℕ} → length tags ≡ length units → length tags ≡ 3 → a ≡ taken 0 → m ≡ taken 1 → b ≡ taken 2 → r ≡ class_with (a ∷ m ∷ b ∷ []) pairs → Class r
  unfolding class_with has_own_class is_butterfly zip_with
  class_three same h a m b r root =
      shown (λ ls. class_with ls pairs) root (three tags h) (three units (omega arith)) (r ∙ (λ i. class_with (a i ∷ m i ∷ b i ∷ []) pairs))

-- legs that are not three have the class of their pairs
pub class_other : (tags units : List ℕ) (pairs : ℕ) → length tags ≡ length units → (length tags ≡ 3 → ⊥) → Class tags units pairs pairs
unfolding class_with zip_with
class_other [] units pairs same h root = refl
class_other (t ∷ []) [] pairs same h root = refl
class_other (t ∷ []) (u ∷ units) pairs same h root = refl
class_other (t ∷ s ∷ []) [] pairs same h root = refl
class_other (t ∷ s ∷ []) (u ∷ []) pairs same h root = refl
class_other (t ∷ s ∷ []) (u ∷ v ∷ units) pairs same h root = refl
class_other (t ∷ s ∷ r ∷ tags) units pairs same h root =
    shown (λ ls. class_with ls pairs) root (four_more (t ∷ s ∷ r ∷ tags) (omega arith)) (four_more units (omega arith)) refl

-- a class of its own, or else another, as a number
pub class_known : (own : Option answers.Class) (pairs : answers.Class) → class_number (unwrap_or own pairs) ≡ option_map_or class_number own (class_number pairs)
class_known None pairs = refl
class_known (Some class) pairs = refl
