-- M as the code computes it.
use mathlib.Core.Path.{◌≡◌, refl, ap₂, ◌∙◌}
use mathlib.Core.List.{List, [], ◌∷◌, zip_with}
use mathlib.Core.Bool.{false}
use Prim.Native.Nat.{ℕ, ◌+◌, ◌-◌, ◌≤◌, ◌<◌, min}
use native.Mathlib.Omega.{arith}
use lib.ListN.{length, get_or}
use Rattle.rules.specs.Class.{strike_of}
use Rattle.rules.specs.Checks.{maximum_of}
use Rattle.keys.specs.Tags.{leg_at, legs_from}
use Rattle.strikes.proofs.Listed.{two, three, four_more, shown}

module _ (tags : List ℕ) where
  -- the strike of a leg: neither root nor contracts are looked at
  abbrev strike : ℕ → ℕ
  strike i = strike_of (leg_at 0 false (get_or tags i 0) 0)

  -- what M is, of any root and any contracts
  abbrev pub Maximum : ℕ → Type 0
  Maximum r = (root : ℕ) (units : List ℕ) → length units ≡ length tags → r ≡ maximum_of (legs_from root false tags units)

  pub maximum_two : {a b r : ℕ} → 2 ≤ length tags → length tags < 3 → a ≡ strike 0 → b ≡ strike 1 → r ≡ (a - b) + (b - a) → Maximum r
  unfolding maximum_of zip_with
  maximum_two h k a b r root units full =
      shown maximum_of root (two tags (omega arith)) (two units (omega arith)) (r ∙ ap₂ (λ (x y : ℕ). (x - y) + (y - x)) a b)

  pub maximum_three : {a b c r : ℕ} → 3 ≤ length tags → length tags < 4 → a ≡ strike 0 → b ≡ strike 1 → c ≡ strike 2 → r ≡ b - min a c → Maximum r
  unfolding maximum_of zip_with
  maximum_three h k a b c r root units full =
      shown maximum_of root (three tags (omega arith)) (three units (omega arith)) (r ∙ ap₂ ◌-◌ b (ap₂ min a c))

  pub maximum_four : {c d r : ℕ} → 4 ≤ length tags → c ≡ strike 2 → d ≡ strike 3 → r ≡ c - d → Maximum r
  unfolding maximum_of zip_with
  maximum_four h c d r root units full =
      shown maximum_of root (four_more tags h) (four_more units (omega arith)) (r ∙ ap₂ ◌-◌ c d)

-- fewer than two legs have no M
pub maximum_none : (tags : List ℕ) → length tags < 2 → Maximum tags 0
unfolding maximum_of zip_with
maximum_none [] h root units full = refl
maximum_none (t ∷ []) h root [] full = refl
maximum_none (t ∷ []) h root (u ∷ units) full = refl
maximum_none (t ∷ s ∷ tags) h root units full = absurd (omega arith)
