-- Better and worse prices, as either side sees them: by the definitions' tests, and mirrored.
use mathlib.Core.Path.{◌≡◌}
use mathlib.Core.Bool.{Bool, true, false, not}
use Prim.Native.Nat.{ℕ, ◌≤◌}
use native.Mathlib.Omega.{arith}
use lib.Dec.{leb}
use borrow.Author.Tests.{leb-true, leb-false, le-leb, lt-leb}
use Rattle.rules.specs.Market.{at_or_past}
use Rattle.rules.proofs.Tests.{same_test}
use Rattle.crossing_theorems.specs.Crossed.{Better, AtOrBetter, mirrored_price}

pub past_best : (bought : Bool) (x y : ℕ) → at_or_past bought x y ≡ true → AtOrBetter bought y x
past_best true x y h = leb-true y x h
past_best false x y h = leb-true x y h

pub best_past : (bought : Bool) (x y : ℕ) → AtOrBetter bought y x → at_or_past bought x y ≡ true
best_past true x y h = le-leb y x h
best_past false x y h = le-leb x y h

pub past_better : (bought : Bool) (x y : ℕ) → at_or_past bought x y ≡ false → Better bought x y
past_better true x y h = leb-false y x h
past_better false x y h = leb-false x y h

pub better_past : (bought : Bool) (x y : ℕ) → Better bought x y → at_or_past bought x y ≡ false
better_past true x y h = lt-leb y x h
better_past false x y h = lt-leb x y h

pub better_than_better : (bought : Bool) (x y z : ℕ) → Better bought x y → Better bought y z → Better bought x z
better_than_better true x y z h k = omega arith
better_than_better false x y z h k = omega arith

pub better_than_best : (bought : Bool) (x y z : ℕ) → Better bought x y → AtOrBetter bought y z → AtOrBetter bought x z
better_than_best true x y z h k = omega arith
better_than_best false x y z h k = omega arith

pub never_both : (bought : Bool) (x y : ℕ) → Better bought x y → AtOrBetter bought y x → ⊥
never_both true x y h k = omega arith
never_both false x y h k = omega arith

pub better_best : (bought : Bool) (x y : ℕ) → Better bought x y → AtOrBetter bought x y
better_best true x y h = omega arith
better_best false x y h = omega arith

pub same_best : (bought : Bool) (x y : ℕ) → x ≡ y → AtOrBetter bought x y
same_best true x y h = omega arith
same_best false x y h = omega arith

-- ---- mirrored: what is better to one side is better to the other

pub mirrored_better : (bought : Bool) (x y : ℕ) → x ≤ 1000000000 → y ≤ 1000000000 → Better bought x y → Better (not bought) (mirrored_price x) (mirrored_price y)
mirrored_better true x y h k b = omega arith
mirrored_better false x y h k b = omega arith

mirrored_leb : (x y : ℕ) → x ≤ 1000000000 → y ≤ 1000000000 → leb (mirrored_price x) (mirrored_price y) ≡ leb y x
mirrored_leb x y h k = same_test _ _ (λ e. let l = leb-true (mirrored_price x) (mirrored_price y) e in le-leb y x (omega arith)) (λ e. let l = leb-true y x e in le-leb (mirrored_price x) (mirrored_price y) (omega arith))

pub mirrored_past : (bought : Bool) (x y : ℕ) → x ≤ 1000000000 → y ≤ 1000000000 → at_or_past (not bought) (mirrored_price x) (mirrored_price y) ≡ at_or_past bought x y
mirrored_past true x y h k = mirrored_leb x y h k
mirrored_past false x y h k = mirrored_leb y x k h
