-- The butterfly inequality: in a convex table that does not rise, a middle past the mean of the outer two is not dearer than their mean.
use mathlib.Core.Path.{◌≡◌, ap, subst}
use Prim.Native.Nat.{ℕ, ◌+◌, ◌-◌, ◌*◌, ◌≤◌, ◌<◌}
use native.Mathlib.Nat.{le_of_mul-le-mul_left, le_dest, add_comm}
use native.Mathlib.Omega.{arith}

-- x and y are the two distances, y + k = x and pb + d = pa
grown : (y k pm pb d : ℕ) → 0 < y → (y + k + y) * pm ≤ y * (pb + d) + (y + k) * pb → 2 * pm ≤ (pb + d) + pb
grown y k pm pb d h e = le_of_mul-le-mul_left {m = 2 * pm} {n = (pb + d) + pb} {k = y + k + y} (omega arith) (omega arith)

fly : (x y pa pm pb : ℕ) → y ≤ x → pb ≤ pa → 0 < y → (x + y) * pm ≤ y * pa + x * pb → 2 * pm ≤ pa + pb
fly x y pa pm pb h g z e =
    let k = le_dest h in
    let d = le_dest g in
    rw (← d.1) (grown y k.0 pm pb d.0 z (rw (k.1, d.1) e))

-- at strikes a < m < b: the middle past the mean, and the lower strike not cheaper (calls)
pub fly_calls : (a m b pa pm pb : ℕ) → a < m → m < b → a + b ≤ 2 * m → pb ≤ pa → (b - a) * pm ≤ (b - m) * pa + (m - a) * pb → 2 * pm ≤ pa + pb
fly_calls a m b pa pm pb am mb mid g e = fly (m - a) (b - m) pa pm pb (omega arith) g (omega arith) (subst (λ w. w * pm ≤ (b - m) * pa + (m - a) * pb) s e)
  where
    s : b - a ≡ m - a + (b - m)
    s = omega arith

-- the mirror (puts)
pub fly_puts : (a m b pa pm pb : ℕ) → a < m → m < b → 2 * m ≤ a + b → pa ≤ pb → (b - a) * pm ≤ (b - m) * pa + (m - a) * pb → 2 * pm ≤ pa + pb
fly_puts a m b pa pm pb am mb mid g e = rw (add_comm pa pb) (fly (b - m) (m - a) pb pm pa (omega arith) g (omega arith) (subst (λ w. w ≤ (m - a) * pb + (b - m) * pa) s (omega arith)))
  where
    s : (b - a) * pm ≡ (b - m + (m - a)) * pm
    s = ap (λ w. w * pm) (omega arith)
