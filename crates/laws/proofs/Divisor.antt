-- The greatest common divisor: its step, that it divides both, and that every common divisor divides it.
use mathlib.Core.Path.{◌≡◌, refl}
use Prim.Native.Nat.{ℕ, zero, suc, ◌%◌, ◌≤◌, ◌<◌, ◌∣◌}
use native.Mathlib.Nat.{mod-lt, dvd_refl, dvd-zero, dvd-mod_iff}
use native.Mathlib.Omega.{arith}
use Rattle.rules.specs.Order.{gcd_within, gcd}

-- with enough steps, how many there are does not matter
enough : (m n a b : ℕ) → b ≤ m → b ≤ n → gcd_within m a b ≡ gcd_within n a b
unfolding gcd_within
enough zero zero a b h k = refl
enough zero (suc n) a zero h k = refl
enough zero (suc n) a (suc b) h k = absurd (omega arith)
enough (suc m) zero a zero h k = refl
enough (suc m) zero a (suc b) h k = absurd (omega arith)
enough (suc m) (suc n) a zero h k = refl
enough (suc m) (suc n) a (suc b) h k =
    let l : a % suc b < suc b = mod-lt a (omega arith) in
    enough m n (suc b) (a % suc b) (omega arith) (omega arith)

pub gcd_zero : (a : ℕ) → gcd a 0 ≡ a
unfolding gcd gcd_within
gcd_zero a = refl

pub gcd_step : (a b : ℕ) → 0 < b → gcd a b ≡ gcd b (a % b)
unfolding gcd gcd_within
gcd_step a zero h = absurd (omega arith)
gcd_step a (suc b) h =
    let l : a % suc b < suc b = mod-lt a (omega arith) in
    enough b (a % suc b) (suc b) (a % suc b) (omega arith) (omega arith)

divides : (n a b : ℕ) → b ≤ n → (gcd_within n a b ∣ a) × (gcd_within n a b ∣ b)
unfolding gcd_within
divides zero a zero h = (dvd_refl a, dvd-zero a)
divides zero a (suc b) h = absurd (omega arith)
divides (suc n) a zero h = (dvd_refl a, dvd-zero a)
divides (suc n) a (suc b) h =
    let l : a % suc b < suc b = mod-lt a (omega arith) in
    let r = divides n (suc b) (a % suc b) (omega arith) in
    ((dvd-mod_iff _ r.0).0 r.1, r.0)

pub gcd_divides : (a b : ℕ) → (gcd a b ∣ a) × (gcd a b ∣ b)
unfolding gcd
gcd_divides a b = divides b a b (omega arith)

greatest : (n a b d : ℕ) → b ≤ n → d ∣ a → d ∣ b → d ∣ gcd_within n a b
unfolding gcd_within
greatest zero a b d h p q = p
greatest (suc n) a zero d h p q = p
greatest (suc n) a (suc b) d h p q =
    let l : a % suc b < suc b = mod-lt a (omega arith) in
    greatest n (suc b) (a % suc b) d (omega arith) q ((dvd-mod_iff _ q).1 p)

pub gcd_greatest : (a b d : ℕ) → d ∣ a → d ∣ b → d ∣ gcd a b
unfolding gcd
gcd_greatest a b d p q = greatest b a b d (omega arith) p q
