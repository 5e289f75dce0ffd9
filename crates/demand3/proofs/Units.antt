-- Unit counts: dividing by the common divisor keeps which side is worth more, and the divisor does not depend on the sequence.
use mathlib.Core.Path.{◌≡◌, subst}
use mathlib.Core.List.{List, [], ◌∷◌, map}
use mathlib.Core.Bool.{Bool, true, false, cond}
use Prim.Native.Nat.{ℕ, ◌*◌, ◌/◌, ◌≤◌, ◌<◌, ◌∣◌}
use native.Mathlib.Nat.{dvd_refl, dvd-zero, dvd_trans, dvd_antisymm, div-mul_cancel, pos_of_dvd_of_pos, le_of_mul-le-mul_right}
use native.Mathlib.Omega.{arith}
use Rattle.rules.specs.declared.Series.{Series}
use Rattle.rules.specs.declared.Leg.{Leg}
use Rattle.rules.specs.Lists.{All, Perm, same_bool}
use Rattle.rules.specs.Order.{common_divisor, divided, units}
use Rattle.laws.proofs.Divisor.{gcd_divides, gcd_greatest}
use Rattle.laws.proofs.Sorting.{all_perm, perm_sym, map_perm}
use Rattle.demand3.proofs.Worth.{worth}

divides_all : (g : ℕ) (ls : List Leg) → g ∣ common_divisor ls → All (λ l. g ∣ l.size) ls
unfolding common_divisor
divides_all g [] h = tt
divides_all g (l ∷ ls) h =
    let d = gcd_divides l.size (common_divisor ls) in
    (dvd_trans g h d.0, divides_all g ls (dvd_trans g h d.1))

greatest_of_all : (n : ℕ) (ls : List Leg) → All (λ l. n ∣ l.size) ls → n ∣ common_divisor ls
unfolding common_divisor
greatest_of_all n [] h = dvd-zero n
greatest_of_all n (l ∷ ls) h = gcd_greatest l.size (common_divisor ls) n h.0 (greatest_of_all n ls h.1)

scaled_back : (v : Series → ℕ) (side : Bool) (g : ℕ) (ls : List Leg) → All (λ l. g ∣ l.size) ls → worth v side (map (divided g) ls) * g ≡ worth v side ls
unfolding worth
scaled_back v side g [] h = omega arith
scaled_back v side g (l ∷ ls) h = omega (arith, scaled_back v side g ls h.1, one (same_bool side l.bought))
  where
    one : (b : Bool) → cond b (l.size / g * v l.series) 0 * g ≡ cond b (l.size * v l.series) 0
    one true = subst (λ s. l.size / g * v l.series * g ≡ s * v l.series) (div-mul_cancel g h.0) (omega arith)
    one false = omega arith

-- legs of at least one contract
abbrev pub Sized : List Leg → Type 0
Sized = All (λ l. 0 < l.size)

pub units_order : (v : Series → ℕ) (a b : Bool) (ls : List Leg) → Sized ls → worth v a ls ≤ worth v b ls → worth v a (units ls) ≤ worth v b (units ls)
unfolding units
units_order v a b [] h k = k
units_order v a b (l ∷ ls) h k =
    let g = common_divisor (l ∷ ls) in
    let d = divides_all g (l ∷ ls) (dvd_refl g) in
    le_of_mul-le-mul_right {k = g} (rw (scaled_back v a g (l ∷ ls) d, scaled_back v b g (l ∷ ls) d) k) (pos_of_dvd_of_pos d.0 h.0)

divides_other : (xs ys : List Leg) → Perm xs ys → common_divisor xs ∣ common_divisor ys
divides_other xs ys p = greatest_of_all (common_divisor xs) ys (all_perm _ p (divides_all (common_divisor xs) xs (dvd_refl (common_divisor xs))))

common_perm : (xs ys : List Leg) → Perm xs ys → common_divisor xs ≡ common_divisor ys
common_perm xs ys p = dvd_antisymm (divides_other xs ys p) (divides_other ys xs (perm_sym p))

pub units_perm : (xs ys : List Leg) → Perm xs ys → Perm (units xs) (units ys)
unfolding units
units_perm xs ys p = rw (common_perm xs ys p) (map_perm (divided (common_divisor ys)) p)
