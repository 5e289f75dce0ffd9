-- The common divisor of counts from the last to the first, and that counts of 1 or more have one.
use mathlib.Core.Path.{◌≡◌, refl, sym, ap, ap₂, ◌∙◌}
use mathlib.Core.List.{List, [], ◌∷◌, ◌++◌, map, reverse, reverse-cons}
use mathlib.Core.Bool.{false}
use Prim.Native.Nat.{ℕ, ◌/◌, ◌≤◌, ◌<◌}
use native.Mathlib.Nat.{pos_of_dvd_of_pos}
use native.Mathlib.Omega.{arith}
use lib.ListN.{length, take, drop, take-append-drop}
use Rattle.std.specs.List.{fold}
use Rattle.std.proofs.lemmas.List.Sums.{fold-append}
use Rattle.rules.specs.declared.Leg.{Leg}
use Rattle.rules.specs.Lists.{All}
use Rattle.rules.specs.Order.{gcd, gcd_within, common_divisor, divided, units}
use Rattle.laws.proofs.Divisor.{gcd_divides}

-- the common divisor of some counts
unfoldable pub divisor_of : List ℕ → ℕ
divisor_of [] = 0
divisor_of (s ∷ ss) = gcd s (divisor_of ss)

abbrev pub sizes_of : List Leg → List ℕ
sizes_of ls = map (λ l. l.size) ls

of_legs_lem : (ls : List Leg) → common_divisor ls ≡ divisor_of (sizes_of ls)
unfolding common_divisor divisor_of
of_legs_lem [] = refl
of_legs_lem (l ∷ ls) = ap (gcd l.size) (of_legs_lem ls)

-- a divisor of 1 stays
one_stays : (a : ℕ) → gcd a 1 ≡ 1
unfolding gcd gcd_within
one_stays a = refl

ends_at_one : (xs ys : List ℕ) → divisor_of ys ≡ 1 → divisor_of (xs ++ ys) ≡ 1
unfolding divisor_of
ends_at_one [] ys h = h
ends_at_one (x ∷ xs) ys h = ap (gcd x) (ends_at_one xs ys h) ∙ one_stays x

-- a divisor of 1 of the last counts is that of all
pub one_of_all : (xs : List ℕ) (i : ℕ) → divisor_of (drop i xs) ≡ 1 → divisor_of xs ≡ 1
one_of_all xs i h = ap divisor_of (sym (take-append-drop i xs)) ∙ ends_at_one (take i xs) (drop i xs) h

-- the divisor of all legs that have these counts
pub divisor_read : (ss : List ℕ) (d : ℕ) → d ≡ divisor_of ss → (ls : List Leg) → sizes_of ls ≡ ss → d ≡ common_divisor ls
divisor_read ss d h ls e = h ∙ sym (of_legs_lem ls ∙ ap divisor_of e)

-- taken from the last count to the first
pub divisor_folded : (ss : List ℕ) → fold (λ d s. gcd s d) 0 (reverse ss) ≡ divisor_of ss
unfolding divisor_of
divisor_folded [] = refl
divisor_folded (s ∷ ss) = ap (fold (λ d s. gcd s d) 0) (reverse-cons s ss) ∙ fold-append (λ d s. gcd s d) 0 (reverse ss) (s ∷ []) ∙ ap (gcd s) (divisor_folded ss)

-- a leg of some count
abbrev leg_of_size : ℕ → Leg
leg_of_size s = record { root = 0; series = record { call = false; expiry = 0; strike = record { 0 = 0 } }; bought = false; size = s }

sizes_back : (ss : List ℕ) → sizes_of (map leg_of_size ss) ≡ ss
sizes_back [] = refl
sizes_back (s ∷ ss) = ap (λ (l : List ℕ). s ∷ l) (sizes_back ss)

positive : (ss : List ℕ) → 0 < length ss → All (λ s. 1 ≤ s) ss → 0 < divisor_of ss
unfolding divisor_of
positive [] h k = absurd (omega (arith, h))
positive (s ∷ ss) h k = pos_of_dvd_of_pos (gcd_divides s (divisor_of ss)).0 k.0

-- what divides the counts of one leg or more is not 0
pub divisor_positive : (ss : List ℕ) (d : ℕ) → 0 < length ss → All (λ s. 1 ≤ s) ss → ((ls : List Leg) → sizes_of ls ≡ ss → d ≡ common_divisor ls) → 0 < d
divisor_positive ss d h k f =
    let ls = map leg_of_size ss in
    let e : d ≡ divisor_of ss = f ls (sizes_back ss) ∙ of_legs_lem ls ∙ ap divisor_of (sizes_back ss) in
    rw e (positive ss h k)

-- the unit counts are the counts divided
sizes_divided : (g : ℕ) (ls : List Leg) → sizes_of (map (divided g) ls) ≡ map (λ s. s / g) (sizes_of ls)
sizes_divided g [] = refl
sizes_divided g (l ∷ ls) = ap (λ (ss : List ℕ). l.size / g ∷ ss) (sizes_divided g ls)

pub units_read : (ls : List Leg) (ss : List ℕ) (d : ℕ) → sizes_of ls ≡ ss → d ≡ common_divisor ls → sizes_of (units ls) ≡ map (λ s. s / d) ss
unfolding units
units_read ls ss d e f = sizes_divided (common_divisor ls) ls ∙ ap₂ (λ (g : ℕ) (l : List ℕ). map (λ s. s / g) l) (sym f) e
