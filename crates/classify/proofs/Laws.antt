-- Legs and their unit counts, as arrays: dividing keeps root, series and side.
use mathlib.Core.Path.{◌≡◌, refl, sym, ap, ap₂, ◌∙◌}
use mathlib.Core.List.{List, [], ◌∷◌, map, zip_with, head-eq_of_cons-eq, tail-eq_of_cons-eq}
use mathlib.Core.Bool.{false}
use Prim.Native.Nat.{ℕ, zero, suc}
use native.Mathlib.Omega.{arith}
use lib.ListN.{length, take}
use Rattle.rules.specs.declared.Leg.{Leg}
use Rattle.rules.specs.Order.{common_divisor, divided, units}
use Rattle.rules.specs.Pairing.{Walked}
use Rattle.rules.specs.Class.{pair_class, class_with, class_of}
use Rattle.keys.specs.Tags.{leg_at, legs_in}

-- the counts of the legs are the array's
legs_sizes : (root n : ℕ) (tags sizes : List ℕ) → length tags ≡ length sizes → map (λ l. l.size) (legs_in root false n tags sizes) ≡ take n sizes
unfolding zip_with
legs_sizes root zero tags sizes e = refl
legs_sizes root (suc n) [] [] e = refl
legs_sizes root (suc n) [] (s ∷ sizes) e = absurd (omega arith)
legs_sizes root (suc n) (t ∷ tags) [] e = refl
legs_sizes root (suc n) (t ∷ tags) (s ∷ sizes) e = ap (λ (ns : List ℕ). s ∷ ns) (legs_sizes root n tags sizes (omega arith))

-- legs with the counts of divided legs are those
legs_divided : (g root n : ℕ) (tags sizes counts : List ℕ) → length tags ≡ length sizes → length tags ≡ length counts
    → map (λ l. l.size) (map (divided g) (legs_in root false n tags sizes)) ≡ take n counts
    → legs_in root false n tags counts ≡ map (divided g) (legs_in root false n tags sizes)
unfolding zip_with
legs_divided g root zero tags sizes counts e f h = refl
legs_divided g root (suc n) [] sizes counts e f h = refl
legs_divided g root (suc n) (t ∷ tags) [] counts e f h = absurd (omega arith)
legs_divided g root (suc n) (t ∷ tags) (s ∷ sizes) [] e f h = absurd (omega arith)
legs_divided g root (suc n) (t ∷ tags) (s ∷ sizes) (c ∷ counts) e f h =
    ap₂ (λ (m : ℕ) (ls : List Leg). leg_at root false t m ∷ ls) (sym (head-eq_of_cons-eq h)) (legs_divided g root n tags sizes counts (omega arith) (omega arith) (tail-eq_of_cons-eq h))

-- what is said of the counts of any legs, of these
pub legs_units : (root n : ℕ) (tags sizes counts : List ℕ) → length tags ≡ 16 → length sizes ≡ 16 → length counts ≡ 16
    → ((ls : List Leg) → map (λ l. l.size) ls ≡ take n sizes → map (λ l. l.size) (units ls) ≡ take n counts)
    → legs_in root false n tags counts ≡ units (legs_in root false n tags sizes)
unfolding units
legs_units root n tags sizes counts d e f h =
    legs_divided (common_divisor (legs_in root false n tags sizes)) root n tags sizes counts (d ∙ sym e) (d ∙ sym f) (h (legs_in root false n tags sizes) (legs_sizes root n tags sizes (d ∙ sym e)))

-- the class by pairs and loners is that of both walks
pub classed : (us : List Leg) (w : Walked) {r pairs : ℕ} → r ≡ class_with us pairs → pairs ≡ pair_class w → r ≡ class_of us w
classed us w e h = e ∙ ap (class_with us) h
