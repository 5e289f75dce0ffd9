-- Every month has 28 days.
use Rattle.std.proofs.Common.{◌≡◌, refl, [], ◌∷◌, true, ◌&&◌, List, ℕ, zero, suc, ◌-◌, ◌≤◌, ◌<◌, length, get_or, leb, arith}
use borrow.Author.Tests.{leb-true, le-leb}
use Rattle.rules.specs.Limits.{within}
use Rattle.rules.specs.Lists.{all}
use Rattle.rules.specs.Symbol.{month_lengths, days_in, day_exists}
use Rattle.rules.proofs.Tests.{and_both, and_of, within_both}

entry : (least : ℕ) (xs : List ℕ) → all (leb least) xs ≡ true → (i : ℕ) → i < length xs → least ≤ get_or xs i 0
unfolding all
entry least [] h i l = absurd (omega arith)
entry least (x ∷ xs) h zero l = leb-true least x (and_both (leb least x) _ h).0
entry least (x ∷ xs) h (suc i) l = entry least xs (and_both (leb least x) _ h).1 i (omega arith)

pub early_day : (year month day : ℕ) → (within 2000 2099 year && within 1 12 month) && within 1 28 day ≡ true → day_exists year month day ≡ true
unfolding day_exists days_in all
early_day year month day h =
    let a = and_both (within 2000 2099 year && within 1 12 month) _ h in
    let m = within_both 1 12 month (and_both (within 2000 2099 year) _ a.0).1 in
    let d = within_both 1 28 day a.1 in
    let l : day ≤ days_in year month = omega (arith, m.0, m.1, d.1, entry 28 month_lengths refl (month - 1) (omega arith)) in
    and_of a.0 (and_of (le-leb 1 day d.0) (le-leb day (days_in year month) l))
