-- A test of every number of a list, by its places; and zeros behind a list.
use mathlib.Core.Path.{◌≡◌, refl, ap}
use mathlib.Core.List.{List, [], ◌∷◌, ◌++◌}
use mathlib.Core.Bool.{Bool, true}
use Prim.Native.Nat.{ℕ, zero, suc, ◌+◌, ◌≤◌, ◌<◌}
use native.Mathlib.Omega.{arith}
use lib.ListN.{length, get_or, replicate}
use Rattle.rules.specs.Lists.{all, total}
use Rattle.rules.proofs.Tests.{and_both, and_of}

module _ (f : ℕ → Bool) where
  pub all_at : (xs : List ℕ) → all f xs ≡ true → (i : ℕ) → i < length xs → f (get_or xs i 0) ≡ true
  unfolding all
  all_at [] h i l = absurd (omega arith)
  all_at (x ∷ xs) h zero l = (and_both (f x) (all f xs) h).0
  all_at (x ∷ xs) h (suc i) l = all_at xs (and_both (f x) (all f xs) h).1 i (omega arith)

  pub all_of : (xs : List ℕ) → ((i : ℕ) → i < length xs → f (get_or xs i 0) ≡ true) → all f xs ≡ true
  unfolding all
  all_of [] h = refl
  all_of (x ∷ xs) h = and_of (h 0 (omega arith)) (all_of xs (λ i l. h (suc i) (omega arith)))

pub at_most_total : (xs : List ℕ) (i : ℕ) → get_or xs i 0 ≤ total xs
unfolding total
at_most_total [] i = omega arith
at_most_total (x ∷ xs) zero = omega arith
at_most_total (x ∷ xs) (suc i) = let h = at_most_total xs i in omega arith

pub zeros_total : (xs : List ℕ) (k : ℕ) → total (xs ++ replicate k 0) ≡ total xs
unfolding total
zeros_total [] zero = refl
zeros_total [] (suc k) = let h = zeros_total [] k in omega (arith, h)
zeros_total (x ∷ xs) k = ap (λ (n : ℕ). x + n) (zeros_total xs k)

pub zeros_at : (xs : List ℕ) (k i : ℕ) → get_or (xs ++ replicate k 0) i 0 ≡ get_or xs i 0
zeros_at [] zero i = refl
zeros_at [] (suc k) zero = refl
zeros_at [] (suc k) (suc i) = zeros_at [] k i
zeros_at (x ∷ xs) k zero = refl
zeros_at (x ∷ xs) k (suc i) = zeros_at xs k i
