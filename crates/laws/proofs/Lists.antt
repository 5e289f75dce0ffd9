-- Tests of the elements of a list, of which all pass or one fails, lists of the same numbers, and sums: by going along the list.
use mathlib.Core.Path.{◌≡◌, refl, sym}
use mathlib.Core.List.{List, [], ◌∷◌, ◌++◌}
use mathlib.Core.Bool.{Bool, true, false, ◌&&◌, true≢false}
use Prim.Native.Nat.{ℕ, ◌+◌}
use native.Mathlib.Omega.{arith}
use lib.Dec.{eqb}
use borrow.Author.Tests.{eqb-true, eq-eqb}
use Rattle.rules.specs.Lists.{All, all, any, every, total, same_numbers}
use Rattle.rules.proofs.Tests.{and_both, and_of, and_assoc}

module _ {A : Type 0} (f : A → Bool) where
  pub all_joined : (xs ys : List A) → all f (xs ++ ys) ≡ all f xs && all f ys
  unfolding all
  all_joined [] ys = refl
  all_joined (x ∷ xs) ys = rw (all_joined xs ys, and_assoc)

  pub all_pass : {P : A → Type 0} → ((x : A) → P x → f x ≡ true) → (xs : List A) → All P xs → all f xs ≡ true
  unfolding all
  all_pass g [] h = refl
  all_pass g (x ∷ xs) h = and_of (g x h.0) (all_pass g xs h.1)

  pub none_pass : {P : A → Type 0} → ((x : A) → P x → f x ≡ false) → (xs : List A) → All P xs → any f xs ≡ false
  unfolding any
  none_pass g [] h = refl
  none_pass g (x ∷ xs) h = rw (g x h.0) (none_pass g xs h.1)

-- tests that pass, one by one
pub every_passes : (bs : List Bool) → All (λ b. b ≡ true) bs → every bs ≡ true
unfolding every
every_passes [] h = refl
every_passes (b ∷ bs) h = and_of h.0 (every_passes bs h.1)

-- a test that fails among others
pub fails : (xs ys : List Bool) → every (xs ++ (false ∷ ys)) ≡ false
unfolding every
fails [] ys = refl
fails (true ∷ xs) ys = fails xs ys
fails (false ∷ xs) ys = refl

pub same_self : (xs : List ℕ) → same_numbers xs xs ≡ true
unfolding same_numbers
same_self [] = refl
same_self (x ∷ xs) = and_of (eq-eqb x x refl) (same_self xs)

pub same_numbers_lem : (xs ys : List ℕ) → same_numbers xs ys ≡ true → xs ≡ ys
unfolding same_numbers
same_numbers_lem [] [] h = refl
same_numbers_lem [] (y ∷ ys) h = absurd (true≢false (sym h))
same_numbers_lem (x ∷ xs) [] h = absurd (true≢false (sym h))
same_numbers_lem (x ∷ xs) (y ∷ ys) h = let k = and_both (eqb x y) _ h in rw (eqb-true x y k.0, same_numbers_lem xs ys k.1)

-- the sum of lists one behind the other
pub total_append : (xs ys : List ℕ) → total (xs ++ ys) ≡ total xs + total ys
unfolding total
total_append [] ys = omega arith
total_append (x ∷ xs) ys = omega (arith, total_append xs ys)
