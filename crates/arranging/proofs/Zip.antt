-- Two lists taken together, place by place.
use mathlib.Core.Path.{◌≡◌, refl, ap}
use mathlib.Core.List.{List, [], ◌∷◌, zip_with}
use Prim.Native.Nat.{ℕ, zero, suc, ◌<◌}
use native.Mathlib.Omega.{arith}
use lib.ListN.{length, take, get_or, set}

module _ {A B C : Type 0} (f : A → B → C) where
  pub zip_length : (xs : List A) (ys : List B) → length xs ≡ length ys → length (zip_with f xs ys) ≡ length xs
  unfolding zip_with
  zip_length [] ys h = refl
  zip_length (x ∷ xs) [] h = absurd (omega arith)
  zip_length (x ∷ xs) (y ∷ ys) h = ap suc (zip_length xs ys (omega arith))

  pub zip_at : (xs : List A) (ys : List B) (i : ℕ) (a : A) (b : B) (c : C) → i < length xs → i < length ys → get_or (zip_with f xs ys) i c ≡ f (get_or xs i a) (get_or ys i b)
  unfolding zip_with
  zip_at [] ys i a b c h k = absurd (omega arith)
  zip_at (x ∷ xs) [] i a b c h k = absurd (omega arith)
  zip_at (x ∷ xs) (y ∷ ys) zero a b c h k = refl
  zip_at (x ∷ xs) (y ∷ ys) (suc i) a b c h k = zip_at xs ys i a b c (omega arith) (omega arith)

  pub zip_set : (xs : List A) (ys : List B) (i : ℕ) (a : A) (b : B) → i < length xs → zip_with f xs (set ys i b) ≡ set (zip_with f xs ys) i (f (get_or xs i a) b)
  unfolding zip_with
  zip_set [] ys i a b h = absurd (omega arith)
  zip_set (x ∷ xs) [] i a b h = refl
  zip_set (x ∷ xs) (y ∷ ys) zero a b h = refl
  zip_set (x ∷ xs) (y ∷ ys) (suc i) a b h = ap (λ (zs : List C). f x y ∷ zs) (zip_set xs ys i a b (omega arith))

  pub zip_take : (n : ℕ) (xs : List A) (ys : List B) → take n (zip_with f xs ys) ≡ zip_with f (take n xs) (take n ys)
  unfolding zip_with
  zip_take zero xs ys = refl
  zip_take (suc n) [] ys = refl
  zip_take (suc n) (x ∷ xs) [] = refl
  zip_take (suc n) (x ∷ xs) (y ∷ ys) = ap (λ (zs : List C). f x y ∷ zs) (zip_take n xs ys)
