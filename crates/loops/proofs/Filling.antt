-- A slice that is filled from the front with one value for each element.
use mathlib.Core.Path.{◌≡◌, refl, ap}
use mathlib.Core.List.{List, [], ◌∷◌, ◌++◌, map}
use Prim.Native.Nat.{ℕ, ◌+◌, ◌<◌}
use native.Mathlib.Numerals.{add-one}
use lib.ListN.{length, take, drop, get_or, set}
use lib.Seq.{take-suc, take-suc-set, drop-cons}

module _ {A B : Type 0} (d : A) (f : A → B) where
  pub map_append : (xs ys : List A) → map f (xs ++ ys) ≡ map f xs ++ map f ys
  map_append [] ys = refl
  map_append (x ∷ xs) ys = ap (λ (zs : List B). f x ∷ zs) (map_append xs ys)

  pub fill_turn : (xs : List A) (ns : List B) (i : ℕ) (v : B) → i < length xs → i < length ns → v ≡ f (get_or xs i d) → take i ns ≡ map f (take i xs)
      → take (i + 1) (set ns i v) ≡ map f (take (i + 1) xs)
  fill_turn xs ns i v h k e g = rw (add-one, take-suc-set ns i v k, take-suc xs i d h, map_append (take i xs) (get_or xs i d ∷ []), g, e)

-- a slice that is changed from the front, where it stands: `xs` as it came, `ys` with the first `i` changed
module _ {A : Type 0} (d : A) (xs ys : List A) (i : ℕ) (old : i < length xs) (new : i < length ys) (others : drop i ys ≡ drop i xs) where
  pub next_same : get_or ys i d ≡ get_or xs i d
  next_same = cc (drop-cons xs i d old, drop-cons ys i d new)

  pub rest_same : drop (i + 1) ys ≡ drop (i + 1) xs
  rest_same = rw add-one (cc (drop-cons xs i d old, drop-cons ys i d new))
