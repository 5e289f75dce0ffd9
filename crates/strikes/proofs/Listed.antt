-- Lists of few numbers, one by one, and the legs of such lists.
use mathlib.Core.Path.{◌≡◌, sym, ap₂, ◌∙◌}
use mathlib.Core.List.{List, [], ◌∷◌}
use mathlib.Core.Bool.{false}
use Prim.Native.Nat.{ℕ, suc, ◌<◌, ◌≤◌}
use native.Mathlib.Omega.{arith}
use lib.ListN.{length, drop, get_or}
use lib.Seq.{drop-cons}
use Rattle.std.proofs.lemmas.List.{drop_all}
use Rattle.rules.specs.declared.Leg.{Leg}
use Rattle.keys.specs.Tags.{legs_from}

module _ (xs : List ℕ) where
  next : (i : ℕ) → i < length xs → drop i xs ≡ get_or xs i 0 ∷ drop (suc i) xs
  next i h = drop-cons xs i 0 h

  two_more : 2 ≤ length xs → xs ≡ get_or xs 0 0 ∷ get_or xs 1 0 ∷ drop 2 xs
  two_more h = rw (← next 1 (omega arith), ← next 0 (omega arith))

  pub four_more : 4 ≤ length xs → xs ≡ get_or xs 0 0 ∷ get_or xs 1 0 ∷ get_or xs 2 0 ∷ get_or xs 3 0 ∷ drop 4 xs
  four_more h = rw (← next 3 (omega arith), ← next 2 (omega arith), ← next 1 (omega arith), ← next 0 (omega arith))

  pub five_more : 5 ≤ length xs → xs ≡ get_or xs 0 0 ∷ get_or xs 1 0 ∷ get_or xs 2 0 ∷ get_or xs 3 0 ∷ get_or xs 4 0 ∷ drop 5 xs
  five_more h = rw (← next 4 (omega arith)) (four_more (omega arith))

  pub two : length xs ≡ 2 → xs ≡ get_or xs 0 0 ∷ get_or xs 1 0 ∷ []
  two h = rw (← drop_all 2 xs (omega arith)) (two_more (omega arith))

  pub three : length xs ≡ 3 → xs ≡ get_or xs 0 0 ∷ get_or xs 1 0 ∷ get_or xs 2 0 ∷ []
  three h = rw (← drop_all 3 xs (omega arith), ← next 2 (omega arith)) (two_more (omega arith))

  pub four : length xs ≡ 4 → xs ≡ get_or xs 0 0 ∷ get_or xs 1 0 ∷ get_or xs 2 0 ∷ get_or xs 3 0 ∷ []
  four h = rw (← drop_all 4 xs (omega arith)) (four_more (omega arith))

-- what is so of the numbers one by one is so of the legs that the lists carry
pub shown : (f : List Leg → ℕ) (root : ℕ) {tags units ts us : List ℕ} {r : ℕ} → tags ≡ ts → units ≡ us
    → r ≡ f (legs_from root false ts us)
    → r ≡ f (legs_from root false tags units)
shown f root e g h = h ∙ sym (ap₂ (λ (xs ys : List ℕ). f (legs_from root false xs ys)) e g)
