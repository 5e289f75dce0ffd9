-- An array that is filled from the front with the places of tags.
use mathlib.Core.Path.{◌≡◌, ap}
use mathlib.Core.List.{List, [], ◌∷◌, ◌++◌, map}
use Prim.Native.Nat.{ℕ, ◌+◌, ◌<◌}
use native.Mathlib.Omega.{arith}
use native.Mathlib.Numerals.{add-one}
use lib.ListN.{length, take, get_or, set, length-map}
use lib.Seq.{length-take-le, take-suc, take-suc-set}
use Rattle.loops.proofs.Filling.{map_append}
use Rattle.sorting.specs.Keys.{with_places}
use Rattle.sorting.proofs.Laws.{places_last}
use Rattle.keys.specs.Tags.{place_of}

pub place_turn : {A : Type 0} (d : A) (tag : A → ℕ) (xs : List A) (places : List ℕ) (i v : ℕ) → i < length xs → i < length places → v ≡ place_of (tag (get_or xs i d)) i
    → take i places ≡ with_places 0 (map tag (take i xs)) → take (i + 1) (set places i v) ≡ with_places 0 (map tag (take (i + 1) xs))
place_turn d tag xs places i v h k e g =
    let ts = map tag (take i xs) in
    let w : v ≡ place_of (tag (get_or xs i d)) (0 + length ts) = omega (arith, length-map (take i xs) tag, length-take-le i xs (omega arith)) in
    rw (add-one, take-suc-set places i v k, take-suc xs i d h, map_append d tag (take i xs) (get_or xs i d ∷ []), g, places_last 0 ts (tag (get_or xs i d))) (ap (λ (x : ℕ). with_places 0 ts ++ (x ∷ [])) w)
