-- The bytes of a message's first fields, and the fields behind them, one field after the other.
use mathlib.Core.Path.{◌≡◌, refl, ap, ◌∙◌}
use mathlib.Core.List.{List, [], ◌∷◌, ◌++◌}
use Prim.Native.Nat.{ℕ, suc}
use lib.ListN.{length, take, drop, length-append}
use lib.Seq.{take-append-add, drop-append-add}
use Rattle.rules.specs.Fix.{fields_of, bytes_of}
use Rattle.field_laws.proofs.Fields.{first_is}

-- `xs` are the first fields of a message, `ys` those behind them
pub record Fronted (m : List ℕ) (xs ys : List (List ℕ)) : Type 0 where
  pub bytes : take (length (bytes_of xs)) m ≡ bytes_of xs
  pub behind : fields_of (drop (length (bytes_of xs)) m) ≡ ys

pub fronted : (xs ys : List (List ℕ)) (m : List ℕ) → fields_of m ≡ xs ++ ys → Fronted m xs ys
unfolding bytes_of
fronted [] ys m e = record { bytes = refl; behind = e }
fronted (f ∷ xs) ys m e =
    let s = first_is m f (xs ++ ys) e in
    let k = fronted xs ys s.rest s.others in
    let n = length-append f (1 ∷ bytes_of xs) in
    record {
      bytes = rw (n, s.whole) (take-append-add f (1 ∷ s.rest) (suc (length (bytes_of xs))) ∙ ap (λ (t : List ℕ). f ++ (1 ∷ t)) k.bytes);
      behind = rw (n, s.whole) (ap fields_of (drop-append-add f (1 ∷ s.rest) (suc (length (bytes_of xs)))) ∙ k.behind);
    }
