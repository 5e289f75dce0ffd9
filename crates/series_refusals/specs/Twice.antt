-- A series twice, as it is found in the legs' places.
use Rattle.std.specs.Prelude.{◌≡◌, Bool, false, ◌&&◌, ◌||◌, ℕ, length, eqb}
use mathlib.Core.List.{List, [], ◌∷◌, zip_with}
use Rattle.rules.specs.declared.Leg.{Leg}
use Rattle.rules.specs.Lists.{All, some_pair}
use Rattle.rules.specs.Numbers.{is_same_series, is_other_root}
use Rattle.rules.specs.Valid.{InRange}
use Rattle.sorting.specs.Keys.{sort_keys}
use Rattle.keys.specs.Tags.{key_in, Placed}

-- ---- of one root

abbrev pub is_one_key : ℕ → ℕ → Bool
is_one_key p q = eqb (key_in p) (key_in q)

-- two neighbours have one key
unfoldable pub some_next : List ℕ → Bool
some_next [] = false
some_next (p ∷ []) = false
some_next (p ∷ q ∷ ps) = is_one_key p q || some_next (q ∷ ps)

-- ---- of several roots

-- a place's key with the root
abbrev pub with_root : ℕ → ℕ → ℕ × ℕ
with_root place root = (key_in place, root)

abbrev pub keys_of : List ℕ → List ℕ → List (ℕ × ℕ)
keys_of places roots = zip_with with_root places roots

abbrev pub is_same_key : ℕ × ℕ → ℕ × ℕ → Bool
is_same_key a b = eqb a.0 b.0 && eqb a.1 b.1

-- ---- the answer

-- of the places of legs, which are of several roots where `other` says so; `after` are the places afterwards
pub record SortedTwice (other : Bool) (places roots after : List ℕ) (r : Bool) : Type 0 where
  pub twice : (ls : List Leg) (sizes : List ℕ) → Placed ls places sizes roots → length ls ≡ length places → All (λ l. InRange l.series) ls → other ≡ some_pair is_other_root ls → r ≡ some_pair is_same_series ls
  pub sorted : other ≡ false → after ≡ sort_keys places
