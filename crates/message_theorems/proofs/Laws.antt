-- The fields of groups, and the last of fields one behind the other.
use mathlib.Core.Path.{◌≡◌, refl, ap}
use mathlib.Core.Bool.{Bool}
use mathlib.Core.List.{List, [], ◌∷◌, ◌++◌}
use Prim.Native.Nat.{ℕ}
use Rattle.rules.specs.Fix.{tag_of, is_group_tag, all_but_last, last_of}

-- a 600, 623 or 624
abbrev pub is_of_group : List ℕ → Bool
is_of_group f = is_group_tag (tag_of f)

-- the last is the last of what stands behind
pub last_behind : (fs : List (List ℕ)) (g : List ℕ) (gs : List (List ℕ)) → last_of (fs ++ (g ∷ gs)) ≡ last_of (g ∷ gs)
unfolding last_of
last_behind [] g gs = refl
last_behind (f ∷ []) g gs = refl
last_behind (f ∷ d ∷ fs) g gs = last_behind (d ∷ fs) g gs

pub others_before : (fs : List (List ℕ)) (g : List ℕ) (gs : List (List ℕ)) → all_but_last (fs ++ (g ∷ gs)) ≡ fs ++ all_but_last (g ∷ gs)
unfolding all_but_last
others_before [] g gs = refl
others_before (f ∷ []) g gs = refl
others_before (f ∷ d ∷ fs) g gs = ap (λ l. f ∷ l) (others_before (d ∷ fs) g gs)
