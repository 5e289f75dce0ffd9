-- Tags and contracts, place by place, have the loners of the legs that they say.
use Rattle.std.proofs.Common.{◌≡◌, refl, List, [], ◌∷◌, Bool, ℕ}
use mathlib.Core.List.{zip_with}
use Rattle.keys.specs.Tags.{legs_from}
use Rattle.tagged.specs.declared.PairTally.{PairTally}
use Rattle.loners.specs.Tallies.{alone_at, alone_in, all_alone}

pub alone_legs : (root : ℕ) (second : Bool) (t : PairTally) (tags left : List ℕ) → alone_in t tags left ≡ all_alone t (legs_from root second tags left)
unfolding zip_with alone_at
alone_legs root second t [] left = refl
alone_legs root second t (tag ∷ tags) [] = refl
alone_legs root second t (tag ∷ tags) (n ∷ left) = alone_legs root second (alone_at t tag n) tags left

-- a loner is no pair
pub alone_pairs : (t : PairTally) (tags left : List ℕ) → (alone_in t tags left).pairs ≡ t.pairs
unfolding alone_at
alone_pairs t [] left = refl
alone_pairs t (tag ∷ tags) [] = refl
alone_pairs t (tag ∷ tags) (n ∷ left) = alone_pairs (alone_at t tag n) tags left
