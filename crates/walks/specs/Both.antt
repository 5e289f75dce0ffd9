-- What both walks give.
use Rattle.std.specs.Prelude.{◌≡◌, List, Bool, ℕ, length}
use Rattle.rules.specs.declared.Leg.{Leg}
use Rattle.rules.specs.Pairing.{Walked, both_walks}
use Rattle.rules.specs.Class.{pair_class}
use Rattle.tagged.specs.declared.PairTally.{PairTally}
use Rattle.tagged.specs.Tags.{none, noted}
use Rattle.loners.specs.Tallies.{all_alone}

-- the tally of a walk's pairs and loners
abbrev pub tallied : Walked → PairTally
tallied w = all_alone (noted none w.pairs) w.legs

-- the number of pairings, and the class by pairs and loners
pub record BothWalks (european : Bool) (ls : List Leg) (count number : ℕ) : Type 0 where
  pub pairings : count ≡ length (both_walks european ls).pairs
  pub class : number ≡ pair_class (both_walks european ls)
