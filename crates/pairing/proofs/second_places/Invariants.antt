use Rattle.std.proofs.Common.{◌≡◌, take, map}
use Rattle.sorting.specs.Keys.{with_places}
use Rattle.keys.specs.Tags.{second_tag}
use Rattle.pairing.proofs.second_places.Given as goal

-- The places passed hold their legs' tags of the second walk.
abbrev pub invariant-loop-i : goal.invariant-loop-i
invariant-loop-i l = take l.i l.places ≡ with_places 0 (map second_tag (take l.i l.tags))
