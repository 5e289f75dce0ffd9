use Rattle.std.proofs.Common.{◌∙◌, ℕ, length, length-take, map, ap, arith}
use Rattle.std.proofs.lemmas.List.{take_all, length-map}
use Rattle.sorting.specs.Keys.{sort_keys}
use Rattle.keys.specs.Tags.{second_tag}
use Rattle.arranging.proofs.Arranging.{places_within}
use Rattle.walks.proofs.Seconds.{seconds_sequence, second_tallied}
use Rattle.pairing.proofs.second_walk.Goals as goal

-- A place of the second walk is one of the legs'.
pub arrange-requires-clause-within : goal.arrange-requires-clause-within
arrange-requires-clause-within c =
    let order = c.sort.ensures ∙ ap sort_keys c.second_places.ensures in
    let left = c.args.left.now in
    rw order (places_within (length left) (map second_tag c.args.tags.now) (omega (arith, length-map c.args.tags.now second_tag)) (omega arith))

-- The places are sorted and arranged into the second walk's sequence.
pub walk-pairs-requires : goal.walk-pairs-requires
walk-pairs-requires c =
    let order = c.sort.ensures ∙ ap sort_keys c.second_places.ensures in
    let whole = take_all (length c.args.tags.now) c.args.left.now (omega arith) in
    seconds_sequence c.requires order whole c.arrange.ensures (omega (arith, length-take {A = ℕ})) (omega (arith, length-take {A = ℕ})) 0

-- The walk and its loners are tallied.
pub returns : goal.returns
returns c root =
    let order = c.sort.ensures ∙ ap sort_keys c.second_places.ensures in
    let whole = take_all (length c.args.tags.now) c.args.left.now (omega arith) in
    second_tallied c.requires order whole c.arrange.ensures (omega (arith, length-take {A = ℕ})) (omega (arith, length-take {A = ℕ})) root c.walk-pairs.ensures c.loners.ensures
