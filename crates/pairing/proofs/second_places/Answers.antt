use Rattle.std.proofs.Common.{◌≤◌, ℕ, ◌∙◌, length, ap, arith, rules}
use Rattle.std.proofs.lemmas.List.{take_all}
use Rattle.sorting.specs.Keys.{with_places}
use Rattle.keys.specs.Tags.{second_tag, place_of}
use Rattle.arranging.proofs.Places.{place_turn}
use Rattle.pairing.proofs.second_places.Goals as goal

pub loop-i-init : goal.loop-i-init
unfolding with_places
loop-i-init c = search rules

pub loop-i-preserved : goal.loop-i-preserved
loop-i-preserved c =
    let l = c.loop-i in
    place_turn 0 second_tag c.args.tags.now l.places l.i c.place_of.result (omega arith) (omega arith) (c.place_of.ensures ∙ ap (λ (k : ℕ). place_of k l.i) c.second_tag.ensures.0) l.invariant

pub returns : goal.returns
returns c =
    let all_tags : length c.args.tags.now ≤ c.loop-i.i = omega arith in
    let all_places : length c.loop-i.places ≤ c.loop-i.i = omega arith in
    rw (take_all c.loop-i.i c.loop-i.places all_places, take_all c.loop-i.i c.args.tags.now all_tags) at c.loop-i.invariant
