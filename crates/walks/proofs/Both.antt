-- Both walks over tags are the definition's.
use mathlib.Core.Path.{◌≡◌, sym, ap, ap₂, ◌∙◌}
use mathlib.Core.List.{List, [], ◌++◌}
use mathlib.Core.Bool.{Bool, true, false, not, ◌&&◌, ◌||◌}
use Prim.Native.Nat.{ℕ, ◌≤◌}
use native.Mathlib.Omega.{arith}
use lib.ListN.{length, length-append}
use Rattle.rules.specs.declared.Leg.{Leg}
use Rattle.rules.specs.Pairing.{Walked, walk, one_expiry, one_strike, by_expiry, both_walks}
use Rattle.rules.proofs.Tests.{not_eq}
use Rattle.laws.proofs.Pairings.{pairing_fewer}
use Rattle.keys.specs.Tags.{leg_at, legs_from}
use Rattle.arranging.proofs.Zip.{zip_length}
use Rattle.tagged.specs.declared.PairTally.{PairTally}
use Rattle.tagged.specs.Tags.{none, noted, InSequence, Walks}
use Rattle.tagged.proofs.Walking.{noted_append}
use Rattle.loners.specs.Tallies.{all_alone, alone_in, joined_tallies, tally_class}
use Rattle.loners.proofs.Alone.{alone_legs}
use Rattle.walks.specs.Both.{tallied, BothWalks}
use Rattle.walks.proofs.Tallied.{pairs_said, tallied_said, joined_walk, class_tallied}
use Rattle.walks.proofs.Skip.{skipped}

module _ (root : ℕ) {tags left after : List ℕ} {a : PairTally} (q : InSequence tags left) (wa : Walks tags left after a) where
  abbrev ls : List Leg
  ls = legs_from root false tags left

  abbrev first : Walked
  first = walk one_expiry ls

  -- what the first walk leaves
  abbrev rest : List Leg
  rest = legs_from root false tags after

  abbrev again : Walked
  again = walk one_strike (by_expiry rest)

  once : both_walks true ls ≡ record { pairs = first.pairs; legs = rest }
  unfolding both_walks
  once = rw (wa.legs root false)

  twice : both_walks false ls ≡ record { pairs = first.pairs ++ again.pairs; legs = again.legs }
  unfolding both_walks
  twice = rw (wa.legs root false)

  few : (european : Bool) (w : Walked) → both_walks european ls ≡ w → length w.pairs ≤ 16
  few european w e = omega (arith, rw e at (pairing_fewer european ls), zip_length (leg_at root false) tags left (sym q.long), q.few)

  -- a tally of what both walks give says their number and class
  says : (european : Bool) (w : Walked) (r : PairTally) → both_walks european ls ≡ w → r ≡ tallied w → BothWalks european ls r.pairs (tally_class r)
  says european w r e f = record { pairings = rw (e, f, tallied_said w); class = rw (e, f) (class_tallied w) }

  pub first_few : a.pairs ≤ 1000
  first_few = omega (arith, few true _ once, ap (λ (t : PairTally). t.pairs) (wa.tally root false ∙ pairs_said none first.pairs))

  module _ (b : PairTally) (second : b ≡ tallied again) where
    pub second_few : b.pairs ≤ 1000
    second_few = omega (arith, few false _ twice, ap (λ (t : PairTally). t.pairs) (second ∙ tallied_said again), length-append first.pairs again.pairs)

    pub two_walks : (r : PairTally) → r ≡ joined_tallies a b → BothWalks false ls r.pairs (tally_class r)
    two_walks r e =
        let append = ap (λ (t : PairTally). all_alone t again.legs) (noted_append none first.pairs again.pairs) in
        says false _ r twice (e ∙ ap₂ joined_tallies (wa.tally root false) second ∙ joined_walk (noted none first.pairs) again ∙ sym append)

  -- the first walk alone: the second is left out, or matches nothing
  pub one_walk : (european : Bool) (alone r : PairTally) → alone ≡ alone_in none tags after → european || not (alone.debit && alone.credit) ≡ true → r ≡ joined_tallies a alone
      → BothWalks european ls r.pairs (tally_class r)
  one_walk true alone r l h e =
      let k = l ∙ alone_legs root false none tags after in
      says true _ r once (e ∙ ap₂ joined_tallies (wa.tally root false) k ∙ joined_walk (noted none first.pairs) (record { pairs = []; legs = rest }))
  one_walk false alone r l h e =
      let k = l ∙ alone_legs root false none tags after in
      two_walks alone (k ∙ skipped rest (rw k at (not_eq (alone.debit && alone.credit) h))) r e
