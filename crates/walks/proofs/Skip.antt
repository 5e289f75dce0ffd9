-- Legs that are open on one side only: the second walk matches nothing, and its loners are theirs.
use mathlib.Core.Path.{◌≡◌, refl, ◌∙◌}
use mathlib.Core.List.{List, [], ◌∷◌}
use mathlib.Core.Bool.{Bool, true, false, not, ◌&&◌, true≢false}
use native.Mathlib.Omega.{arith}
use Rattle.std.proofs.lemmas.Bool.Decides.{nat_tests}
use Rattle.rules.specs.declared.Series.{Series}
use Rattle.rules.specs.declared.Leg.{Leg}
use Rattle.rules.specs.Lists.{All, all}
use Rattle.rules.specs.Pairing.{matched, walk, one_strike, by_expiry}
use Rattle.rules.proofs.Tests.{and_both}
use Rattle.laws.proofs.Sorting.{all_test_perm, sort_is_perm}
use Rattle.open_contracts.proofs.Open.{idle}
use Rattle.tagged.specs.Tags.{none}
use Rattle.loners.specs.Tallies.{all_alone}
use Rattle.walks.specs.Both.{tallied}
use Rattle.walks.proofs.Tallied.{on_side, legs_said_lem}

module _ (same : Series → Series → Bool) (b : Bool) where
  -- of two legs of one side nothing is matched
  unmatched : (x y : Leg) → on_side b x ≡ true → on_side b y ≡ true → matched same x y ≡ 0
  unfolding matched
  unmatched x y h k = grind (arith, nat_tests)

  unmatched_each : (x : Leg) (ys : List Leg) → on_side b x ≡ true → all (on_side b) ys ≡ true → All (λ y. matched same x y ≡ 0) ys
  unfolding all
  unmatched_each x [] h k = tt
  unmatched_each x (y ∷ ys) h k = let s = and_both (on_side b y) _ k in (unmatched x y h s.0, unmatched_each x ys h s.1)

  walk_none : (xs : List Leg) → all (on_side b) xs ≡ true → walk same xs ≡ record { pairs = []; legs = xs }
  unfolding walk all
  walk_none [] h = refl
  walk_none (x ∷ xs) h = let s = and_both (on_side b x) _ h in rw (walk_none xs s.1, idle same x xs (unmatched_each x xs s.0 s.1))

module _ (ls : List Leg) where
  sorted_same : (b : Bool) → all (on_side b) (by_expiry ls) ≡ all (on_side b) ls
  unfolding by_expiry
  sorted_same b = all_test_perm (on_side b) (sort_is_perm _ ls)

  second_none : (p q : Bool) → all (on_side true) ls ≡ p → all (on_side false) ls ≡ q → not q && not p ≡ false → walk one_strike (by_expiry ls) ≡ record { pairs = []; legs = by_expiry ls }
  second_none true q e f h = walk_none one_strike true (by_expiry ls) (sorted_same true ∙ e)
  second_none false true e f h = walk_none one_strike false (by_expiry ls) (sorted_same false ∙ f)
  second_none false false e f h = absurd (true≢false h)

  -- the tally of the loners does not see their sequence
  pub skipped : (all_alone none ls).debit && (all_alone none ls).credit ≡ false → all_alone none ls ≡ tallied (walk one_strike (by_expiry ls))
  skipped h =
      let e = second_none (all (on_side true) ls) (all (on_side false) ls) refl refl (rw (legs_said_lem none ls) at h) in
      rw (e, legs_said_lem none ls, legs_said_lem none (by_expiry ls), sorted_same true, sorted_same false)
