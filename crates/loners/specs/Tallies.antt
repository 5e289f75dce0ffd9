-- Loners beside the pairs, and the class by both.
use Rattle.std.specs.Prelude.{List, [], ◌∷◌, Bool, cond, not, ◌&&◌, ◌||◌, ℕ, ◌+◌, eqb, fold}
use Rattle.std.specs.List.{zip}
use Rattle.rules.specs.declared.Leg.{Leg}
use Rattle.keys.specs.Tags.{is_bought}
use Rattle.tagged.specs.declared.PairTally.{PairTally}

abbrev pub alone_with : PairTally → Bool → ℕ → PairTally
alone_with t bought left =
    let open' = not (eqb left 0) in
    record { pairs = t.pairs; debit = t.debit || open' && bought; credit = t.credit || open' && not bought }

unfoldable pub alone_at : PairTally → ℕ → ℕ → PairTally
alone_at t tag left = alone_with t (is_bought tag) left

-- the tally with the loners of such tags and contracts, place by place
abbrev pub alone_in : PairTally → List ℕ → List ℕ → PairTally
alone_in t tags left = fold (λ r p. alone_at r p.0 p.1) t (zip tags left)

-- a leg that is left over is a loner if it has contracts open
abbrev pub all_alone : PairTally → List Leg → PairTally
all_alone t [] = t
all_alone t (x ∷ xs) = all_alone (alone_with t x.bought x.size) xs

abbrev pub joined_tallies : PairTally → PairTally → PairTally
joined_tallies a b = record { pairs = a.pairs + b.pairs; debit = a.debit || b.debit; credit = a.credit || b.credit }

-- 1 debit, 2 credit, 0 undetermined
abbrev pub tally_class : PairTally → ℕ
tally_class t = cond t.credit (cond t.debit 0 2) 1
