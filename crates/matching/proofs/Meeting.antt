-- What a match takes from the other side is what the figure gains.
use mathlib.Core.Path.{◌≡◌, refl, sym, ap, ◌∙◌}
use mathlib.Core.List.{List}
use mathlib.Core.Bool.{Bool, not}
use Prim.Native.Nat.{ℕ, ◌≤◌, ◌<◌, ◌-◌, ◌+◌}
use native.Mathlib.Omega.{arith}
use lib.IntN.{ℤ, nat_abs}
use lib.ListN.{length, get_or, set}
use borrow.Author.Tests.{ne_eqb}
use Rattle.std.proofs.lemmas.Int.{ints}
use mir.Syntax.{w64}
use mir.Val.{to_z, of_z}
use Rattle.rules.specs.OpenContracts.{sign, adjusted}
use Rattle.keys.specs.Tags.{is_bought}
use Rattle.tagged.specs.declared.PairTally.{PairTally}
use Rattle.tagged.specs.declared.Step.{Step}
use Rattle.tagged.specs.Tags.{one_more, note_as, tally_of, matched_at, after_match, InSequence, Counts, Meets}
use Rattle.tagged.proofs.Signs.{adjusted_small}
use Rattle.tagged.proofs.Tagging.{matched_small, note_rising, counted_more}
use Rattle.tagged.proofs.Figures.{count_at, figure_bound, figure_held, rises, met_figure}

-- a match of some contracts is one more
some_noted : (t : PairTally) (d : Bool) (n : ℕ) → 1 ≤ n → one_more t d ≡ note_as t d n
some_noted t d n h = rw (ne_eqb n 0 (λ e. absurd (omega arith)))

module _ (tags left : List ℕ) (i at m : ℕ) (s : Step) (sequence : InSequence tags left) (within : at < length tags) where
  abbrev tx : ℕ
  tx = get_or tags i 0

  module _ (matched : matched_at tx m (get_or tags at 0) (get_or left at 0) ≡ m) where
    pub few : m ≤ get_or left at 0
    few = rw matched at (matched_small tx m (get_or tags at 0) (get_or left at 0)).1

    pub few_all : m ≤ 10000
    few_all = omega (arith, few, count_at tags left sequence at within)

    module _ (counts : Counts tags left i (i + 1) s.figure) where
      pub figure_small : nat_abs s.figure ≤ 160000
      figure_small = figure_bound tags left sequence i (i + 1) s.figure counts

      pub figure_read : to_z w64 (of_z w64 s.figure) ≡ s.figure
      figure_read = figure_held tags left sequence i (i + 1) s.figure counts

      -- the figure after the match, as the code reads it
      pub gained : to_z w64 (of_z w64 (adjusted s.figure (sign (is_bought tx)) m)) ≡ adjusted s.figure (sign (is_bought tx)) m
      gained = omega (arith, ints, adjusted_small s.figure (is_bought tx) m, figure_small, few_all)

      pub leaves : i < at → 1 ≤ m
          → Meets tags left (set left at (get_or left at 0 - m)) i at m s (after_match s (not (is_bought tx)) (adjusted s.figure (sign (is_bought tx)) m))
      leaves before some = record {
        rest = refl;
        tally =
            counted_more s.debits s.credits (not (is_bought tx))
            ∙ some_noted (tally_of s) (not (is_bought tx)) m some
            ∙ note_rising (tally_of s) tx (get_or tags at 0) m (rises tags left sequence i at before within);
        figure = λ root second.
            ap (λ (z : ℤ). adjusted z (sign (is_bought tx)) m) (counts root second)
            ∙ met_figure tags left sequence second root i at m m before within (sym matched);
        group = refl;
      }
