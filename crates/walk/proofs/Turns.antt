-- The search of the leg at `i`: what its loop still has to meet, after what it has met, gives what the definition gives;
-- the figure is what is open.
use mathlib.Core.Path.{◌≡◌, refl, sym, ap, ◌∙◌}
use mathlib.Core.Logic.{◌⊎◌, inl, inr}
use mathlib.Core.List.{List}
use mathlib.Core.Bool.{Bool, true, false}
use Prim.Native.Nat.{ℕ, ◌≤◌, ◌-◌, ◌<◌, ◌+◌, min}
use native.Mathlib.Nat.{pos_of_ne-zero}
use native.Mathlib.Omega.{arith}
use lib.ListN.{length, get_or, set}
use lib.Dec.{eqb}
use borrow.Author.Tests.{eqb-true, eqb-false}
use Rattle.rules.specs.OpenContracts.{sign, shows_other, open_contracts}
use Rattle.open_contracts.proofs.Searching as searching
use Rattle.open_contracts.proofs.Searching.{Searching}
use Rattle.keys.specs.Tags.{is_bought, leg_at}
use Rattle.tagged.specs.declared.PairTally.{PairTally}
use Rattle.tagged.specs.declared.Step.{Step}
use Rattle.tagged.specs.Tags.{together, matched_at, tally_of, InSequence, Counts, OneSideOpen, Meets, Reaches, legs_from_on, series_in}
use Rattle.tagged.proofs.Tagging.{matched_again, note_few}
use Rattle.tagged.proofs.Numbered.{tag_at_small, inner, inner_turn, inner_skip, inner_legs, inner_tally}
use Rattle.tagged.proofs.Figures.{sequence_set, count_at, put_before, inside, meets, passed, met}

-- what the loop keeps: `left₀` and `s` as the search began, `left` and `r` now, with `x` contracts left and `j` next
pub record Turned (tags left₀ left : List ℕ) (i : ℕ) (s r : Step) (x j : ℕ) : Type 0 where
  pub same : (root : ℕ) (second : Bool) → inner tags second root left (tally_of r) (get_or tags i 0) x j ≡ inner tags second root left₀ (tally_of s) (get_or tags i 0) (get_or left₀ i 0) (i + 1)
  pub searching : (root : ℕ) (second : Bool) → Searching (together second) (leg_at root second (get_or tags i 0) x) (legs_from_on root tags left second (i + 1)) (legs_from_on root tags left second j) r.figure
  pub sequence : InSequence tags left
  pub past : i < j
  pub within : j ≤ length tags
  pub few : x ≤ 10000
  pub pairs : r.debits + r.credits + i < s.debits + s.credits + j
  pub group : r.group ≡ s.group

pub begins : (tags left : List ℕ) (i : ℕ) (s : Step) → InSequence tags left → i < length tags → Counts tags left i (i + 1) s.figure → OneSideOpen tags left i
    → Turned tags left left i s s (get_or left i 0) (i + 1)
begins tags left i s q h counts one = record {
  same = λ root second. refl;
  searching = λ root second. searching.start (together second) (leg_at root second (get_or tags i 0) (get_or left i 0)) (legs_from_on root tags left second (i + 1)) s.figure (counts root second) (one root second);
  sequence = q;
  past = omega arith;
  within = omega arith;
  few = count_at tags left q i h;
  pairs = omega arith;
  group = refl;
}

module _ {tags left₀ left : List ℕ} {i : ℕ} {s r : Step} {x j : ℕ} (h : i < length tags) (v : Turned tags left₀ left i s r x j) where
  abbrev tx : ℕ
  tx = get_or tags i 0

  abbrev y : ℕ
  y = get_or left j 0

  -- the figure counts what is open behind the leg
  pub counted : Counts tags left i (i + 1) r.figure
  counted root second = (v.searching root second).figure

  -- no leg is behind: the leg has nothing left, or the figure does not show the other side
  pub none_behind : length tags ≤ j → (x ≡ 0) ⊎ (shows_other r.figure (sign (is_bought tx)) ≡ false)
  none_behind l = go (eqb x 0) refl (shows_other r.figure (sign (is_bought tx))) refl
    where
      go : (b : Bool) → eqb x 0 ≡ b → (shows : Bool) → shows_other r.figure (sign (is_bought tx)) ≡ shows → (x ≡ 0) ⊎ (shows_other r.figure (sign (is_bought tx)) ≡ false)
      go true e shows f = inl (eqb-true x 0 e)
      go false e false f = inr f
      go false e true f = absurd (omega (arith, inside tags left v.sequence false 0 i h x j r.figure (v.searching 0 false) (pos_of_ne-zero (eqb-false x 0 e)) f v.within))

  -- the leg that is met
  module _ (met_within : j < length tags) (some : 0 < x) (shown : shows_other r.figure (sign (is_bought tx)) ≡ true) where
    all_met : matched_at tx x (get_or tags j 0) y ≡ min x y
    all_met = meets tags left v.sequence false 0 i h x j r.figure (v.searching 0 false) some shown v.past met_within

    module _ {m : ℕ} (smaller : m ≡ min x y) where
      matched : m ≡ matched_at tx x (get_or tags j 0) y
      matched = smaller ∙ sym all_met

      pub again : matched_at tx m (get_or tags j 0) y ≡ m
      again = matched_again tx x (get_or tags j 0) y m matched

      pub turned : {after : List ℕ} {z : Step} → Meets tags left after i j m r z → Turned tags left₀ after i s z (x - m) (j + 1)
      turned {after} {z} e =
          let small = tag_at_small tags v.sequence.small i h in
          let few : y - m ≤ 10000 = omega (arith, count_at tags left v.sequence j met_within) in
          let more = note_few (tally_of r) tx (get_or tags j 0) m in record {
            same = λ root second.
                rw e.rest
                (inner_turn tags v.sequence.small second root left (tally_of r) (tally_of z) tx x j m v.sequence.long small met_within matched e.tally
                ∙ v.same root second);
            searching = λ root second. rw e.rest (met tags left v.sequence second root i j x m v.past met_within matched r.figure z.figure (v.searching root second) (rw e.rest at (e.figure root second)));
            sequence = rw e.rest (sequence_set tags left v.sequence j (y - m) few);
            past = omega (arith, v.past);
            within = omega (arith, met_within);
            few = omega (arith, v.few);
            pairs = omega (arith, ap (λ (t : PairTally). t.pairs) e.tally, more, v.pairs);
            group = e.group ∙ v.group;
          }

      -- the leg has nothing left
      pub skipped : m ≡ 0 → Turned tags left₀ left i s r x (j + 1)
      skipped e =
          let none : y ≡ 0 = omega arith in
          let small = tag_at_small tags v.sequence.small i h in record {
            same = λ root second. inner_skip tags v.sequence.small second root left (tally_of r) tx x j v.sequence.long small met_within (sym matched ∙ e) ∙ v.same root second;
            searching = λ root second. passed tags left v.sequence second root i h x j r.figure (v.searching root second) met_within none;
            sequence = v.sequence;
            past = omega (arith, v.past);
            within = omega (arith, met_within);
            few = v.few;
            pairs = omega (arith, v.pairs);
            group = v.group;
          }

  -- the leg has nothing left, or the figure shows nothing more of the other side
  module _ (full₀ : length left₀ ≡ length tags) (ended : (x ≡ 0) ⊎ (shows_other r.figure (sign (is_bought tx)) ≡ false)) where
    pub reaches : Reaches tags left₀ (set left i x) i (tally_of s) (tally_of r)
    reaches =
        let q = v.sequence in record {
          legs = λ root second. inner_legs tags q.small second root left₀ left full₀ (tally_of s) (tally_of r) x i j h (searching.stop (together second) (v.searching root second) ended) (v.same root second);
          tally = λ root second. inner_tally tags q.small second root left₀ left full₀ (tally_of s) (tally_of r) x i j h (searching.stop (together second) (v.searching root second) ended) (v.same root second);
          few = omega (arith, v.pairs, v.within, q.few);
          sequence = sequence_set tags left q i x v.few;
        }

  pub counts : Counts tags (set left i x) i (i + 1) r.figure
  counts root second = counted root second ∙ ap (open_contracts (together second) (series_in tags second i)) (sym (put_before tags left v.sequence second root i x h))
