-- What does not get 36, in plain comparisons: the list's length, its sequence, and limits of prices and sizes.
use mathlib.Core.Path.{◌≡◌, refl, sym, ap, ◌∙◌}
use mathlib.Core.Logic.{inl, inr, ⊎_elim}
use mathlib.Core.List.{List, [], ◌∷◌}
use mathlib.Core.Bool.{Bool, true, false, not, ◌||◌, or-true}
use Prim.Native.Nat.{ℕ, zero, suc, ◌<◌}
use native.Mathlib.Omega.{arith}
use lib.ListN.{length, get_or}
use borrow.Author.Tests.{eqb-true, eq-eqb, le-ltb, not-true, not-false}
use Rattle.rules.specs.Lists.{all}
use Rattle.rules.specs.Market.{is_missing, at_or_past}
use Rattle.rules.specs.Crossing.{Crossing, is_bought, is_price, is_size, leads, in_sequence, list_holds, are_bad_lengths, is_bad_crossing}
use Rattle.rules.proofs.Tests.{and_both, and_of, or_either, or_neither, or_of, within_both, both_within}
use Rattle.rules.proofs.Executing.{good_lengths}
use Rattle.crossing_theorems.specs.Crossed.{Better, IsPrice, Good}
use Rattle.crossing_theorems.proofs.Lists.{all_at, all_of}
use Rattle.crossing_theorems.proofs.Sides.{past_better, better_past, better_than_better}

-- ---- the sequence

module _ (bought : Bool) where
  lead : (p q : ℕ) (ps : List ℕ) → in_sequence bought (p ∷ q ∷ ps) ≡ true → Better bought p q × (in_sequence bought (q ∷ ps) ≡ true)
  unfolding in_sequence
  lead p q ps h = let k = and_both (not (at_or_past bought p q)) _ h in (past_better bought p q (not-true _ k.0), k.1)

  leads_all : (p : ℕ) (ps : List ℕ) → in_sequence bought (p ∷ ps) ≡ true → (j : ℕ) → j < length ps → Better bought p (get_or ps j 0)
  leads_all p [] h j l = absurd (omega arith)
  leads_all p (q ∷ ps) h zero l = (lead p q ps h).0
  leads_all p (q ∷ ps) h (suc j) l = let k = lead p q ps h in better_than_better bought p q (get_or ps j 0) k.0 (leads_all q ps k.1 j (omega arith))

  sequence_at : (ps : List ℕ) → in_sequence bought ps ≡ true → (i j : ℕ) → i < j → j < length ps → Better bought (get_or ps i 0) (get_or ps j 0)
  unfolding in_sequence
  sequence_at [] h i j l m = absurd (omega arith)
  sequence_at (p ∷ ps) h i zero l m = absurd (omega arith)
  sequence_at (p ∷ ps) h zero (suc j) l m = leads_all p ps h j (omega arith)
  sequence_at (p ∷ ps) h (suc i) (suc j) l m = sequence_at ps (and_both (leads bought p ps) _ h).1 i j (omega arith) (omega arith)

  sequence_of : (ps : List ℕ) → ((i j : ℕ) → i < j → j < length ps → Better bought (get_or ps i 0) (get_or ps j 0)) → in_sequence bought ps ≡ true
  unfolding in_sequence
  sequence_of [] h = refl
  sequence_of (p ∷ []) h = refl
  sequence_of (p ∷ q ∷ ps) h = and_of (ap not (better_past bought p q (h 0 1 (omega arith) (omega arith)))) (sequence_of (q ∷ ps) (λ i j l m. h (suc i) (suc j) (omega arith) (omega arith)))

-- ---- the whole

module _ (room : ℕ) (c : Crossing) where
  pub is_good : is_bad_crossing room c ≡ false → Good room c
  unfolding is_bad_crossing are_bad_lengths
  is_good h =
      let k = or_neither (are_bad_lengths room c.prices c.sizes) _ h in
      let l = good_lengths room c h in
      let n = or_neither (not (list_holds (is_bought c) c.prices c.sizes)) _ k.1 in
      let p = and_both (all is_price c.prices) _ (not-false _ n.0) in
      let q = and_both (all is_size c.sizes) _ p.1 in
      let r = or_neither (not (is_size c.size)) _ n.1 in
      record {
        long = l.1;
        lent = l.2;
        sized = l.0;
        prices = λ i k. within_both 1 1000000000 (get_or c.prices i 0) (all_at is_price c.prices p.0 i k);
        sizes = λ i k. within_both 1 1000000 (get_or c.sizes i 0) (all_at is_size c.sizes q.0 i (omega (arith, k, l.0)));
        sequence = sequence_at (is_bought c) c.prices q.1;
        size = within_both 1 1000000 c.size (not-false _ r.0);
        away = ⊎_elim (λ e. inl (eqb-true c.away.0 0 e)) (λ e. inr (within_both 1 1000000000 c.away.0 e)) (or_either (is_missing c.away) (is_price c.away.0) (not-false _ r.1));
      }

  pub is_not_bad : Good room c → is_bad_crossing room c ≡ false
  unfolding is_bad_crossing are_bad_lengths
  is_not_bad g =
      let sized = g.sized in
      or_of
      (or_of (ap not (eq-eqb (length c.prices) (length c.sizes) (sym sized))) (or_of (le-ltb 64 (length c.prices) g.long) (le-ltb room (length c.prices) g.lent)))
      (or_of
      (ap not
      (and_of (all_of is_price c.prices (λ i l. both_within 1 1000000000 (get_or c.prices i 0) (g.prices i l)))
      (and_of (all_of is_size c.sizes (λ i l. both_within 1 1000000 (get_or c.sizes i 0) (g.sizes i (omega (arith, l, sized))))) (sequence_of (is_bought c) c.prices g.sequence))))
      (or_of (ap not (both_within 1 1000000 c.size g.size)) (ap not (⊎_elim missing there g.away))))
    where
      missing : c.away.0 ≡ 0 → is_missing c.away || is_price c.away.0 ≡ true
      missing e = ap (λ (b : Bool). b || is_price c.away.0) (eq-eqb c.away.0 0 e)

      there : IsPrice c.away.0 → is_missing c.away || is_price c.away.0 ≡ true
      there h = ap (λ (b : Bool). is_missing c.away || b) (both_within 1 1000000000 c.away.0 h) ∙ or-true (is_missing c.away)
