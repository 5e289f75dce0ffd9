-- What a crossing quote with the number 0 executes.
use mathlib.Core.Path.{◌≡◌, refl, sym, ap, ◌∙◌}
use mathlib.Core.Logic.{◌⊎◌, inl, inr, ⊎_elim}
use mathlib.Core.List.{List, ◌++◌}
use mathlib.Core.Bool.{Bool, true, false, cond, ◌||◌}
use Prim.Native.Nat.{ℕ, ◌+◌, ◌-◌, ◌≤◌, ◌<◌}
use native.Mathlib.Omega.{arith}
use lib.ListN.{length, get_or, replicate, length-append, length-replicate, get_or-eq_default}
use lib.Dec.{eqb, ltb}
use borrow.Author.Tests.{eqb-true, eqb-false, ne_eqb, ltb-true, ltb-false, not-true, not-false}
use Rattle.rules.specs.declared.Mills.{Mills}
use Rattle.rules.specs.Lists.{total}
use Rattle.rules.specs.Market.{is_missing, at_or_past}
use Rattle.rules.specs.Crossing.{Crossing, is_bought, may_fill, crossing_fills, is_booked, execution}
use Rattle.rules.proofs.Tests.{and_both, and_of, or_either, or_neither}
use Rattle.rules.proofs.Executing.{total_fills, length_fills}
use Rattle.crossing_theorems.specs.Crossed.{Better, AtOrBetter, Good, MayFill, Executes, price_at}
use Rattle.crossing_theorems.proofs.Lists.{zeros_total, zeros_at}
use Rattle.crossing_theorems.proofs.Sides.{past_best, best_past, past_better, better_than_best, never_both, better_best, same_best}
use Rattle.crossing_theorems.proofs.Fills.{fills_small, fills_may, fills_ahead, fills_left}

-- ---- what may be filled, and what is booked

module _ (bought : Bool) (price away : Mills) where
  may_fill_lem : (p : ℕ) → may_fill bought price away p ≡ true → MayFill bought price.0 away.0 p
  unfolding may_fill
  may_fill_lem p h =
      let k = and_both (at_or_past bought price.0 p) _ h in
      record {
        quote = past_best bought price.0 p k.0;
        away = λ some. past_best bought away.0 p (ap (λ (b : Bool). b || at_or_past bought away.0 p) (sym (ne_eqb away.0 0 some)) ∙ k.1);
      }

  fill_may : (p : ℕ) → MayFill bought price.0 away.0 p → may_fill bought price away p ≡ true
  unfolding may_fill
  fill_may p h = and_of (best_past bought price.0 p h.quote) (go (is_missing away) refl)
    where
      go : (b : Bool) → is_missing away ≡ b → b || at_or_past bought away.0 p ≡ true
      go true e = refl
      go false e = best_past bought away.0 p (h.away (eqb-false away.0 0 e))

  -- what may be filled at a price may be filled at a better one
  may_better : (p q : ℕ) → Better bought q p → may_fill bought price away p ≡ true → may_fill bought price away q ≡ true
  may_better p q b h =
      let k = may_fill_lem p h in
      fill_may q (record { quote = better_than_best bought q p price.0 b k.quote; away = λ some. better_than_best bought q p away.0 b (k.away some) })

  books : is_booked bought price away ≡ true → (away.0 ≡ 0) ⊎ Better bought price.0 away.0
  unfolding is_booked
  books h = ⊎_elim (λ e. inl (eqb-true away.0 0 e)) (λ e. inr (past_better bought price.0 away.0 (not-true _ e))) (or_either (is_missing away) _ h)

  cancels : is_booked bought price away ≡ false → (away.0 ≡ 0 → ⊥) × AtOrBetter bought away.0 price.0
  unfolding is_booked
  cancels h = let k = or_neither (is_missing away) _ h in (eqb-false away.0 0 k.0, past_best bought price.0 away.0 (not-false _ k.1))

-- ---- the whole

module _ (room : ℕ) (price : Mills) (c : Crossing) (g : Good room c) where
  abbrev bought : Bool
  bought = is_bought c

  abbrev may : ℕ → Bool
  may = may_fill bought price c.away

  abbrev fs : List ℕ
  fs = crossing_fills price c

  abbrev remainder : ℕ
  remainder = c.size - total fs

  abbrev zeros : List ℕ
  zeros = replicate (room - length fs) 0

  abbrev booked : Bool
  booked = is_booked bought price c.away

  -- a better price stands ahead
  ahead : (i j : ℕ) → j < length c.prices → Better bought (price_at c j) (price_at c i) → j < i
  ahead i j l b = go (ltb j i) refl (eqb i j) refl
    where
      go : (s : Bool) → ltb j i ≡ s → (t : Bool) → eqb i j ≡ t → j < i
      go true e t f = ltb-true j i e
      go false e true f = absurd (never_both bought (price_at c j) (price_at c i) b (same_best bought (price_at c i) (price_at c j) (ap (price_at c) (eqb-true i j f))))
      go false e false f =
          let k : i < j = omega (arith, ltb-false j i e, eqb-false i j f) in
          absurd (never_both bought (price_at c j) (price_at c i) b (better_best bought (price_at c i) (price_at c j) (g.sequence i j k l)))

  -- something is booked or cancelled, of what is left of the size
  parts : (b : Bool) → total fs ≤ c.size → total fs + cond b remainder 0 + cond b 0 remainder ≡ c.size
  parts true h = omega arith
  parts false h = omega arith

  some_left : (b : Bool) → 0 < cond b remainder 0 + cond b 0 remainder → total fs < c.size
  some_left true h = omega arith
  some_left false h = omega arith

  is_booked_lem : (b : Bool) → booked ≡ b → 0 < cond b remainder 0 → (cond b 0 remainder ≡ 0) × ((c.away.0 ≡ 0) ⊎ Better bought price.0 c.away.0)
  is_booked_lem true e h = (refl, books bought price c.away e)
  is_booked_lem false e h = absurd (omega arith)

  is_cancelled : (b : Bool) → booked ≡ b → 0 < cond b 0 remainder → (cond b remainder 0 ≡ 0) × (c.away.0 ≡ 0 → ⊥) × AtOrBetter bought c.away.0 price.0
  is_cancelled true e h = absurd (omega arith)
  is_cancelled false e h = let k = cancels bought price c.away e in (refl, k.0, k.1)

  pub executes : Executes price.0 c room (execution room price c)
  unfolding execution
  executes =
      let long : length fs ≡ length c.prices = length_fills may c.size c.prices c.sizes g.sized in
      let at : (i : ℕ) → get_or (fs ++ zeros) i 0 ≡ get_or fs i 0 = zeros_at fs (room - length fs) in
      record {
        lent = let h = g.lent in length-append fs zeros ∙ ap (λ (n : ℕ). length fs + n) (length-replicate (room - length fs) 0) ∙ omega (arith, long, h);
        beyond = λ i h. at i ∙ get_or-eq_default fs 0 (omega (arith, long, h));
        sum = sym (zeros_total fs (room - length fs));
        whole = parts booked (total_fills may c.size c.prices c.sizes);
        sizes = λ i. rw (at i) (fills_small may c.size c.prices c.sizes i);
        prices = λ i h. may_fill_lem bought price c.away (price_at c i) (fills_may may c.size c.prices c.sizes i (rw (at i) at h));
        first = λ i j k b h.
            let f : 0 < get_or fs i 0 = rw (at i) at h in
            at j ∙ fills_ahead may c.size c.prices c.sizes i j (ahead i j k b) f (may_better bought price c.away (price_at c i) (price_at c j) b (fills_may may c.size c.prices c.sizes i f));
        remainder = λ h i l m. at i ∙ fills_left may c.size c.prices c.sizes g.sized (some_left booked h) i l (fill_may bought price c.away (price_at c i) m);
        booked = is_booked_lem booked refl;
        cancelled = is_cancelled booked refl;
      }
