-- Fills cleared and made place by place; and the furthest price that may be filled.
use mathlib.Core.Path.{◌≡◌, refl, sym, ap, ◌∙◌}
use mathlib.Core.List.{List, [], ◌∷◌, ◌++◌}
use mathlib.Core.Bool.{Bool, true, false, not, ◌&&◌, ◌||◌}
use Prim.Native.Nat.{ℕ, ◌+◌, ◌-◌, ◌≤◌, ◌<◌}
use native.Mathlib.Omega.{arith}
use native.Mathlib.Numerals.{add-one}
use lib.ListN.{length, take, drop, get_or, set, take-append-drop}
use lib.Seq.{take_all, take-suc, take-suc-set, drop-cons, drop-set-lt}
use borrow.Author.Tests.{leb-true, leb-false, le-leb}
use Rattle.rules.specs.declared.Mills.{Mills}
use Rattle.rules.specs.Lists.{total}
use Rattle.rules.specs.Market.{is_missing, at_or_past}
use Rattle.rules.specs.Crossing.{may_fill, fill_of, fills_of, is_booked}
use Rattle.rules.proofs.Tests.{and_both, and_of, and_true, same_test}
use Rattle.rules.proofs.Executing.{fill_small, length_fills}
use Rattle.laws.proofs.Lists.{total_append}
use Rattle.loops.proofs.Filling.{rest_same}
use Rattle.execution.specs.Bounds.{furthest}

-- ---- filled

-- the first `i` places are filled, the others as they were, and `left` is what the rest of the list may fill
pub record FilledTo (may : ℕ → Bool) (size : ℕ) (ps ns before fills : List ℕ) (left i : ℕ) : Type 0 where
  pub done : take i fills ≡ take i (fills_of may size ps ns)
  pub others : drop i fills ≡ drop i before
  pub rest : drop i (fills_of may size ps ns) ≡ fills_of may left (drop i ps) (drop i ns)
  pub sum : total (take i (fills_of may size ps ns)) + left ≡ size

module _ (may : ℕ → Bool) (size : ℕ) (ps ns before : List ℕ) where
  pub filled_none : FilledTo may size ps ns before before size 0
  unfolding total
  filled_none = record { done = refl; others = refl; rest = refl; sum = omega arith }

  module _ (same : length ns ≡ length ps) {fills : List ℕ} {left i : ℕ} (so : FilledTo may size ps ns before fills left i) where
    abbrev all : List ℕ
    all = fills_of may size ps ns

    module _ (more : i < length ps) {f : ℕ} (e : f ≡ fill_of may left (get_or ps i 0) (get_or ns i 0)) where
      -- the fill at `i`, and those behind it
      next : drop i all ≡ f ∷ fills_of may (left - f) (drop (i + 1) ps) (drop (i + 1) ns)
      unfolding fills_of
      next = so.rest ∙ rw (add-one, drop-cons ps i 0 more, drop-cons ns i 0 (omega (arith, same)), e) refl

      here : get_or all i 0 ≡ f
      here = cc (next, drop-cons all i 0 (omega (arith, length_fills may size ps ns same)))

      behind : drop (i + 1) all ≡ fills_of may (left - f) (drop (i + 1) ps) (drop (i + 1) ns)
      behind = ap (λ (n : ℕ). drop n all) (add-one i) ∙ cc (next, drop-cons all i 0 (omega (arith, length_fills may size ps ns same)))

      pub fill_fits : f ≤ left
      fill_fits = rw e (fill_small (may (get_or ps i 0)) left (get_or ns i 0)).0

      one_more : take (i + 1) all ≡ take i all ++ (f ∷ [])
      one_more = rw add-one (take-suc all i 0 (omega (arith, length_fills may size ps ns same)) ∙ ap (λ (f : ℕ). take i all ++ (f ∷ [])) here)

      pub filled_turn : i < length before → i < length fills → FilledTo may size ps ns before (set fills i f) (left - f) (i + 1)
      unfolding total
      filled_turn old new =
          record {
            done = rw add-one (take-suc-set fills i f new) ∙ ap (λ (xs : List ℕ). xs ++ (f ∷ [])) so.done ∙ sym one_more;
            others = drop-set-lt (i + 1) fills i f (omega arith) ∙ rest_same 0 before fills i old new so.others;
            rest = behind;
            sum = let a = ap total one_more ∙ total_append (take i all) (f ∷ []) in let b = so.sum in let c = fill_fits in omega (arith, a, b, c);
          }

    module _ (over : length ps ≤ i) (here : i ≤ length ps) where
      whole : take i all ≡ all
      whole = take_all i all (omega (arith, length_fills may size ps ns same))

      pub filled_left : left ≡ size - total all
      filled_left = let a = ap total whole in let b = so.sum in omega (arith, a, b)

      pub filled_all : fills ≡ all ++ drop (length ps) before
      filled_all = let k : i ≡ length ps = omega arith in sym (take-append-drop i fills) ∙ ap (λ (xs : List ℕ). xs ++ drop i fills) (so.done ∙ whole) ∙ ap (λ (xs : List ℕ). all ++ xs) (so.others ∙ ap (λ (n : ℕ). drop n before) k)

-- ---- the furthest price

past_past : (bought : Bool) (x y z : ℕ) → at_or_past bought x y ≡ true → at_or_past bought y z ≡ true → at_or_past bought x z ≡ true
past_past true x y z h k = let a = leb-true y x h in let b = leb-true z y k in le-leb z x (omega arith)
past_past false x y z h k = let a = leb-true x y h in let b = leb-true y z k in le-leb x z (omega arith)

past_short : (bought : Bool) (x y z : ℕ) → at_or_past bought x y ≡ false → at_or_past bought x z ≡ true → at_or_past bought y z ≡ true
past_short true x y z h k = let a = leb-false y x h in let b = leb-true z x k in le-leb z y (omega arith)
past_short false x y z h k = let a = leb-false x y h in let b = leb-true x z k in le-leb y z (omega arith)

-- where the remainder is cancelled, what is within reach of the away price is within reach of the quote's own
module _ (bought : Bool) (price away : Mills) where
  pub may_fill_at : (p : ℕ) → may_fill bought price away p ≡ at_or_past bought (furthest (is_booked bought price away) price away).0 p
  unfolding may_fill is_booked
  may_fill_at p = go (is_missing away) (at_or_past bought price.0 away.0) refl
    where
      own : Bool
      own = at_or_past bought price.0 p

      far : Bool
      far = at_or_past bought away.0 p

      go : (a b : Bool) → at_or_past bought price.0 away.0 ≡ b → own && (a || far) ≡ at_or_past bought (furthest (a || not b) price away).0 p
      go true b e = and_true own
      go false true e = same_test (own && (false || far)) far (λ h. (and_both own far h).1) (λ h. and_of (past_past bought price.0 away.0 p e h) h)
      go false false e = same_test (own && (false || far)) own (λ h. (and_both own far h).0) (λ h. and_of h (past_short bought price.0 away.0 p e h))
