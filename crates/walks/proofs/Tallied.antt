-- Pairs and loners in one tally: its number and its flags say what the definition says of them.
use mathlib.Core.Path.{◌≡◌, refl, sym, ap, ◌∙◌}
use mathlib.Core.List.{List, [], ◌∷◌}
use mathlib.Core.Bool.{Bool, true, false, cond, ◌&&◌, ◌||◌, not}
use Prim.Native.Nat.{ℕ, ◌+◌}
use native.Mathlib.Nat.{add-zero, zero-add}
use native.Mathlib.Omega.{arith}
use lib.ListN.{length}
use lib.Dec.{eqb}
use Rattle.rules.specs.declared.Leg.{Leg}
use Rattle.rules.specs.Lists.{same_bool, all}
use Rattle.rules.specs.Pairing.{Pair, Walked, is_debit}
use Rattle.rules.specs.Class.{all_of, pair_class}
use Rattle.rules.proofs.Tests.{or_false}
use Rattle.tagged.specs.declared.PairTally.{PairTally}
use Rattle.tagged.specs.Tags.{one_more, none, noted}
use Rattle.loners.specs.Tallies.{alone_with, all_alone, joined_tallies, tally_class}
use Rattle.walks.specs.Both.{tallied}

-- a pair of this side, and a leg of this side or with nothing open: true is the debit side
abbrev pair_on : Bool → Pair → Bool
pair_on side m = same_bool side (is_debit m.buy m.sell)

abbrev pub on_side : Bool → Leg → Bool
on_side side l = eqb l.size 0 || same_bool side l.bought

-- the tally of `n` pairs where `on` tells of each side if all is on it
abbrev pub said : ℕ → (Bool → Bool) → PairTally
said n on = record { pairs = n; debit = not (on false); credit = not (on true) }

-- a flag says that something is of the other side: one pair or leg more, which does not count where it is void, and the rest
flag : (c void s a : Bool) → (c || not void && not s) || not a ≡ c || not ((void || s) && a)
flag true void s a = refl
flag false true s a = refl
flag false false true a = refl
flag false false false a = refl

-- the same of the whole tally: side and void of the one more, and what `on` tells of the rest
more : (t : PairTally) (k m n : ℕ) (void d : Bool) (on : Bool → Bool) → k + n ≡ t.pairs + m
    → joined_tallies (record { pairs = k; debit = t.debit || not void && d; credit = t.credit || not void && not d }) (said n on) ≡ joined_tallies t (said m (λ side. (void || same_bool side d) && on side))
more t k m n void true on h = λ i. record { pairs = h i; debit = flag t.debit void false (on false) i; credit = flag t.credit void true (on true) i }
more t k m n void false on h = λ i. record { pairs = h i; debit = flag t.debit void true (on false) i; credit = flag t.credit void false (on true) i }

nothing : (t : PairTally) → t ≡ joined_tallies t (said 0 (λ side. true))
nothing t = λ i. record { pairs = sym (add-zero t.pairs) i; debit = sym (or_false t.debit) i; credit = sym (or_false t.credit) i }

-- what pairs, legs and a walk add to a tally
pub pairs_said : (t : PairTally) (ms : List Pair) → noted t ms ≡ joined_tallies t (said (length ms) (λ side. all (pair_on side) ms))
unfolding all
pairs_said t [] = nothing t
pairs_said t (m ∷ ms) =
    let d = is_debit m.buy m.sell in
    pairs_said (one_more t d) ms ∙ more t (t.pairs + 1) (length (m ∷ ms)) (length ms) false d (λ side. all (pair_on side) ms) (omega arith)

pub legs_said_lem : (t : PairTally) (ls : List Leg) → all_alone t ls ≡ joined_tallies t (said 0 (λ side. all (on_side side) ls))
unfolding all
legs_said_lem t [] = nothing t
legs_said_lem t (l ∷ ls) = legs_said_lem (alone_with t l.bought l.size) ls ∙ more t t.pairs 0 0 (eqb l.size 0) l.bought (λ side. all (on_side side) ls) refl

walk_said : (t : PairTally) (w : Walked) → all_alone (noted t w.pairs) w.legs ≡ joined_tallies t (said (length w.pairs) (λ side. all_of side w))
unfolding all_of
walk_said t w =
    let on : (c side : Bool) → (c || not (all (pair_on side) w.pairs)) || not (all (on_side side) w.legs) ≡ c || not (all_of side w) = λ c side. flag c false (all (pair_on side) w.pairs) (all (on_side side) w.legs) in
    legs_said_lem (noted t w.pairs) w.legs
    ∙ ap (λ (x : PairTally). joined_tallies x (said 0 (λ side. all (on_side side) w.legs))) (pairs_said t w.pairs)
    ∙ (λ i. record { pairs = add-zero (t.pairs + length w.pairs) i; debit = on t.debit false i; credit = on t.credit true i })

pub tallied_said : (w : Walked) → tallied w ≡ said (length w.pairs) (λ side. all_of side w)
tallied_said w = walk_said none w ∙ ap (λ (n : ℕ). said n (λ side. all_of side w)) (zero-add (length w.pairs))

pub joined_walk : (t : PairTally) (w : Walked) → joined_tallies t (tallied w) ≡ all_alone (noted t w.pairs) w.legs
joined_walk t w = ap (joined_tallies t) (tallied_said w) ∙ sym (walk_said t w)

-- the class by the flags is the class by the pairs and the loners
pub class_tallied : (w : Walked) → tally_class (tallied w) ≡ pair_class w
unfolding pair_class
class_tallied w = ap tally_class (tallied_said w) ∙ go (all_of true w) (all_of false w)
  where
    go : (p q : Bool) → ◌≡◌ {A = ℕ} (cond (not p) (cond (not q) 0 2) 1) (cond p 1 (cond q 2 0))
    go true q = refl
    go false true = refl
    go false false = refl
