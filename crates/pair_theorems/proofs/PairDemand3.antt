-- Both orders' own numbers are demand 3's, and the answer to a pair is of these numbers alone.
use mathlib.Core.Path.{◌≡◌, refl, ap, ap₂}
use mathlib.Core.Bool.{Bool, true, false}
use Prim.Native.Nat.{ℕ}
use Rattle.rules.specs.declared.Settings.{Settings}
use Rattle.rules.specs.declared.Market.{Market}
use Rattle.rules.specs.declared.OrderAnswer.{OrderAnswer}
use Rattle.rules.specs.Numbers.{are_whole}
use Rattle.rules.specs.Pair.{PairOrder, inputs_for, own_number, paired, check_pair}
use Rattle.laws.proofs.Sorting.{perm_refl, exchange}
use Rattle.demand3.proofs.Demand3.{demand3}
use Rattle.pair_theorems.specs.PairDemand3.{of_legs, Rearranged, legs, broken, PairDemand3}

abbrev number : OrderAnswer → ℕ
number r = r.number

own : (st : Settings) (m : Market) {o p : PairOrder} → Rearranged o p → own_number st m o ≡ own_number st m p
own st m (legs o xs ys w q) = ap number (demand3.whole (inputs_for st m o) xs ys w q).same
own st m (broken o s t c d e f h) = ap number (demand3.broken (inputs_for st m o) s t c d e f h)

same : (st : Settings) (m : Market) (unpaired : ℕ) (agency agency' contra contra' : PairOrder) → Rearranged agency agency' → Rearranged contra contra'
    → check_pair st m unpaired agency contra ≡ check_pair st m unpaired agency' contra'
unfolding check_pair
same st m unpaired agency agency' contra contra' a c = ap₂ (paired unpaired) (own st m a) (own st m c)

itself : (o : PairOrder) → Rearranged o o
itself o = go (are_whole o.symbols o.counts) refl
  where
    go : (b : Bool) → are_whole o.symbols o.counts ≡ b → Rearranged o o
    go true e =
        let k = demand3.covers o.symbols o.counts e in
        let xs = k.0 in
        let r : Rearranged (of_legs o xs) (of_legs o xs) = legs o xs xs k.1 (perm_refl xs) in
        rw (k.2, k.3) at r
    go false e = broken o o.symbols o.symbols o.counts o.counts refl refl e

pub pair_demand3 : PairDemand3
pair_demand3 = record { same = same; itself = itself; exchanged = λ o front middle back x y w. legs o _ _ w (exchange front middle back x y) }
