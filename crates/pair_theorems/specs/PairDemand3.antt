-- What demand 3 says of the sequence of legs, of both orders of a pair. Document 02, S-2: "Exchanging two legs inside either order must leave the pair's outcome as it was."
use Rattle.std.specs.Prelude.{◌≡◌, List, ◌∷◌, ◌++◌, false, ℕ, length}
use Rattle.rules.specs.declared.Settings.{Settings}
use Rattle.rules.specs.declared.Market.{Market}
use Rattle.rules.specs.Lists.{All, Perm}
use Rattle.rules.specs.Order.{Lent, symbols_of, counts_of}
use Rattle.rules.specs.Numbers.{are_whole}
use Rattle.rules.specs.Pair.{PairOrder, check_pair}
use Rattle.demand3.specs.Demand3.{IsWhole}

-- an order with other slices, alike in price, kind, flags and shares
abbrev pub holding : PairOrder → List ℕ → List ℕ → PairOrder
holding o symbols counts = record { symbols = symbols; counts = counts; price = o.price; kind = o.kind; stop = o.stop; manual = o.manual; opening = o.opening; shares = o.shares }

abbrev pub of_legs : PairOrder → List Lent → PairOrder
of_legs o xs = holding o (symbols_of xs) (counts_of xs)

-- two arrivals of one order, "refused ones included, and in whatever other sequence its legs come"
pub data Rearranged : PairOrder → PairOrder → Type 0 where
  -- any number of whole legs, damaged ones too
  legs : (o : PairOrder) (xs ys : List Lent) → All IsWhole xs → Perm xs ys → Rearranged (of_legs o xs) (of_legs o ys)
  -- slices that do not divide into legs have no other sequence of legs: any others of the same two lengths are taken for a second arrival
  broken : (o : PairOrder) (s t c d : List ℕ) → length s ≡ length t → length c ≡ length d → are_whole s c ≡ false → Rearranged (holding o s c) (holding o t d)

pub record PairDemand3 : Type 0 where
  -- both numbers, and which order passes
  pub same : (st : Settings) (m : Market) (unpaired : ℕ) (agency agency' contra contra' : PairOrder) → Rearranged agency agency' → Rearranged contra contra'
      → check_pair st m unpaired agency contra ≡ check_pair st m unpaired agency' contra'
  -- so too where one of the two comes as it was: every order is an arrival of itself
  pub itself : (o : PairOrder) → Rearranged o o
  -- "Exchanging two legs"
  pub exchanged : (o : PairOrder) (front middle back : List Lent) (x y : Lent) → All IsWhole (front ++ (x ∷ (middle ++ (y ∷ back))))
      → Rearranged (of_legs o (front ++ (x ∷ (middle ++ (y ∷ back))))) (of_legs o (front ++ (y ∷ (middle ++ (x ∷ back)))))
