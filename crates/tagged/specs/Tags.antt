-- A walk on numbers: each leg's tag, and the contracts that it still has open.
use Rattle.std.specs.Prelude.{◌≡◌, List, [], ◌∷◌, ◌++◌, Bool, false, cond, not, ◌&&◌, ◌||◌, ℕ, ◌+◌, ◌-◌, ◌/◌, ◌≤◌, ◌<◌, min, ℤ, length, take, drop, get_or, set, eqb, ltb}
use Rattle.rules.specs.declared.Series.{Series}
use Rattle.rules.specs.declared.Leg.{Leg}
use Rattle.rules.specs.Lists.{All, same_bool}
use Rattle.rules.specs.Pairing.{Pair, Reached, reach, walk, one_expiry, one_strike, is_debit}
use Rattle.rules.specs.OpenContracts.{open_on, open_contracts}
use Rattle.rules.specs.Order.{no_leg}
use Rattle.sorting.specs.Keys.{EachTwo}
use Rattle.keys.specs.Tags.{is_bought, group_of, series_at, legs_from}
use Rattle.tagged.specs.declared.PairTally.{PairTally}
use Rattle.tagged.specs.declared.Step.{Step}

-- which series are walked together
abbrev pub together : Bool → Series → Series → Bool
together second s t = cond second (one_strike s t) (one_expiry s t)

unfoldable pub matched_at : ℕ → ℕ → ℕ → ℕ → ℕ
matched_at tx x ty y = cond (eqb (group_of tx) (group_of ty) && not (same_bool (is_bought tx) (is_bought ty))) (min x y) 0

-- both walks go from the dearer series to the cheaper, and the latest walked has the least key: a pair is a debit where the buy has the greater key
abbrev pub debit_at : ℕ → ℕ → Bool
debit_at tx ty = cond (is_bought tx) (ltb (ty / 2) (tx / 2)) (ltb (tx / 2) (ty / 2))

abbrev pub one_more : PairTally → Bool → PairTally
one_more t d = record { pairs = t.pairs + 1; debit = t.debit || d; credit = t.credit || not d }

-- the tally after a match of `n` contracts: none where `n` is 0
abbrev pub note_as : PairTally → Bool → ℕ → PairTally
note_as t debit n = cond (eqb n 0) t (one_more t debit)

unfoldable pub note_at : PairTally → ℕ → ℕ → ℕ → PairTally
note_at t tx ty n = note_as t (debit_at tx ty) n

-- the tally of so many debits and credits
abbrev pub counted : ℕ → ℕ → PairTally
counted debits credits = record { pairs = debits + credits; debit = ltb 0 debits; credit = ltb 0 credits }

abbrev pub tally_of : Step → PairTally
tally_of s = counted s.debits s.credits

-- the step after a match: one debit or one credit more, and the figure as it is then
abbrev pub after_match : Step → Bool → ℤ → Step
after_match s debit f = record { debits = s.debits + cond debit 1 0; credits = s.credits + cond debit 0 1; group = s.group; figure = f }

-- the tally of no pair, and with further pairs
abbrev pub none : PairTally
none = record { pairs = 0; debit = false; credit = false }

abbrev pub noted : PairTally → List Pair → PairTally
noted t [] = t
noted t (m ∷ ms) = noted (one_more t (is_debit m.buy m.sell)) ms

-- ---- what a walk is given: the tags of either walk. What is promised of them holds with the legs that they say in the first walk, and with those that they say in the second.

-- at most sixteen legs in the walk's sequence, no series twice, and counts in their limit
pub record InSequence (tags left : List ℕ) : Type 0 where
  pub few : length tags ≤ 16
  pub long : length left ≡ length tags
  pub small : All (λ t. t < 40000000000000000) tags
  pub rising : EachTwo (λ a b. a / 2 < b / 2) tags
  pub counts : All (λ s. s ≤ 10000) left

-- ---- what a leg that is reached finds

-- the legs from `i` on: latest walked first, they are walked before those that stand before `i`
abbrev pub legs_from_on : ℕ → List ℕ → List ℕ → Bool → ℕ → List Leg
legs_from_on root tags left second i = drop i (legs_from root second tags left)

-- the series of the leg at `i`
abbrev pub series_in : List ℕ → Bool → ℕ → Series
series_in tags second i = series_at second (get_or tags i 0 / 2)

-- S-3's promise: the figure is the sum of the open contracts, bought less sold, of the legs from `from` on in the group of the leg at `i`
abbrev pub Counts : List ℕ → List ℕ → ℕ → ℕ → ℤ → Type 0
Counts tags left i from f = (root : ℕ) (second : Bool) → f ≡ open_contracts (together second) (series_in tags second i) (legs_from_on root tags left second from)

-- what is open in the group of the leg at `i`, of those behind it, is of one side
abbrev pub OneSideOpen : List ℕ → List ℕ → ℕ → Type 0
OneSideOpen tags left i =
    (root : ℕ) (second side : Bool) → let opened : Bool → ℕ = λ b. open_on (together second) b (series_in tags second i) (legs_from_on root tags left second (i + 1)) in
    0 < opened side → opened (not side) ≡ 0

-- the step after the leg at `i`: S-3's promise for its group. Past the last leg none is walked yet, and the figure is 0.
pub record Stands (tags left : List ℕ) (i : ℕ) (s : Step) : Type 0 where
  pub figure : Counts tags left i i s.figure
  pub group : i < length tags → s.group ≡ group_of (get_or tags i 0)

-- what is left after a match of `m` contracts of the leg at `i` with the one at `at`, and the step: the promise stands after the match as before it
pub record Meets (tags left after : List ℕ) (i at m : ℕ) (s r : Step) : Type 0 where
  pub rest : after ≡ set left at (get_or left at 0 - m)
  pub tally : tally_of r ≡ note_at (tally_of s) (get_or tags i 0) (get_or tags at 0) m
  pub figure : Counts tags after i (i + 1) r.figure
  pub group : r.group ≡ s.group

-- ---- what it leaves

-- the leg at `i` against those behind it
abbrev pub reached : ℕ → List ℕ → List ℕ → ℕ → Bool → Reached
reached root tags left i second =
    let legs = legs_from root second tags left in reach (together second) (get_or legs i no_leg) (drop (i + 1) legs)

pub record Reaches (tags left after : List ℕ) (i : ℕ) (t r : PairTally) : Type 0 where
  pub legs : (root : ℕ) (second : Bool) → let q = reached root tags left i second in legs_from root second tags after ≡ take i (legs_from root second tags left) ++ (q.leg ∷ q.legs)
  pub tally : (root : ℕ) (second : Bool) → r ≡ noted t (reached root tags left i second).pairs
  pub few : r.pairs ≤ t.pairs + 16
  pub sequence : InSequence tags after

-- the definition's walk: what is left, and the tally of the pairs
pub record Walks (tags left after : List ℕ) (r : PairTally) : Type 0 where
  pub legs : (root : ℕ) (second : Bool) → legs_from root second tags after ≡ (walk (together second) (legs_from root second tags left)).legs
  pub tally : (root : ℕ) (second : Bool) → r ≡ noted none (walk (together second) (legs_from root second tags left)).pairs
  pub sequence : InSequence tags after
