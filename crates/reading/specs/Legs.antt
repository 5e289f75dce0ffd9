-- What reading an order's legs says.
use Rattle.std.specs.Prelude.{◌≡◌, List, [], ◌∷◌, Bool, not, ℕ, ◌≤◌, take}
use Rattle.rules.specs.declared.RawLeg.{RawLeg}
use Rattle.rules.specs.Limits.{within}
use Rattle.rules.specs.Lists.{any, some_pair}
use Rattle.rules.specs.Symbol.{is_symbol}
use Rattle.rules.specs.Order.{legs_of}
use Rattle.rules.specs.Numbers.{is_bad_count, is_other_root}
use Rattle.keys.specs.Tags.{Placed}
use Rattle.reading.specs.declared.Read.{Read}

-- refusals 3, 4 and 5, which reading finds
abbrev pub read_refusals : ℕ → List RawLeg → List (Bool × ℕ)
read_refusals n rs = (not (within 1 16 n), 3) ∷ (any (λ r. not (is_symbol r.symbol)) rs, 4) ∷ (any is_bad_count rs, 5) ∷ []

-- the first `many` legs, where none of these applies
pub record GoodRead (legs : List RawLeg) (many : ℕ) (places sizes roots : List ℕ) (r : Read) : Type 0 where
  pub len : r.len ≡ many
  pub few : r.len ≤ 16
  pub placed : Placed (legs_of (take many legs)) places sizes roots
  pub other : r.other ≡ some_pair is_other_root (legs_of (take many legs))
