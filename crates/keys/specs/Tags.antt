-- A leg as a number. A leg's tag is its key in a walk's sequence, doubled, and one more where it is bought; beside it stand the contracts that it has. The packing is the code's own: the definitions of document 01 sort by lists of numbers.
use Rattle.std.specs.Prelude.{◌≡◌, Bool, true, false, cond, ℕ, ◌+◌, ◌-◌, ◌*◌, ◌/◌, ◌%◌, ◌≤◌, ◌<◌, length, take, get_or, eqb}
use mathlib.Core.List.{List, map, zip_with}
use Rattle.rules.specs.declared.Series.{Series}
use Rattle.rules.specs.declared.Leg.{Leg}
use Rattle.rules.specs.Lists.{All}
use Rattle.rules.specs.Pairing.{digit, by_strike, by_expiry}
use Rattle.sorting.specs.Keys.{with_places, EachTwo}

-- ---- one leg

-- three numbers of at most one, eight and eight digits as one, which is in their order
abbrev pub packed : ℕ → ℕ → ℕ → ℕ
packed a b c = (a * 100000000 + b) * 100000000 + c

-- a series in the sequence of the first walk, or of the second
abbrev pub key_of : Bool → Series → ℕ
key_of second s =
    packed
    (digit s.call)
    (cond second s.strike.0 s.expiry)
    (cond second s.expiry (cond s.call (99999999 - s.strike.0) s.strike.0))

-- the series that a key says
unfoldable pub series_at : Bool → ℕ → Series
series_at second k =
    let call = eqb (k / 10000000000000000) 1 in
    let middle = k / 100000000 % 100000000 in
    let low = k % 100000000 in
    record {
      call = call;
      expiry = cond second low middle;
      strike = record { 0 = cond second middle (cond call (99999999 - low) low) };
    }

abbrev pub tag_of : Bool → Leg → ℕ
tag_of second l = key_of second l.series * 2 + digit l.bought

-- the side that a tag says
abbrev pub is_bought : ℕ → Bool
is_bought tag = eqb (tag % 2) 1

-- the legs that are walked together have one group: type and expiry in the first walk, type and strike in the second
abbrev pub group_of : ℕ → ℕ
group_of tag = tag / 200000000

-- the leg of a tag; all legs of an order have one root
abbrev pub leg_at : ℕ → Bool → ℕ → ℕ → Leg
leg_at root second tag size = record { root = root; series = series_at second (tag / 2); bought = is_bought tag; size = size }

-- the tag of the second walk, from that of the first
abbrev pub second_tag : ℕ → ℕ
second_tag tag = tag_of true (leg_at 0 false tag 0)

-- ---- the legs of an order

abbrev pub legs_from : ℕ → Bool → List ℕ → List ℕ → List Leg
legs_from root second tags sizes = zip_with (leg_at root second) tags sizes

-- the first `n`
abbrev pub legs_in : ℕ → Bool → ℕ → List ℕ → List ℕ → List Leg
legs_in root second n tags sizes = take n (legs_from root second tags sizes)

-- a walk's sequence, latest walked first
abbrev pub sequenced : Bool → List Leg → List Leg
sequenced second ls = cond second (by_expiry ls) (by_strike ls)

-- sixteen numbers, the first `n` of them tags: type, eight digits, eight digits and side
pub record Tagged (n : ℕ) (tags : List ℕ) : Type 0 where
  pub few : n ≤ 16
  pub full : length tags ≡ 16
  pub small : All (λ t. t < 40000000000000000) (take n tags)

-- in a walk's sequence and no series twice: the keys of the first `n` rise
abbrev pub Rising : ℕ → List ℕ → Type 0
Rising n tags = EachTwo (λ a b. a / 2 < b / 2) (take n tags)

-- the legs of a valid order in the first walk's sequence, and counts in their limits
pub record ValidTags (n : ℕ) (tags sizes : List ℕ) : Type 0 where
  pub valid : Tagged n tags
  pub full : length sizes ≡ 16
  pub rising : Rising n tags
  pub counts : All (λ s. (1 ≤ s) × (s ≤ 10000)) (take n sizes)

-- ---- legs that are not sorted yet

-- a place: a tag, and in the lowest four bits where its leg came
abbrev pub place_of : ℕ → ℕ → ℕ
place_of tag at = tag * 16 + at

-- the key of a place's series
abbrev pub key_in : ℕ → ℕ
key_in place = place / 32

-- the legs as they came: the place of each, its contracts and its root
pub record Placed (ls : List Leg) (places sizes roots : List ℕ) : Type 0 where
  pub each_tag : take (length ls) places ≡ with_places 0 (map (tag_of false) ls)
  pub each_size : take (length ls) sizes ≡ map (λ l. l.size) ls
  pub each_root : take (length ls) roots ≡ map (λ l. l.root) ls

-- tags and contracts in a sequence of places: the contracts are taken from where the leg came
pub record Arranged (places sizes tags left : List ℕ) : Type 0 where
  pub each_tag : tags ≡ map (λ p. p / 16) places
  pub each_left : left ≡ map (λ p. get_or sizes (p % 16) 0) places
