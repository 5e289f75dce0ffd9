-- Document 01, Class and shape. Unit legs come in the first walk's sequence, latest walked first: puts by expiry and then from the lowest strike up, then calls by expiry and from the highest strike down. Every shape is of one expiry.
use Rattle.std.specs.Prelude.{List, [], ◌∷◌, Bool, true, false, cond, not, ◌&&◌, ◌||◌, ℕ, ◌+◌, ◌*◌, eqb, leb, ltb}
use Rattle.rules.specs.declared.Leg.{Leg}
use Rattle.rules.specs.Lists.{same_bool, all, every}
use Rattle.rules.specs.Pairing.{Walked, one_expiry, is_debit}

abbrev pub strike_of : Leg → ℕ
strike_of l = l.series.strike.0

abbrev pub is_of : ℕ → Leg → Bool
is_of n l = eqb l.size n

abbrev pub opposite : Leg → Leg → Bool
opposite a b = not (same_bool a.bought b.bought)

-- "Vertical (1): two legs, same type and expiry, unit counts 1 and -1."
unfoldable pub is_vertical : Leg → Leg → Bool
is_vertical a b = every (one_expiry a.series b.series ∷ is_of 1 a ∷ is_of 1 b ∷ opposite a b ∷ [])

abbrev pub between : ℕ → ℕ → ℕ → Bool
between a m b = ltb a m && ltb m b || ltb b m && ltb m a

-- "Butterfly: three legs, same type and expiry, unit counts 1, -2, 1 or the opposite, the double one at the middle strike"
unfoldable pub is_butterfly : Leg → Leg → Leg → Bool
is_butterfly a m b =
    every
    (one_expiry a.series m.series
    ∷ one_expiry m.series b.series
    ∷ is_of 1 a
    ∷ is_of 2 m
    ∷ is_of 1 b
    ∷ opposite a m
    ∷ opposite m b
    ∷ between (strike_of a) (strike_of m) (strike_of b)
    ∷ [])

-- "true (2) if twice the middle equals the sum of the outer strikes, else skewed (3)"
abbrev pub is_true_butterfly : Leg → Leg → Leg → Bool
is_true_butterfly a m b = eqb (2 * strike_of m) (strike_of a + strike_of b)

-- "Box (4): one expiry, two strikes, a call and a put at each, all unit counts 1 or -1, the calls opposite, and at each strike call and put opposite."
-- `p` and `c` are the put and the call of the lower strike, `q` and `d` those of the higher.
unfoldable pub is_box : Leg → Leg → Leg → Leg → Bool
is_box p q d c =
    every
    (one_expiry p.series q.series
    ∷ one_expiry c.series d.series
    ∷ eqb c.series.expiry p.series.expiry
    ∷ c.series.call
    ∷ not p.series.call
    ∷ eqb (strike_of c) (strike_of p)
    ∷ eqb (strike_of d) (strike_of q)
    ∷ ltb (strike_of c) (strike_of d)
    ∷ is_of 1 p
    ∷ is_of 1 q
    ∷ is_of 1 c
    ∷ is_of 1 d
    ∷ opposite c d
    ∷ opposite c p
    ∷ opposite d q
    ∷ [])

-- "Other: 0."
unfoldable pub shape_of : List Leg → ℕ
shape_of [] = 0
shape_of (a ∷ []) = 0
shape_of (a ∷ b ∷ []) = cond (is_vertical a b) 1 0
shape_of (a ∷ m ∷ b ∷ []) = cond (is_butterfly a m b) (cond (is_true_butterfly a m b) 2 3) 0
shape_of (p ∷ q ∷ d ∷ c ∷ []) = cond (is_box p q d c) 4 0
shape_of (a ∷ b ∷ c ∷ d ∷ e ∷ r) = 0

-- "A call butterfly with twice the middle at least the sum of the outer strikes, or a put butterfly with at most"
unfoldable pub has_own_class : Leg → Leg → Leg → Bool
has_own_class a m b =
    is_butterfly a m b
    && cond m.series.call (leb (strike_of a + strike_of b) (2 * strike_of m)) (leb (2 * strike_of m) (strike_of a + strike_of b))

-- "Every other order is a debit if all its pairs and loners are, a credit if all are" (`side`: true for debit). A loner (document 01's term) is a leg with contracts left; "A loner bought is a debit, sold a credit."
unfoldable pub all_of : Bool → Walked → Bool
all_of side w =
    all (λ m. same_bool side (is_debit m.buy m.sell)) w.pairs && all (λ l. eqb l.size 0 || same_bool side l.bought) w.legs

-- debit 1, credit 2, "else undetermined (0)"
unfoldable pub pair_class : Walked → ℕ
pair_class w = cond (all_of true w) 1 (cond (all_of false w) 2 0)

-- of unit legs, and of the class that pairs and loners give: such a butterfly "is a debit (1) if the middle is sold, a credit (2) if bought"
unfoldable pub class_with : List Leg → ℕ → ℕ
class_with [] pairs = pairs
class_with (a ∷ []) pairs = pairs
class_with (a ∷ b ∷ []) pairs = pairs
class_with (a ∷ m ∷ b ∷ []) pairs = cond (has_own_class a m b) (cond m.bought 2 1) pairs
class_with (a ∷ b ∷ c ∷ d ∷ r) pairs = pairs

-- of unit legs and of the pairing
abbrev pub class_of : List Leg → Walked → ℕ
class_of us w = class_with us (pair_class w)
