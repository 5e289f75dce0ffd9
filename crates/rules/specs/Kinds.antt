-- Document 01, Number and its author, and the numbers that document 02's requests add: every number, and what it says.
use Rattle.std.specs.Prelude.{List, [], ◌∷◌, Bool, true, cond, not, ◌&&◌, ◌||◌, ℕ, suc, eqb, ltb}
use Rattle.rules.specs.Limits.{within}

pub data Kind : Type 0 where
  accepts : Kind
  refuses : Kind
  rejects : Kind

-- "0 accepts"; "1 to 12 return zeros elsewhere" and refuse; "20 to 26 keep class, shape and pairings" and reject; those of document 02 "refuse as its 1 to 12 do"
abbrev pub numbers : List (ℕ × Kind)
numbers =
    (0, accepts)
    ∷ (1, refuses)
    ∷ (2, refuses)
    ∷ (3, refuses)
    ∷ (4, refuses)
    ∷ (5, refuses)
    ∷ (6, refuses)
    ∷ (7, refuses)
    ∷ (8, refuses)
    ∷ (9, refuses)
    ∷ (10, refuses)
    ∷ (11, refuses)
    ∷ (12, refuses)
    ∷ (20, rejects)
    ∷ (21, rejects)
    ∷ (22, rejects)
    ∷ (23, rejects)
    ∷ (24, rejects)
    ∷ (25, rejects)
    ∷ (26, rejects)
    ∷ (30, refuses)
    ∷ (31, refuses)
    ∷ (32, refuses)
    ∷ (33, refuses)
    ∷ (34, refuses)
    ∷ (35, refuses)
    ∷ (36, refuses)
    ∷ []

-- the sequence in which they are tested: "The lowest number that applies is given, except that 12 comes first"; document 02 tests 34 "before everything", 35 "after 12 and before 30", 30 to 32 "before all else" but these, 33 "after 8 and before 9", and 36 "after 11 and before 20"
abbrev pub sequence : List ℕ
sequence = 34 ∷ 12 ∷ 35 ∷ 30 ∷ 31 ∷ 32 ∷ 1 ∷ 2 ∷ 3 ∷ 4 ∷ 5 ∷ 6 ∷ 7 ∷ 8 ∷ 33 ∷ 9 ∷ 10 ∷ 11 ∷ 36 ∷ 20 ∷ 21 ∷ 22 ∷ 23 ∷ 24 ∷ 25 ∷ 26 ∷ []

-- a number's place in such a list
abbrev pub place_in : List ℕ → ℕ → ℕ
place_in [] n = 0
place_in (m ∷ ms) n = cond (eqb n m) 0 (suc (place_in ms n))

-- whether numbers come in the sequence of such a list
abbrev pub keeps_to : List ℕ → List ℕ → Bool
keeps_to ms [] = true
keeps_to ms (n ∷ []) = true
keeps_to ms (n ∷ k ∷ ns) = ltb (place_in ms n) (place_in ms k) && keeps_to ms (k ∷ ns)

abbrev pub is_accepted : ℕ → Bool
is_accepted n = eqb n 0

abbrev pub is_rejected : ℕ → Bool
is_rejected n = within 20 26 n

-- whatever is neither accepted nor rejected
abbrev pub is_refused : ℕ → Bool
is_refused n = not (is_accepted n || is_rejected n)

abbrev pub kind_of : ℕ → Kind
kind_of n = cond (is_accepted n) accepts (cond (is_rejected n) rejects refuses)
