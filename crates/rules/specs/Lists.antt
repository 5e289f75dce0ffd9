-- Tests on lists, and lists in another sequence. A help to the sections of document 01, of no section itself.
use Rattle.std.specs.Prelude.{List, [], ◌∷◌, Bool, true, false, cond, not, ◌&&◌, ◌||◌, ℕ, ◌+◌, eqb, ltb}

-- both yes or both no
abbrev pub same_bool : Bool → Bool → Bool
same_bool a b = cond a b (not b)

module _ {A : Type 0} where
  -- every element passes the test
  unfoldable pub all : (A → Bool) → List A → Bool
  all f [] = true
  all f (x ∷ xs) = f x && all f xs

  -- some element passes the test
  unfoldable pub any : (A → Bool) → List A → Bool
  any f [] = false
  any f (x ∷ xs) = f x || any f xs

  -- some two elements pass the test
  unfoldable pub some_pair : (A → A → Bool) → List A → Bool
  some_pair f [] = false
  some_pair f (x ∷ xs) = any (f x) xs || some_pair f xs

  -- the same elements in another sequence
  pub data Perm : List A → List A → Type 0 where
    none : Perm [] []
    keep : (a : A) {xs ys : List A} → Perm xs ys → Perm (a ∷ xs) (a ∷ ys)
    swap : (a b : A) (xs : List A) → Perm (a ∷ b ∷ xs) (b ∷ a ∷ xs)
    then : {xs ys zs : List A} → Perm xs ys → Perm ys zs → Perm xs zs

-- a statement of every element
module _ {A : Type 0} (P : A → Type 0) where
  abbrev pub All : List A → Type 0
  All [] = Unit {0}
  All (x ∷ xs) = P x × All xs

-- every test passes
unfoldable pub every : List Bool → Bool
every [] = true
every (b ∷ bs) = b && every bs

-- the sum of numbers
unfoldable pub total : List ℕ → ℕ
total [] = 0
total (n ∷ ns) = n + total ns

-- lists of the same numbers
unfoldable pub same_numbers : List ℕ → List ℕ → Bool
same_numbers [] [] = true
same_numbers [] (y ∷ ys) = false
same_numbers (x ∷ xs) [] = false
same_numbers (x ∷ xs) (y ∷ ys) = eqb x y && same_numbers xs ys

-- lists of numbers in the order of a dictionary
unfoldable pub lex : List ℕ → List ℕ → Bool
lex [] ys = true
lex (x ∷ xs) [] = false
lex (x ∷ xs) (y ∷ ys) = cond (ltb x y) true (cond (ltb y x) false (lex xs ys))

-- sorted by a key, least first
module _ {A : Type 0} (key : A → List ℕ) where
  unfoldable pub insert : A → List A → List A
  insert x [] = x ∷ []
  insert x (y ∷ ys) = cond (lex (key x) (key y)) (x ∷ y ∷ ys) (y ∷ insert x ys)

  unfoldable pub sort : List A → List A
  sort [] = []
  sort (x ∷ xs) = insert x (sort xs)
