-- Tests that are joined.
use mathlib.Core.Path.{◌≡◌, refl, sym}
use mathlib.Core.List.{List, [], ◌∷◌, ◌++◌}
use mathlib.Core.Logic.{◌⊎◌, inl, inr}
use mathlib.Core.Bool.{Bool, true, false, cond, not, ◌&&◌, ◌||◌, true≢false, beq}
use Prim.Native.Nat.{ℕ, ◌≤◌}
use lib.Dec.{leb}
use borrow.Author.Tests.{leb-true, le-leb}
use Rattle.rules.specs.Limits.{within}
use Rattle.rules.specs.Lists.{All, same_bool, every}

pub and_both : (a b : Bool) → a && b ≡ true → (a ≡ true) × (b ≡ true)
and_both true b h = (refl, h)
and_both false b h = (h, cc)

pub and_of : {a b : Bool} → a ≡ true → b ≡ true → a && b ≡ true
and_of {a} {b} p q = cc

pub within_both : (least most x : ℕ) → within least most x ≡ true → (least ≤ x) × (x ≤ most)
within_both least most x h = let k = and_both (leb least x) _ h in (leb-true least x k.0, leb-true x most k.1)

pub both_within : (least most x : ℕ) → (least ≤ x) × (x ≤ most) → within least most x ≡ true
both_within least most x h = and_of (le-leb least x h.0) (le-leb x most h.1)

pub and_no : (a : Bool) → a && false ≡ false
and_no true = refl
and_no false = refl

pub and_false : (a b : Bool) → a && false && b ≡ false
and_false true b = refl
and_false false b = refl

pub and_true : (a : Bool) → a && true ≡ a
and_true true = refl
and_true false = refl

pub and_assoc : (a b c : Bool) → (a && b) && c ≡ a && (b && c)
and_assoc true b c = refl
and_assoc false b c = refl

pub or_false : (a : Bool) → a || false ≡ a
or_false true = refl
or_false false = refl

pub or_assoc : (a b c : Bool) → (a || b) || c ≡ a || (b || c)
or_assoc true b c = refl
or_assoc false b c = refl

pub or_either : (a b : Bool) → a || b ≡ true → (a ≡ true) ⊎ (b ≡ true)
or_either true b h = inl refl
or_either false b h = inr h

pub or_neither : (a b : Bool) → a || b ≡ false → (a ≡ false) × (b ≡ false)
or_neither true b h = (h, absurd (true≢false h))
or_neither false b h = (refl, h)

pub or_of : {a b : Bool} → a ≡ false → b ≡ false → a || b ≡ false
or_of {a} {b} p q = cc

-- a flag that a test which fails leaves clear
pub no_flag : (b : Bool) → ◌≡◌ {A = ℕ} (cond (b && false) 1 0) 0
no_flag true = refl
no_flag false = refl

pub not_eq : (b : Bool) → not b ≡ true → b ≡ false
not_eq true h = sym h
not_eq false h = refl

-- tests that pass alike are the same
pub same_test : (a b : Bool) → (a ≡ true → b ≡ true) → (b ≡ true → a ≡ true) → a ≡ b
same_test true b h k = sym (h refl)
same_test false true h k = k refl
same_test false false h k = refl

-- `==` of two flags in code
pub beq_same : (a b : Bool) → beq a b ≡ same_bool a b
beq_same true true = refl
beq_same true false = refl
beq_same false true = refl
beq_same false false = refl

pub same_eq : (a b : Bool) → same_bool a b ≡ true → a ≡ b
same_eq true b h = sym h
same_eq false true h = h
same_eq false false h = refl

pub opposite_eq : (a b : Bool) → not (same_bool a b) ≡ true → b ≡ not a
opposite_eq true true h = sym h
opposite_eq true false h = refl
opposite_eq false true h = refl
opposite_eq false false h = h

-- each test of a list that passes
pub passed : (bs : List Bool) → every bs ≡ true → All (λ b. b ≡ true) bs
unfolding every
passed [] h = tt
passed (b ∷ bs) h = let k = and_both b (every bs) h in (k.0, passed bs k.1)

every_append : (xs ys : List Bool) → every xs && every ys ≡ every (xs ++ ys)
unfolding every
every_append [] ys = refl
every_append (true ∷ xs) ys = every_append xs ys
every_append (false ∷ xs) ys = refl

-- two groups of tests
pub joined : (xs ys : List Bool) {r a b : Bool} → r ≡ a && b → a ≡ every xs → b ≡ every ys → r ≡ every (xs ++ ys)
joined xs ys e p q = cc (every_append xs ys)

-- three tests in a row
pub every_three : (a b c : Bool) → (a && b) && c ≡ every (a ∷ b ∷ c ∷ [])
unfolding every
every_three false b c = refl
every_three true false c = refl
every_three true true false = refl
every_three true true true = refl
