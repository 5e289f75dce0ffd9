-- Tests that are joined in one way by the code and in another by the rules.
use mathlib.Core.Path.{◌≡◌, refl, sym, ap}
use mathlib.Core.List.{[], ◌∷◌}
use mathlib.Core.Bool.{Bool, true, false, ◌&&◌}
use Prim.Native.Nat.{ℕ}
use lib.Dec.{eqb}
use borrow.Author.Tests.{eqb-true, eq-eqb}
use Rattle.rules.specs.Lists.{every}
use Rattle.rules.proofs.Tests.{and_no, and_true, same_test}

-- tests of numbers that pass alike
pub same_eqb : (a b c d : ℕ) → (a ≡ b → c ≡ d) → (c ≡ d → a ≡ b) → eqb a b ≡ eqb c d
same_eqb a b c d h k = same_test _ _ (λ e. eq-eqb c d (h (eqb-true a b e))) (λ e. eq-eqb a b (k (eqb-true c d e)))

-- the second test counts only where the first passes
pub guarded : (a a' b b' : Bool) → a ≡ a' → (a ≡ true → b ≡ b') → a && b ≡ a' && b'
guarded true a' b b' e h = rw (← e, h refl)
guarded false a' b b' e h = rw (← e)

-- the tests of a frame: the head's, the fields', the tail's, then length and sum
pub regrouped : (s8 t9 n9 fields s35 within t10 len sum : Bool)
    → ((s8 && ((t9 && n9) && s35)) && (fields && (within && t10))) && (len && sum) ≡ fields && every (s8 ∷ t9 ∷ n9 ∷ len ∷ s35 ∷ within ∷ (t10 && sum) ∷ [])
unfolding every
regrouped false t9 n9 fields s35 within t10 len sum = sym (and_no fields)
regrouped true false n9 fields s35 within t10 len sum = sym (and_no fields)
regrouped true true false fields s35 within t10 len sum = sym (and_no fields)
regrouped true true true false false within t10 len sum = refl
regrouped true true true false true within t10 len sum = refl
regrouped true true true true false within t10 len sum = sym (and_no len)
regrouped true true true true true false t10 len sum = sym (and_no len)
regrouped true true true true true true false len sum = sym (and_no len)
regrouped true true true true true true true len sum = ap (λ (b : Bool). len && b) (sym (and_true sum))
