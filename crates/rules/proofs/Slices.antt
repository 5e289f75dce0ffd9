-- Lists of bytes, byte by byte: a part of one, and two that are compared.
use mathlib.Core.Path.{◌≡◌, refl, sym, ap, ◌∙◌}
use mathlib.Core.Bool.{false}
use mathlib.Core.List.{List, [], ◌∷◌}
use Prim.Native.Nat.{ℕ, zero, suc, ◌+◌, ◌≤◌}
use native.Mathlib.Omega.{arith}
use lib.ListN.{length, get_or}
use lib.Seq.{take_all, slice, slice-cons, slice_empty}
use Rattle.rules.specs.Lists.{same_numbers}
use Rattle.rules.proofs.Tests.{and_no}

-- the `n` bytes from `at`
abbrev pub bytes_at : ℕ → ℕ → List ℕ → List ℕ
bytes_at zero at s = []
bytes_at (suc n) at s = get_or s at 0 ∷ bytes_at n (suc at) s

pub slice_bytes : (n at to : ℕ) (s : List ℕ) → at + n ≡ to → to ≤ length s → slice at to s ≡ bytes_at n at s
slice_bytes zero at to s e h = let f : at ≡ to = omega arith in rw f (slice_empty to s)
slice_bytes (suc n) at to s e h = slice-cons at to s 0 (omega arith) h ∙ ap (λ (r : List ℕ). get_or s at 0 ∷ r) (slice_bytes n (suc at) to s (omega arith) h)

-- all of its bytes
pub whole_bytes : (n : ℕ) (s : List ℕ) → length s ≡ n → s ≡ bytes_at n 0 s
whole_bytes n s e = sym (take_all n s (omega arith)) ∙ slice_bytes n 0 n s (omega arith) (omega arith)

-- lists of two lengths
pub other_length : (xs ys : List ℕ) → (length xs ≡ length ys → ⊥) → false ≡ same_numbers xs ys
unfolding same_numbers
other_length [] [] h = absurd (h refl)
other_length [] (y ∷ ys) h = refl
other_length (x ∷ xs) [] h = refl
other_length (x ∷ xs) (y ∷ ys) h = rw (← other_length xs ys (λ e. h (ap suc e)), and_no)
