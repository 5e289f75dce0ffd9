-- The first byte 1 of bytes, part by part.
use mathlib.Core.Path.{◌≡◌, refl, ap, ◌∙◌}
use mathlib.Core.Bool.{Bool, true, false, cond}
use mathlib.Core.List.{List, [], ◌++◌}
use Prim.Native.Nat.{ℕ, zero, suc, ◌+◌, ◌*◌, ◌/◌, ◌≤◌, ◌<◌}
use native.Mathlib.Omega.{arith}
use lib.Dec.{eqb, ltb}
use lib.ListN.{length, get_or, take, drop, length-append}
use lib.Seq.{length-take-le, take-add, drop-drop}
use borrow.Author.Tests.{ne_eqb, eq-eqb, ltb-true, ltb-false}
use Rattle.std.specs.Prelude.{Option, Some, None, position}
use Rattle.std.specs.List.{prefix_len}
use Rattle.std.specs.Simd.{first_chunks}
use Rattle.std.proofs.lemmas.Bool.{lt-ltb, le-ltb}
use Rattle.std.proofs.lemmas.List.{take-append-drop}
use Rattle.std.proofs.lemmas.List.Sums.{prefix_len-le-length}
use Rattle.std.proofs.lemmas.List.Folds.{prefix_len-append}
use Rattle.field_laws.proofs.Fields.{in_field}

-- the bytes before the first byte 1
abbrev pub run : List ℕ → ℕ
run s = prefix_len in_field s

-- the first byte 1, where there is one
pub first_one : (s : List ℕ) {n : ℕ} → Some n ≡ position (λ b. eqb b 1) s → (n ≡ run s) × (n < length s)
first_one s {n} e = go (ltb (run s) (length s)) refl e
  where
    go : (b : Bool) → ltb (run s) (length s) ≡ b → Some n ≡ cond b (Some (run s)) None → (n ≡ run s) × (n < length s)
    go true h e = let k : n ≡ run s = cc in (k, omega (arith, ltb-true (run s) (length s) h))
    go false h e = absurd cc

pub no_one : (s : List ℕ) → None ≡ position (λ b. eqb b 1) s → length s ≤ run s
no_one s e = go (ltb (run s) (length s)) refl e
  where
    go : (b : Bool) → ltb (run s) (length s) ≡ b → None ≡ cond b (Some (run s)) None → length s ≤ run s
    go true h e = absurd cc
    go false h e = omega (arith, ltb-false (run s) (length s) h)

-- its place, where there is one
abbrev pub one_at : List ℕ → Option ℕ
one_at s = position (λ b. eqb b 1) s

module _ (a b : List ℕ) where
  in_front : {n : ℕ} → Some n ≡ one_at a → Some n ≡ one_at (a ++ b)
  in_front {n} e =
      let o = first_one a e in
      let r : run (a ++ b) ≡ run a = prefix_len-append in_field a b ∙ rw (ne_eqb (run a) (length a) (λ x. omega (arith, o.0, o.1))) in
      rw (r, length-append a b, lt-ltb (run a) (length a + length b) (omega (arith, o.0, o.1))) (ap Some o.0)

  passed : None ≡ one_at a → run (a ++ b) ≡ length a + run b
  passed e = prefix_len-append in_field a b ∙ rw (eq-eqb (run a) (length a) (omega (arith, no_one a e, prefix_len-le-length in_field a)))

  behind : {n : ℕ} → None ≡ one_at a → Some n ≡ one_at b → Some (length a + n) ≡ one_at (a ++ b)
  behind {n} e f =
      let o = first_one b f in
      rw (passed e, length-append a b, lt-ltb (length a + run b) (length a + length b) (omega (arith, o.0, o.1))) (ap (λ (x : ℕ). Some (length a + x)) o.0)

  nowhere : None ≡ one_at a → None ≡ one_at b → None ≡ one_at (a ++ b)
  nowhere e f = rw (passed e, length-append a b, le-ltb (length a + run b) (length a + length b) (omega (arith, no_one b f)))

-- the four bytes at a place among fours
four_at : (k i : ℕ) (s : List ℕ) → i < k → get_or (first_chunks 4 k s) i [] ≡ take 4 (drop (4 * i) s)
four_at zero i s h = absurd (omega arith)
four_at (suc k) zero s h = refl
four_at (suc k) (suc i) s h =
    let e : 4 * suc i ≡ 4 + 4 * i = omega arith in
    four_at k i (drop 4 s) (omega arith) ∙ rw (e, drop-drop (4 * i) 4 s)

-- where `k` bytes are passed
module _ (s : List ℕ) (k : ℕ) (inside : k ≤ length s) (none : None ≡ one_at (take k s)) where
  found_behind : {n : ℕ} → Some n ≡ one_at (drop k s) → Some (k + n) ≡ one_at s
  found_behind {n} e =
      let h = behind (take k s) (drop k s) none e in
      rw (length-take-le k s inside, take-append-drop k s) at h

  none_behind : None ≡ one_at (drop k s) → None ≡ one_at s
  none_behind e = let h = nowhere (take k s) (drop k s) none e in rw (take-append-drop k s) at h

-- where so many fours are passed
module _ (s : List ℕ) (fours : List (List ℕ)) (e : fours ≡ first_chunks 4 (length s / 4) s) (l : length fours ≡ length s / 4) (i : ℕ) (none : None ≡ one_at (take (4 * i) s)) where
  module _ (h : i < length fours) where
    four : get_or fours i [] ≡ take 4 (drop (4 * i) s)
    four = ap (λ (x : List (List ℕ)). get_or x i []) e ∙ four_at (length s / 4) i s (omega (arith, l))

    pub in_four : {n : ℕ} → Some n ≡ one_at (get_or fours i []) → Some (4 * i + n) ≡ one_at s
    in_four {n} f =
        let b = drop (4 * i) s in
        let m = in_front (take 4 b) (drop 4 b) (f ∙ ap one_at four) in
        found_behind s (4 * i) (omega (arith, l)) none (m ∙ ap one_at (take-append-drop 4 b))

    pub four_passed : None ≡ one_at (get_or fours i []) → None ≡ one_at (take (4 * (i + 1)) s)
    four_passed f =
        let k : 4 * (i + 1) ≡ 4 * i + 4 = omega arith in
        rw (k, take-add (4 * i) 4 s) (nowhere (take (4 * i) s) (take 4 (drop (4 * i) s)) none (f ∙ ap one_at four))

  module _ (rest : List ℕ) (b : rest ≡ drop (length s / 4 * 4) s) (le : i ≤ length fours) (ge : length fours ≤ i) where
    behind_fours : rest ≡ drop (4 * length fours) s
    behind_fours = let k : length s / 4 * 4 ≡ 4 * length fours = omega (arith, l) in b ∙ ap (λ (x : ℕ). drop x s) k

    all_passed : None ≡ one_at (take (4 * length fours) s)
    all_passed = let k : i ≡ length fours = omega arith in rw k at none

    pub in_rest : {n : ℕ} → Some n ≡ one_at rest → Some (4 * length fours + n) ≡ one_at s
    in_rest {n} f = found_behind s (4 * length fours) (omega (arith, l)) all_passed (f ∙ ap one_at behind_fours)

    pub in_none : None ≡ one_at rest → None ≡ one_at s
    in_none f = none_behind s (4 * length fours) (omega (arith, l)) all_passed (f ∙ ap one_at behind_fours)
