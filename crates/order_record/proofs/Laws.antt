-- The definitions on the host's slices, as the code reads them.
use mathlib.Core.Path.{◌≡◌, refl, sym, ◌∙◌}
use mathlib.Core.List.{List, [], ◌∷◌, ◌++◌, append-nil}
use mathlib.Core.Bool.{Bool, true, false, ◌&&◌}
use Prim.Native.Nat.{ℕ, suc, ◌+◌, ◌-◌, ◌*◌, ◌/◌, ◌%◌, ◌<◌, ◌≤◌}
use native.Mathlib.Omega.{arith}
use native.Mathlib.Numerals.{add-one}
use native.Mathlib.Nat.{sub-zero}
use lib.ListN.{length, take, drop, set}
use lib.Seq.{take-suc-set, drop-drop, append_snoc}
use lib.Dec.{eqb}
use borrow.Author.Tests.{eqb-true, eqb-false, eq-eqb, ne_eqb}
use Rattle.rules.specs.declared.RawLeg.{RawLeg}
use Rattle.rules.specs.Order.{raw_leg, raw_legs}
use Rattle.rules.specs.Numbers.{are_whole}
use Rattle.rules.proofs.Tests.{and_both}

-- `a` is 21 for each of `n`, by division
pub by_21 : (a n : ℕ) → eqb (a % 21) 0 && eqb (a / 21) n ≡ eqb a (21 * n)
by_21 a n = go (eqb (a % 21) 0) (eqb (a / 21) n) refl refl
  where
    go : (r q : Bool) → eqb (a % 21) 0 ≡ r → eqb (a / 21) n ≡ q → r && q ≡ eqb a (21 * n)
    go true true e f = sym (eq-eqb a (21 * n) (omega (arith, eqb-true (a % 21) 0 e, eqb-true (a / 21) n f)))
    go true false e f = sym (ne_eqb a (21 * n) (λ h. eqb-false (a / 21) n f (omega arith)))
    go false q e f = sym (ne_eqb a (21 * n) (λ h. eqb-false (a % 21) 0 e (omega arith)))

-- what `order_of` asks of slices that are whole
pub whole_lengths : (symbols counts : List ℕ) → are_whole symbols counts ≡ true → (length symbols ≡ 21 * (length counts / 8)) × (length counts ≡ 8 * (length counts / 8))
whole_lengths symbols counts h = let k = and_both (eqb (length counts % 8) 0) _ h in (eqb-true _ _ k.1, omega (arith, eqb-true (length counts % 8) 0 k.0))

module _ (symbols counts : List ℕ) where
  -- the leg at `i`, from the parts of the slices that are lent for it
  abbrev leg_at : ℕ → RawLeg
  leg_at i = raw_leg (take (21 * i + 21 - 21 * i) (drop (21 * i) symbols)) (take (8 * i + 8 - 8 * i) (drop (8 * i) counts))

  -- of `n` legs, those from `i` on
  abbrev pub legs_from : ℕ → ℕ → List RawLeg
  legs_from n i = raw_legs (n - i) (drop (21 * i) symbols) (drop (8 * i) counts)

  next : (n i : ℕ) → i < n → legs_from n i ≡ leg_at i ∷ legs_from n (i + 1)
  unfolding raw_legs
  next n i h =
      let e : n - i ≡ suc (n - (i + 1)) = omega arith in
      let s : 21 * (i + 1) ≡ 21 * i + 21 = omega arith in
      let c : 8 * (i + 1) ≡ 8 * i + 8 = omega arith in
      let t : 21 * i + 21 - 21 * i ≡ 21 = omega arith in
      let d : 8 * i + 8 - 8 * i ≡ 8 = omega arith in
      rw (e, s, c, t, d, drop-drop 21 (21 * i) symbols, drop-drop 8 (8 * i) counts)

  -- none are stored
  pub none_stored : (n : ℕ) → legs_from n 0 ≡ raw_legs n symbols counts
  none_stored n = rw sub-zero

  -- one leg more is stored
  pub stored : (legs : List RawLeg) {x : RawLeg} (n i : ℕ) {all : List RawLeg} → i < n → i < length legs → x ≡ leg_at i
      → take i legs ++ legs_from n i ≡ all
      → take (i + 1) (set legs i x) ++ legs_from n (i + 1) ≡ all
  stored legs {x} n i h k e f =
      let t : take (i + 1) (set legs i x) ≡ take i legs ++ (x ∷ []) = rw (add-one, take-suc-set legs i x k) in
      rw (t, append_snoc (take i legs), e, ← next n i h) f

  -- none are left
  pub all_stored : (legs : List RawLeg) (n i : ℕ) {all : List RawLeg} → n ≤ i → take i legs ++ legs_from n i ≡ all → take i legs ≡ all
  unfolding raw_legs
  all_stored legs n i h f = let e : n - i ≡ 0 = omega arith in sym (append-nil (take i legs)) ∙ rw e at f
