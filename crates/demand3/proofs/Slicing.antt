-- The slices that a host lends are the legs end to end, and come apart into the same legs.
use mathlib.Core.Path.{◌≡◌, refl, ap, ◌∙◌}
use mathlib.Core.List.{List, [], ◌∷◌, ◌++◌}
use mathlib.Core.Bool.{true, false}
use Prim.Native.Nat.{ℕ, zero, suc, ◌*◌, ◌/◌, ◌%◌}
use native.Mathlib.Omega.{arith}
use lib.ListN.{length, take, drop, length-append, length-take, length-drop, take-append-drop}
use lib.Seq.{take_at, drop_at}
use lib.Dec.{eqb}
use borrow.Author.Tests.{eq-eqb, eqb-true}
use Rattle.rules.specs.declared.Terms.{Terms}
use Rattle.rules.specs.declared.Settings.{Settings}
use Rattle.rules.specs.declared.Market.{Market}
use Rattle.rules.specs.Lists.{All}
use Rattle.rules.specs.Order.{Lent, symbols_of, counts_of, lent_legs, raw_legs}
use Rattle.rules.specs.Numbers.{are_whole, refused, check_legs, check_slices}
use Rattle.demand3.specs.Demand3.{IsWhole}
use Rattle.rules.proofs.Tests.{and_both}

symbols_length : (xs : List Lent) → All IsWhole xs → length (symbols_of xs) ≡ 21 * length xs
symbols_length [] h = omega arith
symbols_length (x ∷ xs) h = omega (arith, length-append x.symbol (symbols_of xs), symbols_length xs h.1, h.0.0)

counts_length : (xs : List Lent) → All IsWhole xs → length (counts_of xs) ≡ 8 * length xs
counts_length [] h = omega arith
counts_length (x ∷ xs) h = omega (arith, length-append x.count (counts_of xs), counts_length xs h.1, h.0.1)

raw_legs_lem : (xs : List Lent) → All IsWhole xs → raw_legs (length xs) (symbols_of xs) (counts_of xs) ≡ lent_legs xs
unfolding raw_legs
raw_legs_lem [] h = refl
raw_legs_lem (x ∷ xs) h =
    rw (
      take_at x.symbol (symbols_of xs) 21 h.0.0,
      take_at x.count (counts_of xs) 8 h.0.1,
      drop_at x.symbol (symbols_of xs) 21 h.0.0,
      drop_at x.count (counts_of xs) 8 h.0.1,
      raw_legs_lem xs h.1,
    )

module _ (st : Settings) (m : Market) (t : Terms) where
  pub slices_are : (xs : List Lent) → All IsWhole xs → check_slices st m t (symbols_of xs) (counts_of xs) ≡ check_legs st m t (length xs) (lent_legs xs)
  unfolding check_slices
  slices_are xs h =
      let s = symbols_length xs h in
      let c = counts_length xs h in
      let n : length (counts_of xs) / 8 ≡ length xs = omega arith in
      let r : length (counts_of xs) % 8 ≡ 0 = omega arith in
      rw (n, r, eq-eqb (length (symbols_of xs)) (21 * length xs) s, raw_legs_lem xs h)

  pub slices_broken : (symbols counts : List ℕ) → are_whole symbols counts ≡ false → check_slices st m t symbols counts ≡ refused 1
  unfolding check_slices
  slices_broken symbols counts h = rw h

-- slices that divide are whole legs end to end
cut : ℕ → List ℕ → List ℕ → List Lent
cut zero s c = []
cut (suc n) s c = record { symbol = take 21 s; count = take 8 c } ∷ cut n (drop 21 s) (drop 8 c)

empty : (xs : List ℕ) → length xs ≡ 0 → [] ≡ xs
empty [] h = refl
empty (x ∷ xs) h = absurd (omega arith)

cut_whole : (n : ℕ) (s c : List ℕ) → length s ≡ 21 * n → length c ≡ 8 * n → All IsWhole (cut n s c) × (symbols_of (cut n s c) ≡ s) × (counts_of (cut n s c) ≡ c)
unfolding cut
cut_whole zero s c hs hc = (tt, empty s (omega arith), empty c (omega arith))
cut_whole (suc n) s c hs hc =
    let r = cut_whole n (drop 21 s) (drop 8 c) (omega (arith, length-drop 21 s)) (omega (arith, length-drop 8 c)) in (
      ((omega (arith, length-take 21 s), omega (arith, length-take 8 c)), r.0),
      ap (λ (z : List ℕ). take 21 s ++ z) r.1 ∙ take-append-drop 21 s,
      ap (λ (z : List ℕ). take 8 c ++ z) r.2 ∙ take-append-drop 8 c,
    )

pub whole_slices : (s c : List ℕ) → are_whole s c ≡ true → (xs : List Lent) × All IsWhole xs × (symbols_of xs ≡ s) × (counts_of xs ≡ c)
whole_slices s c h =
    let k = and_both (eqb (length c % 8) 0) _ h in
    let e = eqb-true (length c % 8) 0 k.0 in
    let f = eqb-true (length s) (21 * (length c / 8)) k.1 in
    let r = cut_whole (length c / 8) s c f (omega arith) in
    (cut (length c / 8) s c, r.0, r.1, r.2)
