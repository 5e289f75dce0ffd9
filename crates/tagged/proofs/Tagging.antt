-- What a match of two legs is, by their tags.
use mathlib.Core.Path.{◌≡◌, refl, sym, ap, ap₂, ◌∙◌}
use mathlib.Core.List.{[], ◌∷◌}
use mathlib.Core.Bool.{Bool, true, false, cond, not, ◌&&◌, ◌||◌}
use Prim.Native.Nat.{ℕ, zero, suc, ◌+◌, ◌/◌, ◌≤◌, ◌<◌, min}
use native.Mathlib.Nat.{pos_of_ne-zero, add-zero}
use native.Mathlib.Omega.{arith}
use Rattle.std.proofs.lemmas.Bool.Decides.{nat_tests}
use lib.Dec.{eqb, ltb}
use borrow.Author.Tests.{eqb-true, eqb-false, lt-ltb}
use Rattle.rules.specs.declared.Leg.{Leg}
use Rattle.rules.specs.Lists.{same_bool}
use Rattle.rules.specs.Pairing.{pair_of, matched, is_debit}
use Rattle.rules.proofs.Tests.{or_false}
use Rattle.keys.specs.Tags.{is_bought, group_of, series_at, leg_at}
use Rattle.tagged.specs.declared.PairTally.{PairTally}
use Rattle.tagged.specs.Tags.{together, matched_at, debit_at, one_more, note_as, note_at, counted, noted}

or_true : (a : Bool) → a || true ≡ true
or_true true = refl
or_true false = refl

abbrev Small : ℕ → Type 0
Small tag = tag < 40000000000000000

-- the group's test, on keys and on series
group_keys : (second : Bool) (k l : ℕ) → k < 20000000000000000 → l < 20000000000000000 → together second (series_at second k) (series_at second l) ≡ eqb (k / 100000000) (l / 100000000)
unfolding series_at
group_keys true k l hk hl = grind (arith, nat_tests)
group_keys false k l hk hl = grind (arith, nat_tests)

module _ (root : ℕ) (second : Bool) (tx ty : ℕ) (hx : Small tx) (hy : Small ty) where
  pub group : together second (series_at second (tx / 2)) (series_at second (ty / 2)) ≡ eqb (group_of tx) (group_of ty)
  group =
      let a : tx / 2 / 100000000 ≡ group_of tx = omega arith in
      let b : ty / 2 / 100000000 ≡ group_of ty = omega arith in
      group_keys second (tx / 2) (ty / 2) (omega arith) (omega arith) ∙ ap₂ eqb a b

  pub matched_tags : (x y : ℕ) → matched (together second) (leg_at root second tx x) (leg_at root second ty y) ≡ matched_at tx x ty y
  unfolding matched matched_at
  matched_tags x y = ap (λ (b : Bool). cond b (min x y) 0) (ap (λ (g : Bool). g && not (same_bool (is_bought tx) (is_bought ty))) group)

-- a pair of one group is a debit by its keys: of the first walk by the strike, of the second by the expiry
debit_keys : (second : Bool) (b s : ℕ) → b / 100000000 ≡ s / 100000000 → is_debit (series_at second b) (series_at second s) ≡ ltb s b
unfolding series_at is_debit
debit_keys true b s e = grind (arith, nat_tests)
debit_keys false b s e = grind (arith, nat_tests)

-- a match of no contracts is none, of some is one
pair_some : (x y : Leg) (n : ℕ) → (n ≡ 0 → ⊥) → pair_of x y n ≡ record { buy = cond x.bought x.series y.series; sell = cond x.bought y.series x.series; size = n } ∷ []
unfolding pair_of
pair_some x y zero h = absurd (h refl)
pair_some x y (suc n) h = refl

pair_none : (x y : Leg) → pair_of x y 0 ≡ []
unfolding pair_of
pair_none x y = refl

turn : (second c : Bool) (k l : ℕ) → k / 100000000 ≡ l / 100000000
    → is_debit (cond c (series_at second k) (series_at second l)) (cond c (series_at second l) (series_at second k)) ≡ cond c (ltb l k) (ltb k l)
turn second true k l e = debit_keys second k l e
turn second false k l e = debit_keys second l k (sym e)

pub note_tags : (t : PairTally) (root : ℕ) (second : Bool) (tx x ty y n : ℕ) → (0 < n → group_of tx ≡ group_of ty) → noted t (pair_of (leg_at root second tx x) (leg_at root second ty y) n) ≡ note_at t tx ty n
unfolding note_at
note_tags t root second tx x ty y n h = go (eqb n 0) refl
  where
    none : n ≡ 0 → noted t (pair_of (leg_at root second tx x) (leg_at root second ty y) n) ≡ t
    none e = ap (λ (k : ℕ). noted t (pair_of (leg_at root second tx x) (leg_at root second ty y) k)) e ∙ nothing
      where
        nothing : noted t (pair_of (leg_at root second tx x) (leg_at root second ty y) 0) ≡ t
        nothing = ap (noted t) (pair_none (leg_at root second tx x) (leg_at root second ty y))

    go : (b : Bool) → eqb n 0 ≡ b → noted t (pair_of (leg_at root second tx x) (leg_at root second ty y) n) ≡ cond b t (one_more t (debit_at tx ty))
    go true e = none (eqb-true n 0 e)
    go false e =
        let z = eqb-false n 0 e in
        let g : tx / 2 / 100000000 ≡ ty / 2 / 100000000 = omega (arith, h (pos_of_ne-zero z)) in
        ap (noted t) (pair_some (leg_at root second tx x) (leg_at root second ty y) n z) ∙ ap (one_more t) (turn second (is_bought tx) (tx / 2) (ty / 2) g)

-- keys rise: the leg that is reached has the lesser one, so a pair is a debit where that leg is sold
pub note_rising : (t : PairTally) (tx ty n : ℕ) → tx / 2 < ty / 2 → note_as t (not (is_bought tx)) n ≡ note_at t tx ty n
unfolding note_at
note_rising t tx ty n h = grind (arith, nat_tests)

-- at most one pair more
pub note_few : (t : PairTally) (tx ty n : ℕ) → (note_at t tx ty n).pairs ≤ t.pairs + 1
unfolding note_at
note_few t tx ty n = grind (arith, nat_tests)

-- one pair more is one debit or one credit more
pub counted_more : (debits credits : ℕ) (d : Bool) → counted (debits + cond d 1 0) (credits + cond d 0 1) ≡ one_more (counted debits credits) d
counted_more debits credits true = λ i. record { pairs = sum i; debit = (lt-ltb 0 (debits + 1) (omega arith) ∙ sym (or_true (ltb 0 debits))) i; credit = (ap (ltb 0) (add-zero credits) ∙ sym (or_false (ltb 0 credits))) i }
  where
    sum : debits + 1 + (credits + 0) ≡ debits + credits + 1
    sum = omega arith
counted_more debits credits false = λ i. record { pairs = sum i; debit = (ap (ltb 0) (add-zero debits) ∙ sym (or_false (ltb 0 debits))) i; credit = (lt-ltb 0 (credits + 1) (omega arith) ∙ sym (or_true (ltb 0 credits))) i }
  where
    sum : debits + 0 + (credits + 1) ≡ debits + credits + 1
    sum = omega arith

-- what is matched is of one group
pub matched_group : (tx x ty y : ℕ) → 0 < matched_at tx x ty y → group_of tx ≡ group_of ty
unfolding matched_at
matched_group tx x ty y h = grind (arith, nat_tests)

-- what is matched of a leg is matched of as many contracts of it
pub matched_again : (tx x ty y m : ℕ) → m ≡ matched_at tx x ty y → matched_at tx m ty y ≡ m
unfolding matched_at
matched_again tx x ty y m e = grind (arith, nat_tests)

pub matched_small : (tx x ty y : ℕ) → (matched_at tx x ty y ≤ x) × (matched_at tx x ty y ≤ y)
unfolding matched_at
matched_small tx x ty y = (grind (arith, nat_tests), grind (arith, nat_tests))
