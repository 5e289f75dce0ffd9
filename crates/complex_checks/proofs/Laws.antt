-- The checks of complex orders, and the strikes' bound.
use mathlib.Core.Path.{◌≡◌, refl, sym, ap, ◌∙◌}
use mathlib.Core.List.{List, [], ◌∷◌, map, zip_with}
use mathlib.Core.Bool.{Bool, true, false, cond, not, ◌&&◌, true≢false}
use Prim.Native.Nat.{ℕ, ◌+◌, ◌-◌, ◌*◌, ◌/◌, ◌%◌, ◌≤◌}
use native.Mathlib.Omega.{arith}
use lib.ListN.{length}
use native.Mathlib.Nat.{mul-le-mul}
use lib.Dec.{eqb, ltb}
use Rattle.rules.specs.declared.Terms.{Terms}
use Rattle.rules.specs.declared.Leg.{Leg}
use Rattle.rules.specs.declared.Settings.{Settings}
use Rattle.rules.specs.declared.Market.{Market}
use Rattle.rules.specs.Lists.{All, every}
use Rattle.rules.specs.Order.{is_yes, has_shares, is_complex}
use Rattle.rules.specs.Class.{strike_of, is_vertical, is_butterfly, is_box, shape_of}
use Rattle.rules.specs.Checks.{put_test, call_test, buy_buy, debit_credit, maximum_of, allowance, has_maximum, maximum_value}
use Rattle.rules.specs.Numbers.{first_of, rejection}
use Rattle.rules.proofs.Tests.{and_true}
use Rattle.laws.proofs.Simple.{no_simple_buy, no_tick_distance}
use Rattle.keys.specs.Tags.{series_at, leg_at, legs_from}

-- the checks of simple orders do not apply
pub of_complex : (st : Settings) (m : Market) (t : Terms) (us : List Leg) (class : ℕ) → is_complex t us ≡ true
    → first_of ((is_yes st.check22 && buy_buy st t us, 22) ∷ (is_yes st.check23 && debit_credit t us class, 23) ∷ (is_yes st.check24 && maximum_value st t us, 24) ∷ [])
    ≡ rejection st m t us class
unfolding rejection first_of
of_complex st m t us class h =
    rw (no_simple_buy t us h (is_yes st.check20) put_test, no_simple_buy t us h (is_yes st.check21) (call_test (is_yes st.adjusted) m), no_tick_distance t us h (is_yes st.check25) st m)

-- ---- check 24

pub share_bound : (m percentage : ℕ) → m ≤ 99999999 → percentage ≤ 10000 → m * percentage ≤ 999999990000
share_bound m percentage h k = omega (arith, mul-le-mul h k)

pub maximum_read : (st : Settings) (t : Terms) (us : List Leg)
    → maximum_value st t us ≡ not (has_shares t) && (has_maximum (shape_of us) && ltb (maximum_of us + allowance st (maximum_of us)) t.price.size.0)
unfolding maximum_value every
maximum_read st t us = ap (λ (b : Bool). not (has_shares t) && (has_maximum (shape_of us) && b)) (and_true _)

-- a tag's strike has at most eight digits
pub strike_bound : (root tag size : ℕ) → strike_of (leg_at root false tag size) ≤ 99999999
unfolding series_at
strike_bound root tag size = go (eqb (tag / 2 / 10000000000000000) 1)
  where
    go : (c : Bool) → cond c (99999999 - tag / 2 % 100000000) (tag / 2 % 100000000) ≤ 99999999
    go true = omega arith
    go false = omega arith

-- so has M, which is at most one of the strikes
maximum_least : (ls : List Leg) → All (λ l. strike_of l ≤ 99999999) ls → maximum_of ls ≤ 99999999
unfolding maximum_of
maximum_least [] h = omega arith
maximum_least (a ∷ []) h = omega arith
maximum_least (a ∷ b ∷ []) h = let p = h.0 in let q = h.1.0 in omega arith
maximum_least (a ∷ m ∷ b ∷ []) h = let q = h.1.0 in omega arith
maximum_least (p ∷ q ∷ d ∷ c ∷ r) h = let k = h.1.1.0 in omega arith

strikes_bound : (root : ℕ) (tags units : List ℕ) → All (λ l. strike_of l ≤ 99999999) (legs_from root false tags units)
unfolding zip_with
strikes_bound root [] units = tt
strikes_bound root (t ∷ tags) [] = tt
strikes_bound root (t ∷ tags) (u ∷ units) = (strike_bound root t u, strikes_bound root tags units)

pub maximum_bound : (root : ℕ) (tags units : List ℕ) → maximum_of (legs_from root false tags units) ≤ 99999999
maximum_bound root tags units = maximum_least (legs_from root false tags units) (strikes_bound root tags units)

-- a shape that has a maximum value has two legs or more
pub maximum_legs : (tags units : List ℕ) {shape : ℕ} → shape ≡ shape_of (legs_from 0 false tags units) → has_maximum shape ≡ true → 2 ≤ length tags
unfolding zip_with shape_of
maximum_legs [] units e h = absurd (true≢false (sym h ∙ ap has_maximum e))
maximum_legs (t ∷ []) [] e h = absurd (true≢false (sym h ∙ ap has_maximum e))
maximum_legs (t ∷ []) (u ∷ units) e h = absurd (true≢false (sym h ∙ ap has_maximum e))
maximum_legs (t ∷ s ∷ tags) units e h = omega arith

-- no shape looks at the legs' root
abbrev rooted : ℕ → Leg → Leg
rooted root l = record { root = root; series = l.series; bought = l.bought; size = l.size }

legs_rooted : (root : ℕ) (tags units : List ℕ) → legs_from root false tags units ≡ map (rooted root) (legs_from 0 false tags units)
unfolding zip_with
legs_rooted root [] units = refl
legs_rooted root (t ∷ tags) [] = refl
legs_rooted root (t ∷ tags) (u ∷ units) = ap (λ (ls : List Leg). leg_at root false t u ∷ ls) (legs_rooted root tags units)

shape_rooted : (root : ℕ) (ls : List Leg) → shape_of (map (rooted root) ls) ≡ shape_of ls
unfolding shape_of is_vertical is_butterfly is_box
shape_rooted root [] = refl
shape_rooted root (a ∷ []) = refl
shape_rooted root (a ∷ b ∷ []) = refl
shape_rooted root (a ∷ b ∷ c ∷ []) = refl
shape_rooted root (a ∷ b ∷ c ∷ d ∷ []) = refl
shape_rooted root (a ∷ b ∷ c ∷ d ∷ e ∷ r) = refl

pub shape_root : (root : ℕ) (tags units : List ℕ) → shape_of (legs_from 0 false tags units) ≡ shape_of (legs_from root false tags units)
shape_root root tags units = sym (ap shape_of (legs_rooted root tags units) ∙ shape_rooted root _)
