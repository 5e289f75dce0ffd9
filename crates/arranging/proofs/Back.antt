-- Back from a key and a tag to the series and the leg.
use mathlib.Core.Path.{◌≡◌, refl, sym, ap, ap₂, ◌∙◌}
use mathlib.Core.List.{List, [], ◌∷◌, map, zip_with}
use mathlib.Core.Bool.{Bool, true, false, cond}
use Prim.Native.Nat.{ℕ, ◌+◌, ◌-◌, ◌*◌, ◌/◌, ◌%◌, ◌<◌}
use native.Mathlib.Omega.{arith}
use lib.Dec.{eqb}
use borrow.Author.Tests.{eq-eqb, ne_eqb}
use Rattle.rules.specs.declared.Series.{Series}
use Rattle.rules.specs.declared.Leg.{Leg}
use Rattle.rules.specs.Lists.{All}
use Rattle.rules.specs.Pairing.{digit}
use Rattle.rules.specs.Valid.{InRange}
use Rattle.keys.specs.Tags.{key_of, series_at, tag_of, leg_at, legs_from}
use Rattle.keys.proofs.Keys.{key_call, small_digit}

-- the key says the series
decode : (second : Bool) (k : ℕ) (s : Series) (c : Bool) → s.call ≡ c → eqb (k / 10000000000000000) 1 ≡ c
    → cond second (k % 100000000) (k / 100000000 % 100000000) ≡ s.expiry
    → cond second (k / 100000000 % 100000000) (cond c (99999999 - k % 100000000) (k % 100000000)) ≡ s.strike.0
    → series_at second k ≡ s
unfolding series_at
decode second k s c f p e q =
    let t = ap (λ (b : Bool). cond second (k / 100000000 % 100000000) (cond b (99999999 - k % 100000000) (k % 100000000))) p ∙ q in
    let g = p ∙ sym f in
    λ i. record { call = g i; expiry = e i; strike = record { 0 = t i } }

abbrev Back : Bool → Series → Type 0
Back second s = (series_at second (key_of second s) ≡ s) × (key_of second s < 20000000000000000)

pub back : (second : Bool) (s : Series) → InRange s → Back second s
back second s r = go second s.call refl
  where
    go : (b c : Bool) → s.call ≡ c → Back b s
    go true true f =
        let e = key_call true s true f in
        (decode true (key_of true s) s true f (eq-eqb (key_of true s / 10000000000000000) 1 (omega (arith, e, r.expiry, r.strike))) (omega (arith, e, r.expiry, r.strike)) (omega (arith, e, r.expiry, r.strike)), omega (arith, e, r.expiry, r.strike))
    go true false f =
        let e = key_call true s false f in
        (decode true (key_of true s) s false f (ne_eqb (key_of true s / 10000000000000000) 1 (λ z. absurd (omega (arith, e, r.expiry, r.strike)))) (omega (arith, e, r.expiry, r.strike)) (omega (arith, e, r.expiry, r.strike)), omega (arith, e, r.expiry, r.strike))
    go false true f =
        let e = key_call false s true f in
        (decode false (key_of false s) s true f (eq-eqb (key_of false s / 10000000000000000) 1 (omega (arith, e, r.expiry, r.strike))) (omega (arith, e, r.expiry, r.strike)) (omega (arith, e, r.expiry, r.strike)), omega (arith, e, r.expiry, r.strike))
    go false false f =
        let e = key_call false s false f in
        (decode false (key_of false s) s false f (ne_eqb (key_of false s / 10000000000000000) 1 (λ z. absurd (omega (arith, e, r.expiry, r.strike)))) (omega (arith, e, r.expiry, r.strike)) (omega (arith, e, r.expiry, r.strike)), omega (arith, e, r.expiry, r.strike))

-- two series of one key are one
pub key_tells : (second : Bool) (s t : Series) → InRange s → InRange t → key_of second s ≡ key_of second t → s ≡ t
key_tells second s t r q e = sym (back second s r).0 ∙ ap (series_at second) e ∙ (back second t q).0

side_back : (k : ℕ) (b : Bool) → eqb ((k * 2 + digit b) % 2) 1 ≡ b
side_back k true = eq-eqb ((k * 2 + 1) % 2) 1 (omega arith)
side_back k false = ne_eqb ((k * 2 + 0) % 2) 1 (λ z. absurd (omega arith))

pub tag_half : (second : Bool) (x : Leg) → tag_of second x / 2 ≡ key_of second x.series
tag_half second x = omega (arith, small_digit x.bought)

pub tag_small : (second : Bool) (x : Leg) → InRange x.series → tag_of second x < 40000000000000000
tag_small second x r = omega (arith, small_digit x.bought, (back second x.series r).1)

-- the tag and the contracts say the leg
leg_back : (second : Bool) (x : Leg) → InRange x.series → leg_at x.root second (tag_of second x) x.size ≡ x
leg_back second x r =
    let s = ap (series_at second) (tag_half second x) ∙ (back second x.series r).0 in
    let b = side_back (key_of second x.series) x.bought in
    λ i. record { root = x.root; series = s i; bought = b i; size = x.size }

pub legs_back : (root : ℕ) (second : Bool) (ls : List Leg) → All (λ x. InRange x.series) ls → All (λ x. x.root ≡ root) ls → legs_from root second (map (tag_of second) ls) (map (λ x. x.size) ls) ≡ ls
unfolding zip_with
legs_back root second [] h k = refl
legs_back root second (x ∷ ls) h k = ap₂ ◌∷◌ (ap (λ (r : ℕ). leg_at r second (tag_of second x) x.size) (sym k.0) ∙ leg_back second x h.0) (legs_back root second ls h.1 k.1)
