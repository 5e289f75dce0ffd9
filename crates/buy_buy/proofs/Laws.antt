-- Check 22 by tags and unit counts.
use mathlib.Core.Path.{◌≡◌, refl, sym, ap, ◌∙◌}
use mathlib.Core.List.{List, [], ◌∷◌, zip_with}
use mathlib.Core.Bool.{Bool, true, false, not, ◌&&◌, ◌||◌}
use Prim.Native.Nat.{ℕ, suc, ◌+◌, ◌*◌, ◌<◌, ◌≤◌}
use native.Mathlib.Omega.{arith}
use lib.ListN.{length, get_or}
use lib.Dec.{eqb}
use Rattle.std.specs.List.{list_all, sum}
use Rattle.std.proofs.lemmas.List.Sums.{sum_by-cons}
use Rattle.rules.specs.declared.Terms.{Terms}
use Rattle.rules.specs.declared.Leg.{Leg}
use Rattle.rules.specs.declared.Settings.{Settings}
use Rattle.rules.specs.Lists.{All, same_bool, all, every}
use Rattle.rules.specs.Order.{is_complex}
use Rattle.rules.specs.Checks.{sizes, is_below, shares_on, same_side_below, buy_buy}
use Rattle.rules.specs.Valid.{UnitWithin, ComplexOrder}
use Rattle.rules.proofs.Tests.{and_true, or_false}
use Rattle.laws.proofs.Simple.{simple_same}
use Rattle.keys.specs.Tags.{is_bought, leg_at, legs_from}
use Rattle.arranging.proofs.Zip.{zip_length}

-- sides are the tags'
pub sides_of : (root : ℕ) (f : Bool → Bool) (tags units : List ℕ) → length tags ≡ length units
    → all (λ u. f u.bought) (legs_from root false tags units) ≡ list_all (λ t. f (is_bought t)) tags
unfolding all zip_with
sides_of root f [] units e = refl
sides_of root f (t ∷ tags) [] e = absurd (omega arith)
sides_of root f (t ∷ tags) (u ∷ units) e = ap (λ (b : Bool). f (is_bought t) && b) (sides_of root f tags units (omega arith))

-- sizes are the unit counts
pub sizes_of_lem : (root : ℕ) (tags units : List ℕ) → length tags ≡ length units → sizes (legs_from root false tags units) ≡ sum units
unfolding sizes zip_with
sizes_of_lem root [] [] e = refl
sizes_of_lem root [] (u ∷ units) e = absurd (omega arith)
sizes_of_lem root (t ∷ tags) [] e = absurd (omega arith)
sizes_of_lem root (t ∷ tags) (u ∷ units) e =
    ap (λ (s : ℕ). u + s) (sizes_of_lem root tags units (omega arith)) ∙ sym (sum_by-cons (λ x. x) u units)

-- and small, as each is
sum_bound : (tags units : List ℕ) → length tags ≡ length units → All UnitWithin (legs_from 0 false tags units) → sum units ≤ 10000 * length units
unfolding zip_with
sum_bound [] [] e h = omega arith
sum_bound [] (u ∷ units) e h = absurd (omega arith)
sum_bound (t ∷ tags) [] e h = absurd (omega arith)
sum_bound (t ∷ tags) (u ∷ units) e h =
    omega (arith, h.0.size, sum_bound tags units (omega arith) h.1, sum_by-cons (λ x. x) u units)

-- each as small as the legs
pub sizes_small : (root : ℕ) (tags units : List ℕ) → length tags ≡ length units → All UnitWithin (legs_from root false tags units) → All (λ s. s ≤ 10000) units
unfolding zip_with
sizes_small root [] [] e h = tt
sizes_small root [] (u ∷ units) e h = absurd (omega arith)
sizes_small root (t ∷ tags) [] e h = tt
sizes_small root (t ∷ tags) (u ∷ units) e h = (h.0.size, sizes_small root tags units (omega arith) h.1)

-- as many legs of another root, and as small
with_root : (root r : ℕ) (tags units : List ℕ)
    → (length (legs_from r false tags units) ≡ length (legs_from root false tags units)) × (All UnitWithin (legs_from root false tags units) → All UnitWithin (legs_from r false tags units))
unfolding zip_with
with_root root r [] units = (refl, λ h. tt)
with_root root r (t ∷ tags) [] = (refl, λ h. tt)
with_root root r (t ∷ tags) (u ∷ units) = let k = with_root root r tags units in (ap suc k.0, λ h. (record { size = h.0.size; strike = h.0.strike }, k.1 h.1))

pub complex_root : (st : Settings) (t : Terms) (root r : ℕ) (tags units : List ℕ) → ComplexOrder st t (legs_from root false tags units) → ComplexOrder st t (legs_from r false tags units)
complex_root st t root r tags units c =
    let e = with_root root r tags units in
    record {
      settings = c.settings;
      complex = ap not (simple_same t _ _ e.0) ∙ c.complex;
      some = omega (arith, e.0, c.some);
      few = omega (arith, e.0, c.few);
      each = e.1 c.each;
    }

-- legs of one side are of the first leg's
either_side : (b : Bool) (on below : Bool → Bool)
    → (same_bool true b && on true) && below true || (same_bool false b && on false) && below false ≡ (same_bool b b && on b) && below b
either_side true on below = or_false _
either_side false on below = refl

below_grouped : (limit shares on below : Bool) → not (not limit) && ((on && (shares && (below && true))) && true) ≡ limit && (shares && (on && below))
below_grouped true true true below = and_true _ ∙ and_true below
below_grouped true true false below = refl
below_grouped true false true below = refl
below_grouped true false false below = refl
below_grouped false shares on below = refl

read_first : (st : Settings) (t : Terms) (x : Leg) (ls : List Leg) → is_complex t (x ∷ ls) ≡ true
    → buy_buy st t (x ∷ ls) ≡ eqb t.kind 0 && (shares_on x.bought t && (all (λ u. same_bool x.bought u.bought) (x ∷ ls) && is_below x.bought t.price (sizes (x ∷ ls) * st.increment.0)))
unfolding buy_buy every same_side_below all
read_first st t x ls c =
    let grouped = below_grouped (eqb t.kind 0) (shares_on x.bought t) (all (λ u. same_bool x.bought u.bought) (x ∷ ls)) _ in
    rw (c, either_side x.bought (λ side. all (λ u. same_bool side u.bought) ls) (λ side. shares_on side t && (is_below side t.price (sizes (x ∷ ls) * st.increment.0) && true))) grouped

module _ (st : Settings) (t : Terms) (tags units : List ℕ) (same : length tags ≡ length units) (order : ComplexOrder st t (legs_from 0 false tags units)) where
  many : (root : ℕ) → length (legs_from root false tags units) ≡ length tags
  many root = zip_length (leg_at root false) tags units same

  pub some : 0 < length tags
  some = omega (arith, many 0, order.some)

  pub sum_small : sum units ≤ 160000
  sum_small = omega (arith, many 0, order.few, sum_bound tags units same order.each)

  -- whatever the legs' root
  pub complex : (root : ℕ) → is_complex t (legs_from root false tags units) ≡ true
  complex root = (complex_root st t 0 root tags units order).complex

-- the tests as the code makes them, of legs on a side
abbrev tested : Settings → Terms → List ℕ → List ℕ → Bool → Bool
tested st t tags units side =
    eqb t.kind 0 && (shares_on side t && (list_all (λ x. same_bool side (is_bought x)) tags && is_below side t.price (sum units * st.increment.0)))

pub buy_buy_read : (st : Settings) (t : Terms) (tags units : List ℕ) (same : length tags ≡ length units) (order : ComplexOrder st t (legs_from 0 false tags units)) (side : Bool)
    → side ≡ is_bought (get_or tags 0 0)
    → (root : ℕ)
    → buy_buy st t (legs_from root false tags units) ≡ tested st t tags units side
unfolding zip_with
buy_buy_read st t [] units same order side h root = absurd (omega (arith, some st t [] units same order))
buy_buy_read st t (x ∷ tags) [] same order side h root = absurd (omega arith)
buy_buy_read st t (x ∷ tags) (u ∷ units) same order side h root =
    let first : buy_buy st t (legs_from root false (x ∷ tags) (u ∷ units)) ≡ tested st t (x ∷ tags) (u ∷ units) (is_bought x) =
    rw (← sides_of root (same_bool (is_bought x)) (x ∷ tags) (u ∷ units) same, ← sizes_of_lem root (x ∷ tags) (u ∷ units) same)
    (read_first st t _ _ (complex st t (x ∷ tags) (u ∷ units) same order root))
    in
    first ∙ ap (tested st t (x ∷ tags) (u ∷ units)) (sym h)
