-- An order of one leg: it has one unit, pairs with nothing, and its side is its class; no check asks for its root.
use mathlib.Core.Path.{◌≡◌, refl, sym, ap, ◌∙◌}
use mathlib.Core.List.{[], ◌∷◌}
use mathlib.Core.Bool.{Bool, true, false, cond, ◌||◌, ◌&&◌}
use Prim.Native.Nat.{ℕ, ◌/◌, ◌%◌, ◌≤◌, ◌<◌}
use lib.Dec.{eqb}
use native.Mathlib.Omega.{arith}
use lib.Ieee.Nearest.{div_same}
use borrow.Author.Tests.{ne_eqb}
use Rattle.rules.specs.declared.Leg.{Leg}
use Rattle.rules.specs.declared.Terms.{Terms}
use Rattle.rules.specs.declared.Settings.{Settings}
use Rattle.rules.specs.declared.Market.{Market}
use Rattle.rules.specs.Lists.{sort, insert, all, same_bool, every}
use Rattle.rules.specs.Order.{is_yes, gcd, gcd_within, common_divisor, units, has_shares, is_simple}
use Rattle.rules.specs.Pairing.{reach, walk, by_expiry, both_walks}
use Rattle.rules.specs.Class.{shape_of, all_of, pair_class, class_with, class_of}
use Rattle.rules.specs.Checks.{simple_buy, sizes, shares_on, same_side_below, buy_buy, debit_credit, maximum_of, maximum_value}
use Rattle.rules.specs.Market.{is_too_far, tick_distance}
use Rattle.rules.specs.Numbers.{rejection, judged}
use Rattle.keys.specs.Tags.{leg_at}
use Rattle.judge.proofs.Laws.{answer}

-- one unit of the leg
abbrev pub one_unit : Leg → Leg
one_unit x = record { root = x.root; series = x.series; bought = x.bought; size = 1 }

both_one : (european : Bool) (x : Leg) → both_walks european (x ∷ []) ≡ record { pairs = []; legs = x ∷ [] }
unfolding both_walks by_expiry sort insert walk reach
both_one true x = refl
both_one false x = refl

units_one : (x : Leg) → 0 < x.size → units (x ∷ []) ≡ one_unit x ∷ []
unfolding units common_divisor gcd gcd_within
units_one x h =
    let e : x.size / x.size ≡ 1 = div_same x.size x.size 1 1 h (omega arith) (omega arith) in
    ap (λ (n : ℕ). record { root = x.root; series = x.series; bought = x.bought; size = n } ∷ []) e

class_one : (x u : Leg) → 0 < x.size → class_of (u ∷ []) (record { pairs = []; legs = x ∷ [] }) ≡ cond x.bought 1 2
unfolding class_with pair_class all_of all
class_one x u h = rw (ne_eqb x.size 0 (λ e. absurd (omega arith))) (go x.bought)
  where
    go : (b : Bool) → ◌≡◌ {A = ℕ} (cond (true && ((false || same_bool true b) && true)) 1 (cond (true && ((false || same_bool false b) && true)) 2 0)) (cond b 1 2)
    go true = refl
    go false = refl

-- the checks of one leg, of any root
rejection_root : (st : Settings) (m : Market) (t : Terms) (root : ℕ) (u : Leg) (class : ℕ)
    → rejection st m t (u ∷ []) class ≡ rejection st m t (record { root = root; series = u.series; bought = u.bought; size = u.size } ∷ []) class
unfolding rejection has_shares is_simple simple_buy buy_buy shares_on same_side_below sizes debit_credit maximum_value maximum_of shape_of tick_distance is_too_far all every
rejection_root st m t root u class = refl

-- the answer to one leg, from one unit of it
judged_one : (st : Settings) (m : Market) (t : Terms) (root tag size : ℕ) → 1 ≤ size
    → judged st m t (leg_at root false tag size ∷ [])
    ≡ record { number = rejection st m t (leg_at 0 false tag 1 ∷ []) (cond (eqb (tag % 2) 1) 1 2); class = cond (eqb (tag % 2) 1) 1 2; shape = 0; pairings = 0 }
unfolding judged shape_of
judged_one st m t root tag size h =
    let x = leg_at root false tag size in
    rw (units_one x h, both_one (is_yes st.european) x, class_one x (one_unit x) h, rejection_root st m t root (leg_at 0 false tag 1) (cond (eqb (tag % 2) 1) 1 2))

-- the same, from the numbers of the unit
pub one_answer : (st : Settings) (m : Market) (t : Terms) (root tag size : ℕ) → 1 ≤ size
    → {u : Leg} {number class : ℕ}
    → u ≡ leg_at 0 false tag 1
    → ((c : ℕ) → number ≡ rejection st m t (u ∷ []) c)
    → class ≡ cond u.bought 1 2
    → record { number = number; class = class; shape = 0; pairings = 0 } ≡ judged st m t (leg_at root false tag size ∷ [])
one_answer st m t root tag size h e n c =
    answer (n _ ∙ ap (λ (u : Leg). rejection st m t (u ∷ []) (cond (eqb (tag % 2) 1) 1 2)) e) (c ∙ ap (λ (u : Leg). cond {A = ℕ} u.bought 1 2) e) refl refl
    ∙ sym (judged_one st m t root tag size h)
