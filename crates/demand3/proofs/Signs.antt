-- Net worth as a signed number: what is bought less what is sold.
use mathlib.Core.Path.{◌≡◌, refl, sym, ap}
use mathlib.Core.List.{List, [], ◌∷◌}
use mathlib.Core.Bool.{Bool, true, false, cond}
use Prim.Native.Nat.{ℕ, zero, suc, ◌+◌, ◌-◌, ◌*◌, ◌≤◌}
use native.Mathlib.Nat.{zero-mul, zero-add}
use native.Mathlib.Omega.{arith}
use lib.Dec.{le→leb}
use lib.IntN.{pos, neg_ℤ, ◌+ℤ◌, ◌-ℤ◌, ◌*ℤ◌, +ℤ_assoc, +ℤ_comm, neg_ℤ-+ℤ, neg_ℤ-neg_ℤ}
use lib.Signed.{◌≤ℤ◌, le_z_yes}
use borrow.Author.Tests.{le-ltb}
use Rattle.rules.specs.declared.Series.{Series}
use Rattle.rules.specs.declared.Leg.{Leg}
use Rattle.rules.specs.Lists.{same_bool}
use Rattle.rules.specs.Order.{worth_of}
use Rattle.demand3.proofs.Worth.{worth}

neg_mul : (n p : ℕ) → neg_ℤ (pos n) *ℤ pos p ≡ neg_ℤ (pos (n * p))
neg_mul zero p = rw zero-mul
neg_mul (suc n) p = refl

-- b is added to what is bought, s to what is sold
add_bought : (b B S : ℕ) → pos b +ℤ (pos B -ℤ pos S) ≡ pos (b + B) -ℤ pos S
add_bought b B S = sym (+ℤ_assoc (pos b) (pos B) (neg_ℤ (pos S)))

add_sold : (s B S : ℕ) → neg_ℤ (pos s) +ℤ (pos B -ℤ pos S) ≡ pos B -ℤ pos (s + S)
add_sold s B S =
    cc (+ℤ_assoc (neg_ℤ (pos s)) (pos B) (neg_ℤ (pos S)), +ℤ_comm (neg_ℤ (pos s)) (pos B), +ℤ_assoc (pos B) (neg_ℤ (pos s)) (neg_ℤ (pos S)), neg_ℤ-+ℤ (pos s) (pos S))

pub worth_is : (v : Series → ℕ) (ls : List Leg) → worth_of v ls ≡ pos (worth v true ls) -ℤ pos (worth v false ls)
unfolding worth_of worth
worth_is v [] = refl
worth_is v (l ∷ ls) = rw (worth_is v ls) (go l.bought)
  where
    B : ℕ
    B = worth v true ls

    S : ℕ
    S = worth v false ls

    w : ℕ
    w = l.size * v l.series

    go : (b : Bool) → cond b (pos l.size) (neg_ℤ (pos l.size)) *ℤ pos (v l.series) +ℤ (pos B -ℤ pos S) ≡ pos (cond (same_bool true b) w 0 + B) -ℤ pos (cond (same_bool false b) w 0 + S)
    go true = rw zero-add (add_bought w B S)
    go false = rw (zero-add, neg_mul l.size) (add_sold w B S)

pub minus_up : (B S : ℕ) → S ≤ B → pos B -ℤ pos S ≡ pos (B - S)
minus_up B zero h = ap pos (omega arith)
minus_up B (suc S) h = rw (le-ltb B (suc S) h)

pub minus_down : (B S : ℕ) → B ≤ S → pos B -ℤ pos S ≡ neg_ℤ (pos (S - B))
minus_down B S h =
    cc (minus_up S B h, neg_ℤ-+ℤ (pos S) (neg_ℤ (pos B)), neg_ℤ-neg_ℤ (pos B), +ℤ_comm (neg_ℤ (pos S)) (pos B))

-- a difference's sign
pub up_sign : (B S : ℕ) → S ≤ B → pos 0 ≤ℤ (pos B -ℤ pos S)
up_sign B S h = rw (minus_up B S h) (le_z_yes (le→leb 0 (B - S) (omega arith)))

neg_le : (n : ℕ) → neg_ℤ (pos n) ≤ℤ pos 0
neg_le zero = le_z_yes tt
neg_le (suc n) = le_z_yes tt

pub down_sign : (B S : ℕ) → B ≤ S → (pos B -ℤ pos S) ≤ℤ pos 0
down_sign B S h = rw (minus_down B S h) (neg_le (S - B))
