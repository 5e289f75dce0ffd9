use mathlib.Core.Path.{◌≡◌, refl, ap, ◌∙◌}
use mathlib.Core.List.{[], ◌∷◌}
use mathlib.Core.Bool.{Bool, true, false, cond}
use Prim.Native.Nat.{ℕ}
use native.Mathlib.Omega.{arith}
use lib.IntN.{ℤ, pos, neg_ℤ}
use Rattle.rules.specs.declared.Shares.{Shares}
use Rattle.rules.specs.Lists.{swap, keep, then, all}
use Rattle.rules.specs.Order.{signed_shares}
use Rattle.demand3.specs.Reach.{Reach}

-- a share count of size 0 is 0, of either side
no_shares : (s : Shares) → s.size ≡ 0 → signed_shares s ≡ pos 0
no_shares s e = ap (λ (n : ℕ). cond {A = ℤ} s.bought (pos n) (neg_ℤ (pos n))) e ∙ either s.bought
  where
    either : (b : Bool) → cond {A = ℤ} b (pos 0) (neg_ℤ (pos 0)) ≡ pos 0
    either true = refl
    either false = refl

pub reach_is : Reach
unfolding all
reach_is =
    record {
      turned = then (swap 1 2 (3 ∷ [])) (then (keep 2 (swap 1 3 [])) (swap 2 3 (1 ∷ [])));
      valid = (refl, (refl, (refl, (refl, (refl, (refl, (refl, tt)))))));
      refused = refl;
      rejected = ((λ f. f (omega arith) (omega arith)), ((λ f. f (omega arith) (omega arith)), ((λ f. f (omega arith) (omega arith)), ((λ f. f (omega arith) (omega arith)), ((λ f. f (omega arith) (omega arith)), tt)))));
      whole = λ d a xs ys w p none v premium f. let r = d.whole a xs ys w p in (r.debit none v premium f, r.credit none v premium f, r.sound none v premium f);
      order_record = λ d st m o q e l p none v premium f.
          let r = d.order_record st m o q e l p in
          let z = no_shares o.terms.shares none in
          (r.debit z v premium f, r.credit z v premium f, r.sound z v premium f);
    }
