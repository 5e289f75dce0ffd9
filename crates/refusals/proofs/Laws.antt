-- The price: a simple order has one leg.
use Rattle.std.proofs.Common.{◌≡◌, cond, not, ◌&&◌, ◌||◌, List, [], ◌∷◌, get_or, ltb, arith}
use Rattle.rules.specs.declared.Terms.{Terms}
use Rattle.rules.specs.declared.Leg.{Leg}
use Rattle.rules.specs.Lists.{all}
use Rattle.rules.specs.Order.{is_simple, no_leg}
use Rattle.rules.specs.Checks.{is_positive, is_negative}
use Rattle.rules.specs.Numbers.{is_bad_price}
use Rattle.laws.proofs.Simple.{simple_length}

-- of a simple order, the side of its leg is enough
pub price_of_one : (t : Terms) (ls : List Leg)
    → is_bad_price t ls ≡ ltb 1000000000000 t.price.size.0 || is_simple t ls && not (cond (get_or ls 0 no_leg).bought (is_positive t.price) (is_negative t.price))
unfolding is_bad_price all
price_of_one t [] = grind (arith, simple_length)
price_of_one t (x ∷ []) = grind (arith, simple_length)
price_of_one t (x ∷ y ∷ ls) = grind (arith, simple_length)
