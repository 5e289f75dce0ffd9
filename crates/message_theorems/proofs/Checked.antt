-- A message that is not turned away gets the order check's answer to its legs in slices: both are the check on those legs.
use mathlib.Core.Path.{◌≡◌, sym, ap, ◌∙◌}
use mathlib.Core.List.{List}
use Prim.Native.Nat.{ℕ}
use lib.ListN.{length, length-map}
use lib.IntN.{pos}
use Rattle.rules.specs.declared.RawLeg.{RawLeg}
use Rattle.rules.specs.Order.{Lent, raw_leg, lent_legs, terms_of}
use Rattle.rules.specs.Numbers.{outcome, check_legs}
use Rattle.rules.specs.Fix.{order_of, check_fix}
use Rattle.demand3.proofs.Slicing.{slices_are}
use Rattle.message_theorems.specs.Checked.{Checked}

pub checked : Checked
unfolding check_fix outcome
checked a m xs h w e =
    let t = terms_of (order_of m).price (order_of m).kind a.stop a.manual a.opening (pos 0) in
    let n : length (lent_legs xs) ≡ length xs = length-map xs (λ (l : Lent). raw_leg l.symbol l.count) in
    rw h (
    ap (λ (rs : List RawLeg). check_legs a.settings a.market t (length rs) rs) (sym e)
    ∙ ap (λ (k : ℕ). check_legs a.settings a.market t k (lent_legs xs)) n
    ∙ sym (slices_are a.settings a.market t xs w)
    )
