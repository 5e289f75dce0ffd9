-- What owning an array of raw legs tells of it: each symbol has 21 bytes.
use mathlib.Core.Path.{◌≡◌}
use mathlib.Core.List.{List, [], ◌∷◌}
use Prim.Native.Nat.{ℕ, zero, suc, ◌<◌}
use native.Mathlib.Omega.{arith}
use lib.ListN.{length, get_or}
use mir.Val.{Val}
use borrow.Kind.Array.{e_struct}
use denote.Array.{each}
use denote.Shadow.{shadow}
use Rattle.rules.specs.declared.RawLeg.{RawLeg}
use Rattle.rules.specs.Order.{no_raw_leg}
use Rattle.rules.specs.contracts.RawLeg.{the_type}
use Rattle.rules.proofs.RawLeg.TheLaws.{the_laws, the_copy}

pub symbol_length : (rs : List RawLeg) (us : List Val) (i : ℕ) → i < length rs → shadow (each (e_struct the_type the_laws the_copy).ty.Denot (e_struct the_type the_laws the_copy).ty.own_val rs us) → length (get_or rs i no_raw_leg).symbol ≡ 21
symbol_length [] us i h p = absurd (omega (arith, h))
symbol_length (r ∷ rs) [] i h p = absurd p
symbol_length (r ∷ rs) (u ∷ us) zero h p = p.0.1.1.1.1.0.1.0.1
symbol_length (r ∷ rs) (u ∷ us) (suc i) h p = symbol_length rs us i (omega (arith, h)) p.1
