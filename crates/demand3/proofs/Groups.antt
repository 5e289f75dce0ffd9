-- Tests of a group as statements.
use mathlib.Core.Path.{◌≡◌}
use mathlib.Core.Bool.{true}
use lib.Dec.{eqb}
use borrow.Author.Tests.{eqb-true}
use Rattle.rules.specs.declared.Series.{Series}
use Rattle.rules.specs.Lists.{same_bool}
use Rattle.rules.specs.Pairing.{one_expiry, one_strike}
use Rattle.demand3.specs.Fair.{ShareExpiry, ShareStrike}
use Rattle.rules.proofs.Tests.{and_both, same_eq}

pub one_expiry_lem : (s t : Series) → one_expiry s t ≡ true → ShareExpiry s t
one_expiry_lem s t e =
    let h = and_both (same_bool s.call t.call) (eqb s.expiry t.expiry) e in
    (same_eq s.call t.call h.0, eqb-true s.expiry t.expiry h.1)

pub one_strike_lem : (s t : Series) → one_strike s t ≡ true → ShareStrike s t
one_strike_lem s t e =
    let h = and_both (same_bool s.call t.call) (eqb s.strike.0 t.strike.0) e in
    (same_eq s.call t.call h.0, eqb-true s.strike.0 t.strike.0 h.1)

pub series_eq : (s t : Series) → s.call ≡ t.call → s.expiry ≡ t.expiry → s.strike.0 ≡ t.strike.0 → s ≡ t
series_eq s t p q r = λ i. record { call = p i; expiry = q i; strike = record { 0 = r i } }
