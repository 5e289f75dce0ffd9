-- What settings and a market within their limits give: bounds, so that the checks' sums and products fit.
use mathlib.Core.Path.{◌≡◌}
use mathlib.Core.Bool.{Bool, true, false, cond, not, ◌&&◌, ◌||◌}
use Prim.Native.Nat.{ℕ, ◌≤◌}
use native.Mathlib.Omega.{arith}
use native.Mathlib.Nat.{mul-le-mul}
use lib.Dec.{eqb, ltb}
use Rattle.rules.specs.declared.Mills.{Mills}
use Rattle.rules.specs.declared.Ticks.{Ticks}
use Rattle.rules.specs.declared.Settings.{Settings}
use Rattle.rules.specs.declared.Market.{Market}
use Rattle.rules.specs.Order.{is_yes}
use Rattle.rules.specs.Limits.{within}
use Rattle.rules.specs.Quantities.{distance}
use Rattle.rules.specs.Market.{settings_hold, market_holds, is_missing, is_unusable, national, own, at_or_past, elsewhere_reference, reference, acceptable_ticks, tick_at}
use Rattle.rules.specs.Quote.{comparison}
use Rattle.rules.proofs.Tests.{within_both, passed}

most : (least greatest x : ℕ) → within least greatest x ≡ true → x ≤ greatest
most least greatest x h = (within_both least greatest x h).1

pub record SettingsBounds (st : Settings) : Type 0 where
  pub lowtick : st.lowtick.0 ≤ 1000
  pub hightick : st.hightick.0 ≤ 1000
  pub increment : st.increment.0 ≤ 1000
  pub atd0 : st.atd0.0 ≤ 1000
  pub atd1 : st.atd1.0 ≤ 1000
  pub atd2 : st.atd2.0 ≤ 1000
  pub atd3 : st.atd3.0 ≤ 1000
  pub percentage : st.percentage ≤ 10000
  pub presetminimum : st.presetminimum.0 ≤ 1000000
  pub presetmaximum : st.presetmaximum.0 ≤ 1000000
  pub setticks : st.setticks.0 ≤ 1000

pub settings_bounds : (st : Settings) → settings_hold st ≡ true → SettingsBounds st
unfolding settings_hold
settings_bounds st h =
    let p = passed _ h in
    record {
      lowtick = most _ _ _ p.0;
      hightick = most _ _ _ p.1.0;
      increment = most _ _ _ p.1.1.0;
      atd0 = most _ _ _ p.1.1.1.0;
      atd1 = most _ _ _ p.1.1.1.1.0;
      atd2 = most _ _ _ p.1.1.1.1.1.0;
      atd3 = most _ _ _ p.1.1.1.1.1.1.0;
      percentage = most _ _ _ p.1.1.1.1.1.1.1.0;
      presetminimum = most _ _ _ p.1.1.1.1.1.1.1.1.0;
      presetmaximum = most _ _ _ p.1.1.1.1.1.1.1.1.1.0;
      setticks = most _ _ _ p.1.1.1.1.1.1.1.1.1.1.1.0;
    }

either : {A : Type 0} (P : A → Type 0) (b : Bool) {x y : A} → P x → P y → P (cond b x y)
either P true h k = h
either P false h k = k

pub acceptable_bound : (st : Settings) (r : Mills) → settings_hold st ≡ true → (acceptable_ticks st r).0 ≤ 1000
unfolding acceptable_ticks
acceptable_bound st r h =
    let b = settings_bounds st h in
    let small : Ticks → Type 0 = λ x. x.0 ≤ 1000 in
    either small (ltb r.0 1000) b.atd0
    (either small (ltb r.0 3000) b.atd1 (either small (ltb r.0 10000) b.atd2 b.atd3))

pub tick_bound : (st : Settings) (r : Mills) → settings_hold st ≡ true → (tick_at st r).0 ≤ 1000
unfolding tick_at
tick_bound st r h = let b = settings_bounds st h in either (λ (x : Mills). x.0 ≤ 1000) (ltb r.0 3000) b.lowtick b.hightick

pub distance_bound : (ticks : Ticks) (tick : Mills) → ticks.0 ≤ 1000 → tick.0 ≤ 1000 → (distance ticks tick).0 ≤ 1000000
unfolding distance
distance_bound ticks tick h k = omega (arith, mul-le-mul h k)

abbrev small : Mills → Type 0
small x = x.0 ≤ 1000000000

record MarketBounds (m : Market) : Type 0 where
  pub nbb : small m.nbb
  pub nbo : small m.nbo
  pub ownbid : small m.ownbid
  pub ownoffer : small m.ownoffer
  pub close : small m.close

market_bounds : (m : Market) → market_holds m ≡ true → MarketBounds m
unfolding market_holds
market_bounds m h =
    let p = passed _ h in
    record {
      nbb = most 0 1000000000 m.nbb.0 p.1.1.0;
      nbo = most 0 1000000000 m.nbo.0 p.1.1.1.0;
      ownbid = most 0 1000000000 m.ownbid.0 p.1.1.1.1.0;
      ownoffer = most 0 1000000000 m.ownoffer.0 p.1.1.1.1.1.0;
      close = most 0 1000000000 m.close.0 p.1.1.1.1.1.1.0;
    }

-- the prices that a side meets
national_bound : (bought : Bool) (m : Market) → MarketBounds m → small (national bought m)
national_bound bought m b = either small bought b.nbo b.nbb

own_bound : (bought : Bool) (m : Market) → MarketBounds m → small (own bought m)
own_bound bought m b = either small bought b.ownoffer b.ownbid

pub reference_bound : (bought : Bool) (m : Market) → market_holds m ≡ true → (reference bought m).0 ≤ 1000000000
unfolding reference elsewhere_reference
reference_bound bought m h =
    let b = market_bounds m h in
    let met = national_bound bought m b in
    let late = is_unusable m || is_missing (national bought m) && at_or_past bought m.close.0 (national (not bought) m).0 in
    either small (eqb m.phase 0)
    (either small (is_yes m.elsewhere) (either small late b.close met) b.close)
    (either small (eqb m.phase 1 && is_unusable m) (own_bound bought m b) met)

pub comparison_bound : (bought : Bool) (m : Market) → market_holds m ≡ true → (comparison bought m).0 ≤ 1000000000
unfolding comparison
comparison_bound bought m h = let b = market_bounds m h in either small (is_unusable m) (own_bound bought m b) (national_bound bought m b)
