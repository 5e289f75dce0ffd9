-- A share count of 0 leaves every share clause without effect: test for test, then number for number.
use mathlib.Core.Path.{◌≡◌, refl, ap, ap₂}
use mathlib.Core.List.{List}
use mathlib.Core.Bool.{Bool, true, false, cond}
use Prim.Native.Nat.{ℕ, ◌/◌}
use lib.ListN.{length}
use lib.IntN.{ℤ, pos}
use Rattle.rules.specs.declared.Mills.{Mills}
use Rattle.rules.specs.declared.RawLeg.{RawLeg}
use Rattle.rules.specs.declared.Terms.{Terms}
use Rattle.rules.specs.declared.Series.{Series}
use Rattle.rules.specs.declared.Leg.{Leg}
use Rattle.rules.specs.declared.Settings.{Settings}
use Rattle.rules.specs.declared.Market.{Market}
use Rattle.rules.specs.declared.OrderAnswer.{OrderAnswer}
use Rattle.rules.specs.Lists.{every}
use Rattle.rules.specs.Order.{is_yes, raw_legs, record_legs, shares_of, legs_of, units, has_shares, is_simple}
use Rattle.rules.specs.Pairing.{by_strike, both_walks}
use Rattle.rules.specs.Class.{shape_of, class_of}
use Rattle.rules.specs.Checks.{simple_buy, shares_on, same_side_below, buy_buy, debit_credit, maximum_value}
use Rattle.rules.specs.Market.{tick_distance}
use Rattle.rules.specs.Numbers.{first_of, is_bad_price, is_bad_shares, refusal, rejection, judged, refused, outcome, check_legs, check_order, are_whole, check_slices, Inputs, answer_to}
use Rattle.rules.specs.Fix.{message_refusal, MessageInputs, order_of, check_fix}
use Rattle.rules.specs.Pair.{paired, check_pair}
use Rattle.rules.specs.Tally.{tallied, check_tallied}
use Rattle.rules.specs.WithoutShares.{is_one_leg, one_leg_buy, options_below, options_buy_buy, options_debit_credit, options_maximum, one_leg_distance, is_wrong_price, option_refusals, option_rejections, options_judged, check_options, check_option_slices, option_answer, options_said, NothingMoved}
use Rattle.rules.proofs.Tests.{and_true}

module _ (t : Terms) (none : t.shares.size ≡ 0) where
  no_shares : has_shares t ≡ false
  unfolding has_shares
  no_shares = rw none

  simple : (ls : List Leg) → is_simple t ls ≡ is_one_leg ls
  unfolding is_simple
  simple ls = rw no_shares

  simple_buy_lem : (test : Series → Mills → Bool) (us : List Leg) → simple_buy test t us ≡ one_leg_buy test t us
  unfolding simple_buy
  simple_buy_lem test us = rw (simple us)

  below : (st : Settings) (us : List Leg) (side : Bool) → same_side_below st t us side ≡ options_below st t us side
  unfolding same_side_below shares_on every
  below st us side = rw (no_shares, and_true _)

  buy_buy_lem : (st : Settings) (us : List Leg) → buy_buy st t us ≡ options_buy_buy st t us
  unfolding buy_buy
  buy_buy_lem st us = rw (simple us, below st us true, below st us false)

  debit_credit_lem : (us : List Leg) (class : ℕ) → debit_credit t us class ≡ options_debit_credit t us class
  unfolding debit_credit every
  debit_credit_lem us class = rw (simple us, no_shares, and_true _)

  maximum : (st : Settings) (us : List Leg) → maximum_value st t us ≡ options_maximum st t us
  unfolding maximum_value every
  maximum st us = rw (no_shares, and_true _)

  tick_distance_lem : (st : Settings) (m : Market) (us : List Leg) → tick_distance st m t us ≡ one_leg_distance st m t us
  unfolding tick_distance
  tick_distance_lem st m us = rw (simple us)

  price : (ls : List Leg) → is_bad_price t ls ≡ is_wrong_price t ls
  unfolding is_bad_price
  price ls = rw (simple ls)

  in_limit : is_bad_shares t ≡ false
  unfolding is_bad_shares
  in_limit = rw none

  refusal_moved : (st : Settings) (m : Market) (n : ℕ) (rs : List RawLeg) → refusal st m t n rs ≡ first_of (option_refusals st m t n rs)
  unfolding refusal first_of
  refusal_moved st m n rs = rw (in_limit, price (legs_of rs))

  rejection_moved : (st : Settings) (m : Market) (us : List Leg) (class : ℕ) → rejection st m t us class ≡ first_of (option_rejections st m t us class)
  unfolding rejection
  rejection_moved st m us class =
      rw (simple_buy_lem _ us, simple_buy_lem _ us, buy_buy_lem st us, debit_credit_lem us class, maximum st us, tick_distance_lem st m us)

  judged_moved : (st : Settings) (m : Market) (ls : List Leg) → judged st m t ls ≡ options_judged st m t ls
  unfolding judged
  judged_moved st m ls =
      let us = units ls in
      let w = both_walks (is_yes st.european) ls in
      let class = class_of us w in
      ap (λ (n : ℕ). record { number = n; class = class; shape = shape_of us; pairings = length w.pairs }) (rejection_moved st m us class)

  pub legs_moved : (st : Settings) (m : Market) (n : ℕ) (rs : List RawLeg) → check_legs st m t n rs ≡ check_options st m t n rs
  unfolding check_legs check_options
  legs_moved st m n rs = ap₂ outcome (refusal_moved st m n rs) (judged_moved st m (by_strike (legs_of rs)))

  slices_moved : (st : Settings) (m : Market) (symbols counts : List ℕ) → check_slices st m t symbols counts ≡ check_option_slices st m t symbols counts
  unfolding check_slices check_option_slices
  slices_moved st m symbols counts =
      ap (λ (r : OrderAnswer). cond (are_whole symbols counts) r (refused 1)) (legs_moved st m (length counts / 8) (raw_legs (length counts / 8) symbols counts))

-- a share count of 0, as the host hands it in
pub no_size : (shares : ℤ) → shares ≡ pos 0 → (shares_of shares).size ≡ 0
unfolding shares_of
no_size shares e = rw e

answered : (a : Inputs) (symbols counts : List ℕ) → a.shares ≡ pos 0 → answer_to a symbols counts ≡ option_answer a symbols counts
answered a symbols counts e = slices_moved _ (no_size a.shares e) a.settings a.market symbols counts

said : (a : MessageInputs) (m : List ℕ) → check_fix a m ≡ outcome (message_refusal m) (options_said a (order_of m))
unfolding check_fix
said a m = ap (outcome (message_refusal m)) (legs_moved _ (no_size (pos 0) refl) a.settings a.market (length (order_of m).legs) (order_of m).legs)

pub nothing_moved : NothingMoved
unfolding check_order check_pair check_tallied
nothing_moved =
    record {
      order_record = λ st m o e. legs_moved o.terms e st m o.len (record_legs o);
      slices = answered;
      messages = said;
      pairs = λ st m unpaired agency contra e f.
          ap₂ (paired unpaired)
          (ap (λ (r : OrderAnswer). r.number) (slices_moved _ (no_size agency.shares e) st m agency.symbols agency.counts))
          (ap (λ (r : OrderAnswer). r.number) (slices_moved _ (no_size contra.shares f) st m contra.symbols contra.counts));
      tallies = λ t a symbols counts e. ap (tallied t) (answered a symbols counts e);
      tallied_messages = λ t a m. ap (tallied t) (said a m);
    }
