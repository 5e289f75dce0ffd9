-- Demand 3, from the parts: the sequence is sorted away, the class bears on the worth, and no check from 20 to 24 fires at it.
use mathlib.Core.Path.{◌≡◌, refl, sym, ap, ◌∙◌, subst₂}
use mathlib.Core.Logic.{⊎_elim}
use mathlib.Core.List.{List, [], ◌∷◌}
use mathlib.Core.Bool.{Bool, true, false, not, ◌||◌, true≢false}
use Prim.Native.Nat.{ℕ, zero, suc, ◌≤◌}
use native.Mathlib.Omega.{arith}
use lib.ListN.{length}
use lib.IntN.{ℤ, pos, negsuc, ◌-ℤ◌}
use lib.Signed.{◌≤ℤ◌}
use borrow.Author.Tests.{eqb-true}
use Rattle.rules.specs.declared.RawLeg.{RawLeg}
use Rattle.rules.specs.declared.Terms.{Terms}
use Rattle.rules.specs.declared.Order.{Order}
use Rattle.rules.specs.declared.Series.{Series}
use Rattle.rules.specs.declared.Leg.{Leg}
use Rattle.rules.specs.declared.Settings.{Settings}
use Rattle.rules.specs.declared.Market.{Market}
use Rattle.rules.specs.Limits.{within}
use Rattle.rules.specs.Lists.{All, Perm, all, any}
use Rattle.rules.specs.Order.{is_yes, Lent, lent_legs, record_legs, price_of, signed_price, signed_shares, terms_of, leg_of, legs_of, units, net_worth}
use Rattle.rules.specs.Pairing.{by_strike, both_walks}
use Rattle.rules.specs.Class.{class_of}
use Rattle.demand3.specs.Fair.{Has, Fair}
use Rattle.rules.specs.Kinds.{is_accepted, is_refused}
use Rattle.rules.specs.Numbers.{is_bad_count, refusals, refusal, rejection, judged, outcome, check_legs, check_order, Inputs}
use Rattle.demand3.specs.Demand3.{IsWhole, IsValid, NotRejected, arrival, order_legs, Arrivals, Demand3}
use Rattle.rules.proofs.Tests.{and_both, or_either, or_neither, within_both}
use Rattle.laws.proofs.Sorting.{all_perm, perm_sym, map_perm, length_perm}
use Rattle.rules.proofs.Numbering.{first_of_lem, first_passes, none_apply}
use Rattle.demand3.proofs.Worth.{worth, worth_perm}
use Rattle.demand3.proofs.Units.{Sized, units_perm}
use Rattle.demand3.proofs.Signs.{worth_is, up_sign, down_sign}
use Rattle.demand3.proofs.ClassWorth.{has_all}
use Rattle.demand3.proofs.Sound.{PriceIs, price_is, has_units, class_ls, sound20, sound21, sound22, sound23, sound24}
use Rattle.laws.proofs.Sequence.{by_strike_is_perm, check_perm}
use Rattle.demand3.proofs.Slicing.{slices_are, slices_broken, whole_slices}

-- legs whose counts are in their limits have contracts
counted : (rs : List RawLeg) → any is_bad_count rs ≡ false → Sized (legs_of rs)
unfolding any legs_of leg_of
counted [] h = tt
counted (r ∷ rs) h =
    let k = or_neither _ _ h in
    ((within_both 1 10000 r.size (good (within 1 10000 r.size) k.0)).0, counted rs k.1)
  where
    good : (b : Bool) → not b ≡ false → b ≡ true
    good true e = refl
    good false e = absurd (true≢false e)

-- a refusal's number that refuses nothing is 0
pub not_refused : (k : ℕ) → is_accepted k || is_refused k ≡ true → is_refused k ≡ false → k ≡ 0
not_refused k e g = ⊎_elim (λ a. eqb-true k 0 a) (λ r. absurd (true≢false (sym r ∙ g))) (or_either _ _ e)

module _ (st : Settings) (m : Market) (t : Terms) (n : ℕ) (rs : List RawLeg) where
  refusal_refuses : is_accepted (refusal st m t n rs) || is_refused (refusal st m t n rs) ≡ true
  unfolding refusal all
  refusal_refuses = first_passes (λ k. is_accepted k || is_refused k) (refusals st m t n rs) refl refl

  -- a valid order is not refused: every number of the refusals is a refusal's
  pub valid_judged : is_refused (check_legs st m t n rs).number ≡ false → refusal st m t n rs ≡ 0
  unfolding check_legs outcome
  valid_judged h = go (refusal st m t n rs) refusal_refuses h
    where
      go : (k : ℕ) → is_accepted k || is_refused k ≡ true → is_refused (outcome k (judged st m t (by_strike (legs_of rs)))).number ≡ false → k ≡ 0
      go zero e g = refl
      go (suc k) e g = not_refused (suc k) e g

  pub is_judged : IsValid (check_legs st m t n rs) → check_legs st m t n rs ≡ judged st m t (by_strike (legs_of rs))
  unfolding check_legs outcome
  is_judged h = rw (valid_judged h)

  pub sized : refusal st m t n rs ≡ 0 → Sized (legs_of rs)
  unfolding refusal all
  sized h = let (legs, (symbols, (counts, rest))) = none_apply (refusals st m t n rs) refl h in counted rs counts

-- one valid order, its legs `ls` as read, and a fair table for it
module _ (st : Settings) (m : Market) (t : Terms) (ls : List Leg) (big : Sized ls) (v : Series → ℕ) (fair : Fair st m ls v) where
  abbrev perm : Perm (by_strike ls) ls
  perm = by_strike_is_perm ls

  has : All (λ l. Has ls l.series) (by_strike ls)
  has = all_perm _ (perm_sym perm) (has_all ls)

  full : Sized (by_strike ls)
  full = all_perm _ (perm_sym perm) big

  abbrev us : List Leg
  us = units (by_strike ls)

  net_is : net_worth v ls ≡ pos (worth v true us) -ℤ pos (worth v false us)
  unfolding net_worth
  net_is = rw (worth_perm v true (units_perm (by_strike ls) ls perm), worth_perm v false (units_perm (by_strike ls) ls perm)) (worth_is v (units ls))

  abbrev class : ℕ
  class = class_of us (both_walks (is_yes st.european) (by_strike ls))

  debit_order : class ≡ 1 → worth v false us ≤ worth v true us
  debit_order e = class_ls st m t ls v fair true (by_strike ls) has full e

  credit_order : class ≡ 2 → worth v true us ≤ worth v false us
  credit_order e = class_ls st m t ls v fair false (by_strike ls) has full e

  pub debit_sign : class ≡ 1 → pos 0 ≤ℤ net_worth v ls
  debit_sign e = rw net_is (up_sign (worth v true us) (worth v false us) (debit_order e))

  pub credit_sign : class ≡ 2 → net_worth v ls ≤ℤ pos 0
  credit_sign e = rw net_is (down_sign (worth v true us) (worth v false us) (credit_order e))

  pub not_rejected : signed_price t.price ≡ net_worth v ls → 20 ≤ rejection st m t us class → rejection st m t us class ≤ 24 → ⊥
  unfolding rejection
  not_rejected e =
      first_of_lem (λ k. 20 ≤ k → k ≤ 24 → ⊥) _ (λ a b. omega arith) (
        (λ f. absurd (sound20 st m t ls v fair (by_strike ls) has full priced (and_both (is_yes st.check20) _ f).1)),
        (
          (λ f. absurd (sound21 st m t ls v fair (by_strike ls) has full priced (and_both (is_yes st.check21) _ f).1)),
          (
            (λ f. absurd (sound22 st m t ls v fair us (has_units st m t ls v fair (by_strike ls) has) priced (and_both (is_yes st.check22) _ f).1)),
            (
              (λ f. absurd (sound23 st m t ls v fair us class priced debit_order credit_order (and_both (is_yes st.check23) _ f).1)),
              (
                (λ f. absurd (sound24 st m t ls v fair us (has_units st m t ls v fair (by_strike ls) has) priced (and_both (is_yes st.check24) _ f).1)),
                ((λ f a b. omega arith), tt),
              ),
            ),
          ),
        ),
      )
    where
      priced : PriceIs t.price (worth v true us) (worth v false us)
      priced = price_is t.price (worth v true us) (worth v false us) (e ∙ net_is)

-- the order check on legs in two sequences
module _ (st : Settings) (m : Market) (t : Terms) (n : ℕ) (price shares : ℤ) (priced : signed_price t.price ≡ price) (rs qs : List RawLeg) (p : Perm rs qs) where
  abbrev ls : List Leg
  ls = legs_of rs

  module _ (h : IsValid (check_legs st m t n rs)) (v : Series → ℕ) (fair : Fair st m ls v) where
    big : Sized ls
    big = sized st m t n rs (valid_judged st m t n rs h)

    debit : (check_legs st m t n rs).class ≡ 1 → pos 0 ≤ℤ net_worth v ls
    unfolding judged
    debit e = debit_sign st m t ls big v fair (sym (ap (λ r. r.class) (is_judged st m t n rs h)) ∙ e)

    credit : (check_legs st m t n rs).class ≡ 2 → net_worth v ls ≤ℤ pos 0
    unfolding judged
    credit e = credit_sign st m t ls big v fair (sym (ap (λ r. r.class) (is_judged st m t n rs h)) ∙ e)

    sound : price ≡ net_worth v ls → NotRejected (check_legs st m t n rs)
    unfolding judged
    sound e = rw (is_judged st m t n rs h) (not_rejected st m t ls big v fair (priced ∙ e))

  pub both_arrivals : Arrivals st m price shares ls (check_legs st m t n rs) (check_legs st m t n qs)
  both_arrivals =
      record {
        same = check_perm st m t n p;
        debit = λ none. debit;
        credit = λ none. credit;
        sound = λ none h v f e. let x = sound h v f e in (x, rw (check_perm st m t n p) at x);
      }

-- the host's integer is what its price stands for
pub signed_back : (z : ℤ) → signed_price (price_of z) ≡ z
unfolding price_of
signed_back (pos n) = refl
signed_back (negsuc n) = refl

whole_arrivals : (a : Inputs) (xs ys : List Lent) → All IsWhole xs → Perm xs ys → Arrivals a.settings a.market a.price a.shares (order_legs xs) (arrival a xs) (arrival a ys)
whole_arrivals a xs ys w p =
    let t = terms_of a.price a.kind a.stop a.manual a.opening a.shares in
    rw (
      slices_are a.settings a.market t xs w,
      slices_are a.settings a.market t ys (all_perm _ p w),
      ← (length_perm p),
    )
    (both_arrivals a.settings a.market t (length xs) a.price a.shares (signed_back a.price) (lent_legs xs) (lent_legs ys) (map_perm _ p))

record_arrivals : (st : Settings) (m : Market) (o p : Order) → o.terms ≡ p.terms → o.len ≡ p.len → Perm (record_legs o) (record_legs p)
    → Arrivals st m (signed_price o.terms.price) (signed_shares o.terms.shares) (legs_of (record_legs o)) (check_order st m o) (check_order st m p)
unfolding check_order
record_arrivals st m o p f g q =
    subst₂ (λ (t : Terms) (n : ℕ). Arrivals st m (signed_price o.terms.price) (signed_shares o.terms.shares) (legs_of (record_legs o)) (check_legs st m o.terms o.len (record_legs o)) (check_legs st m t n (record_legs p))) f g
    (both_arrivals st m o.terms o.len (signed_price o.terms.price) (signed_shares o.terms.shares) refl (record_legs o) (record_legs p) q)

pub demand3 : Demand3
demand3 =
    record {
      whole = whole_arrivals;
      broken = λ a s t c d e f h. slices_broken a.settings a.market _ s c h ∙ sym (slices_broken a.settings a.market _ t d (rw (e, f) at h));
      covers = whole_slices;
      order_record = record_arrivals;
    }
