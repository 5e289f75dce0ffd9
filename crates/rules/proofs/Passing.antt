-- What is promised of the answer to a pair, demand 1's part too. Which orders pass is by three tests: the mark `u`, and whether the agency order's number and the contra order's are 0, `a` and `c`.
use mathlib.Core.Path.{◌≡◌, refl, sym, ap, ◌∙◌}
use mathlib.Core.Bool.{Bool, true, false, cond, not, ◌&&◌, ◌||◌, true≢false}
use mathlib.Core.List.{[], ◌∷◌, Memᴰ}
use Prim.Native.Nat.{ℕ}
use native.Mathlib.Omega.{arith}
use lib.Dec.{eqb}
use borrow.Author.Tests.{eqb-true, eq-eqb}
use Rattle.rules.specs.declared.Settings.{Settings}
use Rattle.rules.specs.declared.Market.{Market}
use Rattle.rules.specs.Order.{is_yes, terms_of}
use Rattle.rules.specs.Pair.{PairOrder, own_number, paired, check_pair, Passing, PairTheorem}
use Rattle.rules.specs.Kinds.{is_rejected}
use Rattle.rules.specs.Demand1.{order_numbers, PairAnswers, PairCheck}
use Rattle.rules.proofs.Tests.{and_both, and_of, and_no, or_neither, not_eq}
use Rattle.rules.proofs.Demand1.{order_check}

abbrev agency_test : Bool → Bool → Bool → Bool
agency_test u a c = a && c || (u && (a && not c))

abbrev flag : Bool → ℕ
flag b = cond b 1 0

is_set : (b : Bool) → flag b ≡ 1 → b ≡ true
is_set true h = refl
is_set false h = absurd (omega arith)

is_flag : (b : Bool) → Memᴰ (flag b) (0 ∷ 1 ∷ [])
is_flag true = Memᴰ.tail (Memᴰ.head refl)
is_flag false = Memᴰ.head refl

needs_agency : (u a c : Bool) → agency_test u a c ≡ true → a ≡ true
needs_agency u true c h = refl
needs_agency true false c h = absurd (true≢false (sym h))
needs_agency false false c h = absurd (true≢false (sym h))

with_contra : (u a c : Bool) → a && c ≡ true → agency_test u a c ≡ true
with_contra u true true h = refl
with_contra u true false h = absurd (true≢false (sym h))
with_contra u false c h = absurd (true≢false (sym h))

unmarked : (a c : Bool) → agency_test false a c ≡ (a && c)
unmarked true true = refl
unmarked true false = refl
unmarked false c = refl

marked : (u a c : Bool) → u ≡ true → a ≡ true → agency_test u a c ≡ true
marked true true true g h = refl
marked true true false g h = refl
marked true false c g h = absurd (true≢false (sym h))
marked false a c g h = absurd (true≢false (sym g))

accepted : (u a c : Bool) → a ≡ true → c ≡ true → agency_test u a c ≡ true
accepted u a c g h = with_contra u a c (and_of g h)

passing : (unpaired agency contra : ℕ) → Passing unpaired (paired unpaired agency contra)
unfolding paired
passing unpaired agency contra =
    let u = is_yes unpaired in
    let a = eqb agency 0 in
    let c = eqb contra 0 in
    record {
      flags = (is_flag (agency_test u a c), is_flag (a && c));
      agency_accepted = λ h. eqb-true agency 0 (needs_agency u a c (is_set _ h));
      contra_accepted = λ h. eqb-true contra 0 (and_both a c (is_set _ h)).1;
      never_alone = λ h. ap flag (with_contra u a c (is_set _ h));
      together = λ h. ap (λ (b : Bool). flag (agency_test b a c)) h ∙ ap flag (unmarked a c);
      both_accepted = λ g h. let e = eq-eqb agency 0 g in let f = eq-eqb contra 0 h in (ap flag (accepted u a c e f), ap flag (and_of e f));
      unpaired_accepted = λ g h. ap flag (marked u a c g (eq-eqb agency 0 h));
    }

pub pair_theorem : PairTheorem
unfolding paired check_pair
pair_theorem = record { passing = λ st m unpaired agency contra. passing unpaired (own_number st m agency) (own_number st m contra); own = λ st m unpaired agency contra. (refl, refl) }

agency_stops : (u c : Bool) → flag (agency_test u false c) ≡ 0
agency_stops true c = refl
agency_stops false c = refl

own_number_lem : (st : Settings) (m : Market) (o : PairOrder) → Memᴰ (own_number st m o) order_numbers
own_number_lem st m o = (order_check.slices st m (terms_of o.price o.kind o.stop o.manual o.opening o.shares) o.symbols o.counts).number

pair_answers : (unpaired agency contra : ℕ) → Memᴰ agency order_numbers → Memᴰ contra order_numbers → PairAnswers (paired unpaired agency contra)
unfolding paired
pair_answers unpaired agency contra g h =
    let u = is_yes unpaired in
    let a = eqb agency 0 in
    let c = eqb contra 0 in
    record {
      agency = g;
      contra = h;
      agency_refused = λ e. let f = (or_neither a (is_rejected agency) (not_eq _ e)).0 in (ap (λ (b : Bool). flag (agency_test u b c)) f ∙ agency_stops u c, ap (λ (b : Bool). flag (b && c)) f);
      contra_refused = λ e. ap (λ (b : Bool). flag (a && b)) (or_neither c (is_rejected contra) (not_eq _ e)).0 ∙ ap flag (and_no a);
    }

pub pair_check : PairCheck
unfolding check_pair
pair_check st m unpaired agency contra = pair_answers unpaired (own_number st m agency) (own_number st m contra) (own_number_lem st m agency) (own_number_lem st m contra)
