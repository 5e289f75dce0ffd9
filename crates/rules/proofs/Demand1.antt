-- Which numbers the entries' definitions give, and what a refusal leaves.
use mathlib.Core.Path.{◌≡◌, refl, sym, ap, ◌∙◌}
use mathlib.Core.Logic.{⊎_elim}
use mathlib.Core.List.{List, [], ◌∷◌, ◌++◌, Memᴰ}
use mathlib.Core.Bool.{Bool, true, false, cond, not, ◌&&◌, ◌||◌, true≢false}
use Prim.Native.Nat.{ℕ, zero, suc, ◌/◌}
use lib.ListN.{length}
use lib.Dec.{eqb}
use lib.IntN.{pos}
use native.Mathlib.Omega.{arith}
use borrow.Author.Tests.{eqb-true}
use Rattle.rules.specs.declared.RawLeg.{RawLeg}
use Rattle.rules.specs.declared.Terms.{Terms}
use Rattle.rules.specs.declared.Leg.{Leg}
use Rattle.rules.specs.declared.Settings.{Settings}
use Rattle.rules.specs.declared.Market.{Market}
use Rattle.rules.specs.declared.Mills.{Mills}
use Rattle.rules.specs.declared.Series.{Series}
use Rattle.rules.specs.declared.OrderAnswer.{OrderAnswer}
use Rattle.rules.specs.declared.Tally.{Tally}
use Rattle.rules.specs.Lists.{same_bool, all, any}
use Rattle.rules.specs.Order.{is_yes, raw_legs, record_legs, terms_of, series_of, legs_of, units}
use Rattle.rules.specs.Pairing.{by_strike, both_walks}
use Rattle.rules.specs.Class.{class_of}
use Rattle.rules.specs.Kinds.{is_refused, is_rejected}
use Rattle.rules.specs.Numbers.{first_of, refusals, refusal, rejections, rejection, judged, refused, outcome, check_legs, check_order, are_whole, check_slices}
use Rattle.rules.specs.Symbol.{parts_of}
use Rattle.rules.specs.Quote.{quote_refusals, quote_refusal, quote_rejections, quote_rejection, answered_quote, quote_outcome, check_quote}
use Rattle.rules.specs.Crossing.{Crossing, is_bought, crossing_price, is_bad_crossing, execution, unfilled, crossing_tests, crossing_number, check_crossing}
use Rattle.rules.specs.Fix.{message_refusals, message_refusal, SaidOrder, order_in, body_of, check_said, check_fix}
use Rattle.rules.specs.Tally.{is_bad_tally, tallied, Call, order, message, own_answer, check_tallied}
use Rattle.rules.specs.Session.{is_whole_session, is_rejection_limit, turnings, turned_away, changed_by, check_in_session, release_login, start_session}
use Rattle.rules.specs.WithoutShares.{option_refusals, option_rejections, options_judged, check_options}
use Rattle.rules.specs.Demand1.{reader_numbers, Reader, writer_numbers, Writer, leg_numbers, order_numbers, OrderAnswers, OrderCheck, option_numbers, message_numbers, MessageCheck, quote_numbers, QuoteAnswers, QuoteCheck, crossing_numbers, CrossingAnswers, CrossingCheck, TalliedAnswers, call_numbers, TalliedCheck, turning_numbers, SessionAnswers, SessionCheck, release_numbers, ReleaseAnswers, Release, StartAnswers, Start, Numbered}
use Rattle.rules.proofs.Tests.{and_both, or_neither, no_flag, not_eq, same_eq}
use Rattle.rules.proofs.Symbols.{read_cases, write_cases}
use Rattle.rules.proofs.Numbering.{first_passes}
use Rattle.rules.proofs.WithoutShares.{legs_moved, no_size}

-- what holds of all listed numbers holds of each
pub passes : (f : ℕ → Bool) (n : ℕ) (ns : List ℕ) → all f ns ≡ true → Memᴰ n ns → f n ≡ true
unfolding all
passes f n [] h k = elim k [ ]
passes f n (m ∷ ns) h (Memᴰ.head e) = ap f e ∙ (and_both (f m) (all f ns) h).0
passes f n (m ∷ ns) h (Memᴰ.tail k) = passes f n ns (and_both (f m) (all f ns) h).1 k

-- a number that stands in a list, found by computing
member : (n : ℕ) (ns : List ℕ) → any (eqb n) ns ≡ true → Memᴰ n ns
unfolding any
member n [] h = absurd (true≢false (sym h))
member n (m ∷ ns) h = go (eqb n m) refl h (member n ns)
  where
    go : (b : Bool) → eqb n m ≡ b → b || any (eqb n) ns ≡ true → (any (eqb n) ns ≡ true → Memᴰ n ns) → Memᴰ n (m ∷ ns)
    go true e h ih = Memᴰ.head (eqb-true n m e)
    go false e h ih = Memᴰ.tail (ih h)

abbrev is_of : List ℕ → ℕ → Bool
is_of ns n = any (eqb n) ns

pub reader : Reader
unfolding any
reader s =
    ⊎_elim
    (λ a. rw a.2 (record { number = member 0 reader_numbers refl; refusal = λ h. absurd (true≢false (sym h)) }))
    (λ r. ⊎_elim (λ b. rw b (record { number = member 1 reader_numbers refl; refusal = λ h. refl })) (λ d. rw d (record { number = member 4 reader_numbers refl; refusal = λ h. refl })) r)
    (read_cases s)

pub writer : Writer
unfolding any
writer p buffer =
    ⊎_elim
    (λ a. rw a.2 (record { number = member 0 writer_numbers refl; refusal = λ h. absurd (true≢false (sym h)) }))
    (λ r. ⊎_elim (λ b. rw b (record { number = member 2 writer_numbers refl; refusal = λ h. (refl, refl) })) (λ d. rw d (record { number = member 4 writer_numbers refl; refusal = λ h. (refl, refl) })) r)
    (write_cases p buffer)

refused_answers : (ns : List ℕ) (n : ℕ) → is_of ns n ≡ true → OrderAnswers ns (refused n)
refused_answers ns n h = record { number = member n ns h; refusal = λ e. (refl, refl, refl) }

-- a refusal with one of the numbers, or an answer with one of them that is no refusal's
outcome_answers : (ns : List ℕ) (k : ℕ) (r : OrderAnswer) → is_of ns k ≡ true → is_of ns r.number && not (is_refused r.number) ≡ true → OrderAnswers ns (outcome k r)
unfolding outcome
outcome_answers ns zero r h j = let e = and_both _ _ j in record { number = member _ ns e.0; refusal = λ f. absurd (true≢false (sym f ∙ not_eq _ e.1)) }
outcome_answers ns (suc k) r h j = refused_answers ns (suc k) h

-- a check that gives more numbers
more : (ns ms : List ℕ) (r : OrderAnswer) → all (is_of ms) ns ≡ true → OrderAnswers ns r → OrderAnswers ms r
more ns ms r h a = record { number = member r.number ms (passes (is_of ms) r.number ns h a.number); refusal = a.refusal }

module _ (st : Settings) (m : Market) (t : Terms) where
  abbrev is_listed : ℕ → Bool
  is_listed = is_of (0 ∷ leg_numbers)

  refusal_number : (n : ℕ) (rs : List RawLeg) → is_listed (refusal st m t n rs) ≡ true
  unfolding refusal any all
  refusal_number n rs = first_passes is_listed (refusals st m t n rs) refl refl

  rejection_number : (us : List Leg) (class : ℕ) → is_listed (rejection st m t us class) && not (is_refused (rejection st m t us class)) ≡ true
  unfolding rejection any all
  rejection_number us class = first_passes (λ n. is_listed n && not (is_refused n)) (rejections st m t us class) refl refl

  legs_answers : (n : ℕ) (rs : List RawLeg) → OrderAnswers (0 ∷ leg_numbers) (check_legs st m t n rs)
  unfolding check_legs judged
  legs_answers n rs = outcome_answers (0 ∷ leg_numbers) (refusal st m t n rs) (judged st m t (by_strike (legs_of rs))) (refusal_number n rs) (rejection_number _ _)

  -- the same of legs without shares
  options_answers : (n : ℕ) (rs : List RawLeg) → OrderAnswers (0 ∷ option_numbers) (check_options st m t n rs)
  unfolding check_options any all
  options_answers n rs =
      outcome_answers (0 ∷ option_numbers) (first_of (option_refusals st m t n rs)) (options_judged st m t (by_strike (legs_of rs)))
      (first_passes (is_of (0 ∷ option_numbers)) (option_refusals st m t n rs) refl refl)
      (first_passes (λ k. is_of (0 ∷ option_numbers) k && not (is_refused k)) (option_rejections st m t us (class_of us (both_walks (is_yes st.european) ls))) refl refl)
    where
      ls : List Leg
      ls = by_strike (legs_of rs)

      us : List Leg
      us = units ls

  order_answers : (n : ℕ) (rs : List RawLeg) → OrderAnswers order_numbers (check_legs st m t n rs)
  unfolding all any
  order_answers n rs = more (0 ∷ leg_numbers) order_numbers (check_legs st m t n rs) refl (legs_answers n rs)

  slices_answers : (symbols counts : List ℕ) (b : Bool) → are_whole symbols counts ≡ b → OrderAnswers order_numbers (check_slices st m t symbols counts)
  unfolding check_slices any
  slices_answers symbols counts true e = rw e (order_answers (length counts / 8) (raw_legs (length counts / 8) symbols counts))
  slices_answers symbols counts false e = rw e (refused_answers order_numbers 1 refl)

pub order_check : OrderCheck
unfolding check_order
order_check =
    record {
      slices = λ st m t symbols counts. slices_answers st m t symbols counts (are_whole symbols counts) refl;
      order_record = λ st m o. order_answers st m o.terms o.len (record_legs o);
    }

-- ---- messages

message_number : (m : List ℕ) → is_of message_numbers (message_refusal m) ≡ true
unfolding message_refusal any all
message_number m = first_passes (is_of message_numbers) (message_refusals m) refl refl

pub message_check : MessageCheck
unfolding check_fix outcome all any
message_check a m = go (message_refusal m) (message_number m)
  where
    o : SaidOrder
    o = order_in (body_of m)

    t : Terms
    t = terms_of o.price o.kind a.stop a.manual a.opening (pos 0)

    legs : OrderAnswers (0 ∷ option_numbers) (check_said a o)
    legs = rw (legs_moved t (no_size (pos 0) refl) a.settings a.market (length o.legs) o.legs) (options_answers a.settings a.market t (length o.legs) o.legs)

    go : (k : ℕ) → is_of message_numbers k ≡ true → OrderAnswers message_numbers (outcome k (check_said a o))
    go zero h = more (0 ∷ option_numbers) message_numbers (check_said a o) refl legs
    go (suc k) h = refused_answers message_numbers (suc k) h

-- ---- quotes

module _ (st : Settings) (m : Market) where
  -- a refusal is no rejection
  abbrev refuses : ℕ → Bool
  refuses n = is_of quote_numbers n && not (is_rejected n)

  quote_refusal_number : (symbol : List ℕ) (bid offer : Mills) → refuses (quote_refusal st m symbol bid offer) ≡ true
  unfolding quote_refusal any all
  quote_refusal_number symbol bid offer = first_passes refuses (quote_refusals st m symbol bid offer) refl refl

  -- what is not 0 is a rejection
  abbrev rejects : ℕ → Bool
  rejects n = is_of quote_numbers n && (not (is_refused n) && same_bool (is_rejected n) (not (eqb n 0)))

  quote_rejection_number : (s : Series) (bid offer : Mills) → rejects (quote_rejection st m s bid offer) ≡ true
  unfolding quote_rejection any all
  quote_rejection_number s bid offer = first_passes rejects (quote_rejections st m s bid offer) refl refl

  quote_answers_lem : (symbol : List ℕ) (bid offer : Mills) (resting : ℕ) → QuoteAnswers resting (check_quote st m symbol bid offer resting)
  unfolding check_quote quote_outcome
  quote_answers_lem symbol bid offer resting = go (quote_refusal st m symbol bid offer) (quote_refusal_number symbol bid offer)
    where
      go : (k : ℕ) → refuses k ≡ true → QuoteAnswers resting (quote_outcome k (answered_quote resting (quote_rejection st m (series_of (parts_of symbol)) bid offer)))
      go zero h =
          let r = and_both _ _ (quote_rejection_number (series_of (parts_of symbol)) bid offer) in
          let k = and_both _ _ r.1 in
          record {
            number = member _ quote_numbers r.0;
            refusal = λ e. absurd (true≢false (sym e ∙ not_eq _ k.0));
            flag = ap (λ (b : Bool). cond (is_yes resting && b) 1 0) (sym (same_eq _ _ k.1));
          }
      go (suc k) h =
          let r = and_both _ _ h in
          record { number = member (suc k) quote_numbers r.0; refusal = λ e. refl; flag = rw (not_eq (is_rejected (suc k)) r.1) (sym (no_flag (is_yes resting))) }

pub quote_check : QuoteCheck
quote_check st m symbol bid offer resting = quote_answers_lem st m symbol bid offer resting

-- ---- crossing quotes

module _ (st : Settings) (m : Market) (symbol : List ℕ) (bid offer : Mills) where
  crossing_number_lem : (bad : Bool) → is_of crossing_numbers (crossing_number st m symbol bid offer bad) ≡ true
  unfolding crossing_number any all
  crossing_number_lem bad = first_passes (is_of crossing_numbers) (crossing_tests st m symbol bid offer bad) refl refl

  crossing_answers : (resting : ℕ) (c : Crossing) (room : ℕ) → CrossingAnswers resting room (check_crossing st m symbol bid offer resting c room)
  unfolding check_crossing execution
  crossing_answers resting c room = go (crossing_number st m symbol bid offer (is_bad_crossing room c)) (crossing_number_lem _) (eqb (crossing_number st m symbol bid offer (is_bad_crossing room c)) 0)
    where
      no_rejection : (n : ℕ) → is_refused n ≡ true → is_rejected n ≡ false
      no_rejection n h = (or_neither (eqb n 0) (is_rejected n) (not_eq _ h)).1

      go : (n : ℕ) → is_of crossing_numbers n ≡ true → (b : Bool) → CrossingAnswers resting room (cond b (execution room (crossing_price (is_bought c) bid offer) c) (unfilled room n (cond (is_yes resting && is_rejected n) 1 0)))
      go n h true = record { number = Memᴰ.head refl; refusal = λ e. refl; unexecuted = λ e. absurd (true≢false e); flag = sym (no_flag (is_yes resting)) }
      go n h false =
          record {
            number = member n crossing_numbers h;
            refusal = λ e. ap (λ (b : Bool). cond (is_yes resting && b) 1 0) (no_rejection n e) ∙ no_flag (is_yes resting);
            unexecuted = λ e. (refl, refl, refl, refl);
            flag = refl;
          }

pub crossing_check : CrossingCheck
crossing_check st m symbol bid offer resting c room = crossing_answers st m symbol bid offer resting c room

-- ---- the tally

pub call_answers : (c : Call) → OrderAnswers (call_numbers c) (own_answer c)
call_answers (order a symbols counts) =
    order_check.slices a.settings a.market (terms_of a.price a.kind a.stop a.manual a.opening a.shares) symbols counts
call_answers (message a m) = message_check a m

-- no check gives 12 by itself
pub no_twelve : (c : Call) → all (λ n. not (eqb n 12)) (call_numbers c) ≡ true
unfolding all
no_twelve (order a symbols counts) = refl
no_twelve (message a m) = refl

tallied_answers : (ns : List ℕ) → all (λ n. not (eqb n 12)) ns ≡ true → (t : Tally) (a : OrderAnswer) → OrderAnswers ns a → (b : Bool) → is_bad_tally t ≡ b → TalliedAnswers ns t (tallied t a)
unfolding tallied
tallied_answers ns none t a h true e = rw e (record { number = Memᴰ.head refl; refusal = λ f. (refl, refl, refl); unchanged = λ f. refl })
tallied_answers ns none t a h false e =
    rw e (record { number = Memᴰ.tail h.number; refusal = h.refusal; unchanged = λ f. absurd (true≢false (sym (passes (λ n. not (eqb n 12)) a.number ns none h.number) ∙ ap (λ (n : ℕ). not (eqb n 12)) f)) })

pub tallied_check : TalliedCheck
unfolding check_tallied
tallied_check t c = tallied_answers (call_numbers c) (no_twelve c) t (own_answer c) (call_answers c) (is_bad_tally t) refl

-- ---- sessions

member_more : (n : ℕ) (ns ms : List ℕ) → Memᴰ n ns → Memᴰ n (ns ++ ms)
member_more n [] ms m = elim m [ ]
member_more n (k ∷ ns) ms (Memᴰ.head e) = Memᴰ.head e
member_more n (k ∷ ns) ms (Memᴰ.tail m) = Memᴰ.tail (member_more n ns ms m)

not_zero : (k : ℕ) (ns : List ℕ) → Memᴰ (suc k) (0 ∷ ns) → Memᴰ (suc k) ns
not_zero k ns (Memᴰ.head e) = absurd (omega (arith, e))
not_zero k ns (Memᴰ.tail m) = m

-- no check gives 34, 12 or 35 by itself
pub none_turns : (c : Call) → all (λ n. not (is_of turning_numbers n)) (call_numbers c) ≡ true
unfolding all any
none_turns (order a symbols counts) = refl
none_turns (message a m) = refl

turned_number : (is_order : Bool) (s : List ℕ) (i : ℕ) → is_of (0 ∷ turning_numbers) (turned_away is_order s i) ≡ true
unfolding turned_away all any
turned_number true s i = first_passes (is_of (0 ∷ turning_numbers)) (turnings true s i) refl refl
turned_number false s i = first_passes (is_of (0 ∷ turning_numbers)) (turnings false s i) refl refl

session_answers : (ns : List ℕ) → all (λ n. not (is_of turning_numbers n)) ns ≡ true → (a : OrderAnswer) → OrderAnswers ns a → (s t : List ℕ) (k : ℕ) → is_of (0 ∷ turning_numbers) k ≡ true
    → SessionAnswers ns s (record { answer = outcome k a; session = changed_by k s t })
unfolding outcome any
session_answers ns none a h s t zero e =
    record {
      number = Memᴰ.tail (Memᴰ.tail (Memᴰ.tail h.number));
      refusal = h.refusal;
      unchanged = λ f. absurd (true≢false (sym f ∙ not_eq _ (passes (λ n. not (is_of turning_numbers n)) a.number ns none h.number)));
    }
session_answers ns none a h s t (suc k) e = record { number = member_more (suc k) turning_numbers ns (not_zero k turning_numbers (member (suc k) (0 ∷ turning_numbers) e)); refusal = λ f. (refl, refl, refl); unchanged = λ f. refl }

pub session_check : SessionCheck
unfolding check_in_session
session_check s i c = session_answers (call_numbers c) (none_turns c) (own_answer c) (call_answers c) s _ (turned_away true s i) (turned_number true s i)

release_number : (s : List ℕ) (i : ℕ) → is_of release_numbers (turned_away false s i) ≡ true
unfolding turned_away all any
release_number s i = first_passes (is_of release_numbers) (turnings false s i) refl refl

release_answers : (s t : List ℕ) (k : ℕ) → is_of release_numbers k ≡ true → ReleaseAnswers s (record { number = k; session = changed_by k s t })
release_answers s t zero e = record { number = Memᴰ.head refl; unchanged = λ f. absurd (true≢false (sym f)) }
release_answers s t (suc k) e = record { number = member (suc k) release_numbers e; unchanged = λ f. refl }

pub release : Release
unfolding release_login
release s i = release_answers s _ (turned_away false s i) (release_number s i)

pub start : Start
unfolding start_session first_of
start limits s = go (is_whole_session s) refl (eqb (length limits) 32 && all is_rejection_limit limits) refl
  where
    go : (a : Bool) → is_whole_session s ≡ a → (b : Bool) → eqb (length limits) 32 && all is_rejection_limit limits ≡ b → StartAnswers s (start_session limits s)
    go false e b f = rw e (record { number = Memᴰ.tail (Memᴰ.head refl); unchanged = λ h. refl; zeros = λ h. absurd (omega (arith, h)) })
    go true e true f = rw (e, f) (record { number = Memᴰ.head refl; unchanged = λ h. absurd (omega (arith, h)); zeros = λ h. absurd (omega (arith, h)) })
    go true e false f = rw (e, f) (record { number = Memᴰ.tail (Memᴰ.tail (Memᴰ.head refl)); unchanged = λ h. absurd (omega (arith, h)); zeros = λ h. refl })

pub numbered : Numbered
unfolding all any
numbered = record { listed = refl; given = refl; kinds = refl; placed = refl; sequenced = refl; orders = refl; messages = refl; quotes = refl; crossings = refl; turned = refl; releases = refl; starts = refl }
