-- The check on messages, case by case: which number what is found gives, and that a message which is taken says what the order record holds.
use mathlib.Core.Path.{◌≡◌, refl, sym, ap, ◌∙◌}
use mathlib.Core.List.{List}
use mathlib.Core.Bool.{Bool, true, false, cond, not, ◌&&◌, true≢false}
use Prim.Native.Nat.{ℕ, ◌-◌, ◌≤◌, ◌<◌}
use lib.Dec.{eqb}
use lib.ListN.{length, take}
use lib.Seq.{slice}
use borrow.Author.Tests.{eq-eqb, ne_eqb, not-false}
use lib.IntN.{pos}
use Rattle.rules.specs.declared.Order.{Order}
use Rattle.rules.specs.declared.Terms.{Terms}
use Rattle.rules.specs.Lists.{all, same_numbers}
use Rattle.rules.specs.Order.{record_legs, Recorded, terms_of}
use Rattle.rules.specs.Numbers.{first_of, refused, check_legs, check_order}
use Rattle.rules.specs.Fix.{sum_digits, fields_of, is_field, are_fields, has_frame, body_of, in_sequence, is_price, has_form, is_formed, price_said, legs_said, SaidOrder, order_in, message_refusals, message_refusal, MessageInputs, check_fix}
use Rattle.rules.proofs.Tests.{and_no}
use Rattle.rules.proofs.Numbering.{none_apply}
use Rattle.frame.specs.declared.Closing.{Closing}
use Rattle.frame.specs.declared.Head.{Head}
use Rattle.frame.specs.Frame.{head_of}
use Rattle.groups.specs.Sequence.{is_complete}
use Rattle.std.specs.Prelude.{Option, Some, None, Result, Ok, Err, ok_or}
use Rattle.std.specs.Result.{IsErr, IsErrAnd}
use Rattle.answers.specs.declared.Refusal.{Refusal}
use Rattle.answers.specs.declared.Judged.{Judged}
use Rattle.answers.specs.Answers.{refusal_number, number_of, answer_said}
use Rattle.rules.specs.Kinds.{is_refused}
use Rattle.answers.proofs.Laws.{refusal_refuses}
use Rattle.fields.specs.Fields.{Inside}
use Rattle.scan.specs.declared.Places.{Places}
use Rattle.scan.specs.declared.Scan.{Scan}
use Rattle.fix_check.specs.Reading.{AreRead}
use Rattle.scan.specs.Scanning.{scanned}
use Rattle.scan_laws.specs.Message.{is_closed_by, is_framed_by, has_frame_by, Said}
use Rattle.scan_laws.proofs.Bodies.{groups_all, value_formed, needed, groups_tags}
use Rattle.scan_laws.proofs.Message.{framed, tail_found, sequence, formed, said}
use Rattle.message_order.specs.Groups.{groups_at, HasGroups}
use Rattle.order_check.proofs.Laws.{outcome_none, outcome_some, too_many_legs}

-- ---- the frame, by what is tested before length and sum

module _ (m : List ℕ) (h : Head) (s : Scan) where
  pub not_closed : s.tail.closing ≡ None → false ≡ is_framed_by m h s
  unfolding is_framed_by
  not_closed e = rw (e, and_no)

  pub not_whole : (s.next ≡ length m → ⊥) → false ≡ is_framed_by m h s
  unfolding is_framed_by
  not_whole e = rw (ne_eqb s.next (length m) e)

  pub strayed : s.tail.stray ≡ true → false ≡ is_framed_by m h s
  unfolding is_framed_by
  strayed e = rw (e, and_no, and_no)

  module _ {c : Closing} (x : s.tail.closing ≡ Some c) (n : s.next ≡ length m) (k : s.tail.stray ≡ false) where
    pub length_and_sum : eqb h.said (c.at - h.counted) && same_numbers (slice c.value.start c.value.end m) (sum_digits (take c.at m)) ≡ is_framed_by m h s
    unfolding is_framed_by is_closed_by
    length_and_sum = rw (x, eq-eqb s.next (length m) n, k)

    pub tail_stands : (head_of m ≡ Some h) × (s ≡ scanned m h.body) → (h.counted ≤ c.at) × (c.at ≤ length m) × Inside (length m) c.value
    tail_stands found = tail_found m found.0 s found.1 (eq-eqb s.next (length m) n) (rw x) k c x

-- a message's head, and the loop behind it
module _ (m : List ℕ) where
  no_frame : head_of m ≡ None → (are_fields m && has_frame (fields_of m)) ≡ false
  unfolding has_frame_by
  no_frame e = sym (framed m) ∙ rw e

  pub no_head : head_of m ≡ None → 30 ≡ message_refusal m
  unfolding message_refusal first_of
  no_head e = rw (no_frame e)

  module _ {h : Head} (e : head_of m ≡ Some h) {s : Scan} (d : s ≡ scanned m h.body) where
    pub framed_is : is_framed_by m h s ≡ (are_fields m && has_frame (fields_of m))
    unfolding has_frame_by
    framed_is = let f = framed m in rw d (rw e at f)

    pub not_framed : is_framed_by m h s ≡ false → 30 ≡ message_refusal m
    unfolding message_refusal first_of
    not_framed f = rw (sym framed_is ∙ f)

    module _ (right : is_framed_by m h s ≡ true) where
      pub not_complete : is_complete s.sequence ≡ false → 31 ≡ message_refusal m
      unfolding message_refusal first_of
      not_complete f = rw (sym framed_is ∙ right, sym (sequence m e s d right) ∙ f)

      module _ (q : is_complete s.sequence ≡ true) where
        pub not_formed : s.formed ≡ false → 32 ≡ message_refusal m
        unfolding message_refusal first_of
        not_formed f = rw (sym framed_is ∙ right, sym (sequence m e s d right) ∙ q, sym (formed m e s d right) ∙ f)

        pub none_applies : s.formed ≡ true → 0 ≡ message_refusal m
        unfolding message_refusal first_of
        none_applies f = rw (sym framed_is ∙ right, sym (sequence m e s d right) ∙ q, sym (formed m e s d right) ∙ f)

-- ---- what steps that may fail give

pub passed_on : {T : Type 0} (r : Result T Refusal) (e : Refusal) → IsErr r × IsErrAnd r (λ x. x ≡ e) → number_of refusal_number r ≡ refusal_number e
passed_on (Ok x) e h = absurd cc
passed_on (Err x) e h = ap refusal_number h.1

pub answered : (r : Result Judged Refusal) (e : Refusal) → IsErr r × IsErrAnd r (λ x. x ≡ e) → answer_said r ≡ refused (refusal_number e)
answered (Ok x) e h = absurd cc
answered (Err x) e h = ap (λ e. refused (refusal_number e)) h.1

-- the error of a test that applies
pub applies : (b : Bool) {e d : Refusal} → ◌≡◌ {A = Result (Unit {0}) Refusal} (Err e) (cond b (Err d) (Ok tt)) → (b ≡ true) × (e ≡ d)
applies true k = (refl, cc)
applies false k = absurd cc

pub spares : (b : Bool) (d : Refusal) {x : Unit {0}} → ◌≡◌ {A = Result (Unit {0}) Refusal} (Ok x) (cond b (Err d) (Ok tt)) → b ≡ false
spares true d k = absurd cc
spares false d k = refl

pub head_missing : (o : Option Head) {e d : Refusal} → Err e ≡ ok_or o d → (o ≡ None) × (e ≡ d)
head_missing None k = (refl, cc)
head_missing (Some h) k = absurd cc

pub fails : (b : Bool) {e d : Refusal} → ◌≡◌ {A = Result (Unit {0}) Refusal} (Err e) (cond (not b) (Err d) (Ok tt)) → (b ≡ false) × (e ≡ d)
fails true k = absurd cc
fails false k = (refl, cc)

pub holds : (b : Bool) (d : Refusal) {x : Unit {0}} → ◌≡◌ {A = Result (Unit {0}) Refusal} (Ok x) (cond (not b) (Err d) (Ok tt)) → b ≡ true
holds true d k = refl
holds false d k = absurd cc

-- ---- a message that is refused

some_number : (e : Refusal) → refusal_number e ≡ 0 → ⊥
some_number e z = absurd (true≢false (sym (refusal_refuses e) ∙ ap is_refused z))

pub fix_refused : (m : List ℕ) (a : MessageInputs) (e : Refusal) → refusal_number e ≡ message_refusal m → check_fix a m ≡ refused (refusal_number e)
unfolding check_fix
fix_refused m a e k = outcome_some (message_refusal m) _ (λ z. some_number e (k ∙ z)) ∙ ap refused (sym k)

-- ---- a message that is taken

module _ (m : List ℕ) (none : message_refusal m ≡ 0) {p : Places} (are : AreRead m p) where
  abbrev z : Scan
  z = scanned m are.head.body

  tests : (are_fields m && has_frame (fields_of m) ≡ true) × (in_sequence (body_of m) ≡ true) × (all is_formed (body_of m) ≡ true)
  unfolding message_refusal all
  tests = let (a, (b, (c, d))) = none_apply (message_refusals m) refl none in (not-false _ a, not-false _ b, not-false _ c)

  order : Said m z
  order = said m are.found z refl (framed_is m are.found refl ∙ tests.0) tests.1

  pub price_inside : Inside (length m) p.price
  price_inside = rw are.places order.inside

  pub price_formed : is_price (slice p.price.start p.price.end m) ≡ true
  unfolding has_form
  price_formed = rw (are.places, order.price) (value_formed 44 (body_of m) (needed (body_of m) tests.1).1 tests.2)

  -- the groups stand where the loop found them
  pub has_groups : HasGroups m p.groups p.legs
  has_groups =
      rw are.places
      (record {
        fields = rw order.groups (groups_all is_field (body_of m) order.fields);
        formed = rw order.groups (groups_all is_formed (body_of m) tests.2);
        tags = rw (order.groups, order.legs) (groups_tags (body_of m) tests.1);
      })

  module _ (a : MessageInputs) where
    abbrev o : SaidOrder
    o = order_in (body_of m)

    abbrev t : Terms
    t = terms_of o.price o.kind a.stop a.manual a.opening (pos 0)

    fix_said : check_fix a m ≡ check_legs a.settings a.market t (length o.legs) o.legs
    unfolding check_fix
    fix_said = outcome_none (message_refusal m) _ none

    many : length o.legs ≡ p.legs
    unfolding order_in
    many = order.count ∙ sym order.legs ∙ ap (λ (q : Places). q.legs) (sym are.places)

    pub fix_too_many : 16 < p.legs → check_fix a m ≡ refused 3
    fix_too_many h = fix_said ∙ too_many_legs a.settings a.market t (length o.legs) o.legs (rw many h)

    pub fix_record : (u : Terms) (r : Order) → u ≡ terms_of (price_said (slice p.price.start p.price.end m)) (cond p.market 1 0) a.stop a.manual a.opening (pos 0)
        → Recorded p.legs (legs_said (groups_at m p.groups p.legs)) u r → check_fix a m ≡ check_order a.settings a.market r
    unfolding check_order order_in
    fix_record u r e k =
        let l = k.legs in
        let n = k.len in
        let places = are.places in
        let legs : record_legs r ≡ o.legs = l ∙ ap (λ (q : Places). legs_said (groups_at m q.groups q.legs)) places ∙ ap legs_said order.groups in
        let said : terms_of (price_said (slice p.price.start p.price.end m)) (cond p.market 1 0) a.stop a.manual a.opening (pos 0) ≡ t = ap (λ (q : Places). terms_of (price_said (slice q.price.start q.price.end m)) (cond q.market 1 0) a.stop a.manual a.opening (pos 0)) places ∙ (λ i. terms_of (price_said (order.price i)) (order.kind i) a.stop a.manual a.opening (pos 0)) in
        let terms : r.terms ≡ t = k.terms ∙ e ∙ said in
        fix_said ∙ sym (rw (legs, n ∙ sym many, terms))
