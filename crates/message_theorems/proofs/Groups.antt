-- Demand 3 of messages: an exchange of two groups leaves the answer, whatever fields are between them, and every other sequence of groups is made by such exchanges.
use mathlib.Core.Path.{◌≡◌, refl, sym, ap, ◌∙◌, subst, subst₂}
use mathlib.Core.List.{List, [], ◌∷◌, ◌++◌, append_assoc}
use mathlib.Core.Bool.{Bool, true, false, not, ◌&&◌, ◌||◌}
use Prim.Native.Nat.{ℕ, zero, suc}
use native.Mathlib.Omega.{arith}
use lib.Dec.{eqb}
use lib.ListN.{length, length-append, drop}
use borrow.Author.Tests.{not-false}
use lib.IntN.{pos}
use Rattle.rules.specs.declared.OrderAnswer.{OrderAnswer}
use Rattle.rules.specs.Lists.{All, Perm, none, keep, swap, then, all}
use Rattle.rules.specs.Order.{legs_of, terms_of}
use Rattle.rules.specs.Kinds.{is_accepted, is_refused}
use Rattle.rules.specs.Numerals.{numeral}
use Rattle.rules.specs.Numbers.{first_of, refused, outcome}
use Rattle.rules.specs.Fix.{order_of, fields_of, bytes_of, is_field, are_fields, all_but_last, has_frame, in_sequence, is_formed, kind_said, price_said, SaidOrder, order_in, message_refusals, message_refusal, MessageInputs, check_said, check_fix, digits_for}
use Rattle.rules.proofs.Tests.{and_no}
use Rattle.rules.proofs.Numbering.{first_passes, none_apply}
use Rattle.laws.proofs.Sorting.{perm_refl, length_perm, all_perm, all_append}
use Rattle.laws.proofs.Sequence.{check_perm}
use Rattle.field_laws.proofs.Fields.{fields_append}
use Rattle.demand3.specs.Demand3.{IsValid, Arrivals}
use Rattle.demand3.proofs.Demand3.{not_refused, both_arrivals, signed_back}
use Rattle.message_theorems.specs.Groups.{Group, IsPart, IsGroup, fields_in, with_gaps, message_with, MessageDemand3}
use Rattle.message_theorems.proofs.Exchange.{apart, Exchanged, here, there, measure_kept, all_kept, value_kept, Frames, wrong, alike, frames}
use Rattle.message_theorems.proofs.Sequences.{sequences}

-- ---- an exchange of two groups

-- what the check says of a message, by its length and its fields
abbrev inner : List (List ℕ) → List (List ℕ)
inner fs = all_but_last (drop 3 fs)

abbrev tests : ℕ → List (List ℕ) → List (Bool × ℕ)
tests n fs =
    (not (eqb (length (bytes_of fs)) n && all is_field fs && has_frame fs), 30)
    ∷ (not (in_sequence (inner fs)), 31)
    ∷ (not (all is_formed (inner fs)), 32)
    ∷ []

abbrev answer : MessageInputs → ℕ → List (List ℕ) → OrderAnswer
answer a n fs = outcome (first_of (tests n fs)) (check_said a (order_in (inner fs)))

answer_is : (a : MessageInputs) (m : List ℕ) → check_fix a m ≡ answer a (length m) (fields_of m)
unfolding check_fix message_refusal are_fields
answer_is a m = refl

-- a number other than 0 is the whole outcome
same_outcome : (n : ℕ) (x y : OrderAnswer) → (n ≡ 0 → x ≡ y) → outcome n x ≡ outcome n y
unfolding outcome
same_outcome zero x y h = h refl
same_outcome (suc n) x y h = refl

-- the same terms, and the legs in another sequence
same_check : (a : MessageInputs) (o p : SaidOrder) → o.kind ≡ p.kind → o.price ≡ p.price → Perm o.legs p.legs → check_said a o ≡ check_said a p
same_check a o p k z l =
    rw (k, z, length_perm l) (check_perm a.settings a.market (terms_of p.price p.kind a.stop a.manual a.opening (pos 0)) (length p.legs) l)

wrong_frame : (a : MessageInputs) (n : ℕ) (fs : List (List ℕ)) → has_frame fs ≡ false → answer a n fs ≡ refused 30
unfolding first_of outcome
wrong_frame a n fs h = rw (h, and_no (eqb (length (bytes_of fs)) n && all is_field fs))

exchange : (a : MessageInputs) (n : ℕ) (fs gs : List (List ℕ)) → Exchanged fs gs → answer a n fs ≡ answer a n gs
unfolding all order_in
exchange a n fs gs e = go (frames e)
  where
    same_tests : has_frame fs ≡ has_frame gs → Exchanged (inner fs) (inner gs) → tests n fs ≡ tests n gs
    same_tests p q = rw (measure_kept length length-append e, all_kept is_field e, p, (sequences q).same, all_kept is_formed q)

    same_order : Exchanged (inner fs) (inner gs) → first_of (tests n fs) ≡ 0 → check_said a (order_in (inner fs)) ≡ check_said a (order_in (inner gs))
    same_order q h =
        let (frame, (sequence, form)) = none_apply (tests n fs) refl h in
        let kind = ap kind_said (value_kept 40 refl refl refl q) in
        let price = ap price_said (value_kept 44 refl refl refl q) in
        same_check a _ _ kind price ((sequences q).legs (not-false _ sequence))

    go : Frames fs gs → answer a n fs ≡ answer a n gs
    go (wrong p q) = wrong_frame a n fs p ∙ sym (wrong_frame a n gs q)
    go (alike p q) = rw (← (same_tests p q)) (same_outcome (first_of (tests n fs)) _ _ (same_order q))

-- ---- groups in another sequence

-- fields before an exchange, and behind it
below : (front : List (List ℕ)) {fs gs : List (List ℕ)} → Exchanged fs gs → Exchanged (front ++ fs) (front ++ gs)
below [] e = e
below (f ∷ front) e = there f (below front e)

above : (back : List (List ℕ)) {fs gs : List (List ℕ)} → Exchanged fs gs → Exchanged (fs ++ back) (gs ++ back)
above back (here x y mid fs) = subst₂ Exchanged (joined x y) (joined y x) (here x y mid (fs ++ back))
  where
    joined : (a b : Group) → apart a mid b (fs ++ back) ≡ apart a mid b fs ++ back
    joined a b = ap (λ l. fields_in a ++ l) (sym (append_assoc mid (fields_in b ++ fs) back))
above back (there f e) = there f (above back e)

-- what every exchange leaves, every other sequence leaves
resequenced : {B : Type 0} (k : List (List ℕ) → B) → ((fs gs : List (List ℕ)) → Exchanged fs gs → k fs ≡ k gs) → (gaps : List (List (List ℕ))) {gs hs : List Group} → Perm gs hs
    → k (with_gaps gaps gs) ≡ k (with_gaps gaps hs)
resequenced k h gaps none = refl
resequenced k h [] (keep g p) = resequenced (λ fs. k (fields_in g ++ fs)) (λ fs gs e. h _ _ (below (fields_in g) e)) [] p
resequenced k h (gap ∷ gaps) (keep g p) =
    resequenced (λ fs. k (gap ++ (fields_in g ++ fs))) (λ fs gs e. h _ _ (below gap (below (fields_in g) e))) gaps p
resequenced k h [] (swap x y gs) = h _ _ (here x y [] (with_gaps [] gs))
resequenced k h (gap ∷ []) (swap x y gs) = h _ _ (below gap (here x y [] (with_gaps [] gs)))
resequenced k h (gap ∷ mid ∷ gaps) (swap x y gs) = h _ _ (below gap (here x y mid (with_gaps gaps gs)))
resequenced k h gaps (then p q) = resequenced k h gaps p ∙ resequenced k h gaps q

-- no field holds byte 1
group_parts : (g : Group) (fs : List (List ℕ)) → IsGroup g → All IsPart fs → All IsPart (fields_in g ++ fs)
unfolding all numeral digits_for
group_parts g fs (a, b, c) h = (a, (b, (c, h)))

parts : (gaps : List (List (List ℕ))) (gs : List Group) → All (All IsPart) gaps → All IsGroup gs → All IsPart (with_gaps gaps gs)
parts [] [] hp h = tt
parts [] (g ∷ gs) hp h = group_parts g (with_gaps [] gs) h.0 (parts [] gs hp h.1)
parts (gap ∷ gaps) [] hp h = all_append IsPart gap (with_gaps gaps []) hp.0 (parts gaps [] hp.1 h)
parts (gap ∷ gaps) (g ∷ gs) hp h =
    all_append IsPart gap (fields_in g ++ with_gaps gaps gs) hp.0 (group_parts g (with_gaps gaps gs) h.0 (parts gaps gs hp.1 h.1))

module _ (a : MessageInputs) (gaps : List (List (List ℕ))) (back : List ℕ) (hp : All (All IsPart) gaps) where
  fields_are : (gs : List Group) → All IsGroup gs → fields_of (message_with gaps gs back) ≡ with_gaps gaps gs ++ fields_of back
  fields_are gs h = fields_append (with_gaps gaps gs) back (parts gaps gs hp h)

  same_length : {gs hs : List Group} → Perm gs hs → length (message_with gaps gs back) ≡ length (message_with gaps hs back)
  same_length {gs} {hs} p =
      omega (
        arith,
        resequenced (λ fs. length (bytes_of fs)) (λ fs gs x. measure_kept length length-append x) gaps p,
        length-append (bytes_of (with_gaps gaps gs)) back,
        length-append (bytes_of (with_gaps gaps hs)) back,
      )

  same_answer : {gs hs : List Group} → All IsGroup gs → Perm gs hs → check_fix a (message_with gaps gs back) ≡ check_fix a (message_with gaps hs back)
  same_answer {gs} {hs} h p =
      rw (answer_is a (message_with gaps gs back), answer_is a (message_with gaps hs back), same_length p, fields_are gs h, fields_are hs (all_perm IsGroup p h))
      (resequenced (λ fs. answer a (length (message_with gaps hs back)) (fs ++ fields_of back)) (λ fs gs e. exchange a _ _ _ (above (fields_of back) e)) gaps p)

-- ---- one message

module _ (a : MessageInputs) (m : List ℕ) where
  refusal_refuses : is_accepted (message_refusal m) || is_refused (message_refusal m) ≡ true
  unfolding message_refusal all
  refusal_refuses = first_passes (λ k. is_accepted k || is_refused k) (message_refusals m) refl refl

  itself : Arrivals a.settings a.market (order_of m).price (pos 0) (legs_of (order_of m).legs) (check_fix a m) (check_fix a m)
  unfolding check_fix outcome
  itself = go (message_refusal m) refusal_refuses
    where
      o : SaidOrder
      o = order_of m

      go : (k : ℕ) → is_accepted k || is_refused k ≡ true
          → Arrivals a.settings a.market o.price (pos 0) (legs_of o.legs) (outcome k (check_said a o)) (outcome k (check_said a o))
      go zero h =
          let t = terms_of o.price o.kind a.stop a.manual a.opening (pos 0) in
          both_arrivals a.settings a.market t (length o.legs) o.price (pos 0) (signed_back o.price) o.legs o.legs (perm_refl o.legs)
      go (suc k) h =
          let never : IsValid (refused (suc k)) → ⊥ = λ v. omega (arith, not_refused (suc k) h v) in
          record { same = refl; debit = λ none v. absurd (never v); credit = λ none v. absurd (never v); sound = λ none v. absurd (never v) }

pub message_demand3 : MessageDemand3
message_demand3 =
    record {
      messages = λ a gaps gs hs back hp hg p.
          subst (Arrivals a.settings a.market _ _ _ (check_fix a (message_with gaps gs back))) (same_answer a gaps back hp hg p) (itself a (message_with gaps gs back));
    }
