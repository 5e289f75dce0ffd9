-- What the loop makes of a message that field 10 closes: its sequence, its forms, and the places of its order, each by its run over the fields.
use mathlib.Core.Path.{◌≡◌, refl, ap, ◌∙◌}
use mathlib.Core.List.{List, [], ◌∷◌, ◌++◌}
use mathlib.Core.Bool.{true, false, cond}
use Prim.Native.Nat.{ℕ}
use lib.Dec.{eqb}
use lib.ListN.{drop}
use Rattle.rules.specs.Lists.{all, same_numbers}
use Rattle.rules.specs.Fix.{fields_of, body_of, one, number_said, in_sequence, is_formed, how_often, value_at, behind, leg_number}
use Rattle.fields.specs.declared.Field.{Field}
use Rattle.groups.specs.Sequence.{is_complete}
use Rattle.message_laws.proofs.Sequences.{in_sequence_last}
use Rattle.fields.specs.Fields.{value_in}
use Rattle.scan.specs.declared.Places.{Places}
use Rattle.scan.specs.declared.Scan.{Scan}
use Rattle.scan.specs.Scanning.{begun}
use Rattle.scan_laws.specs.Message.{Said}
use Rattle.scan_laws.specs.Runs.{first_with}
use Rattle.scan_laws.proofs.Bodies.{formed_last, often_last, value_last, behind_last, needed, legs_said_lem, groups_last}
use Rattle.scan_laws.proofs.Firsts.{IsFirst, first_with_lem}
use Rattle.scan_laws.proofs.Heads.{Opened, rest, inner, last, body, opened_fields}
use Rattle.scan_laws.proofs.Parts.{sequence_run, formed_run, put, once}
use Rattle.scan_laws.proofs.Tails.{seen, behind35, each_rest, ran, Closed, rest_is, last_tag, each_inner}

module _ (m : List ℕ) (c : Closed m) where
  abbrev o : Opened m
  o = c.opened

  body_inner : body_of m ≡ inner m o
  body_inner = rw (opened_fields m o)

  pub sequence_is : is_complete (seen m o).sequence ≡ in_sequence (body_of m)
  sequence_is =
      let r = sequence_run m (rest m o) (body m o) (begun (body m o)) (behind35 m o).0 in
      rw (ran m o c.fields, r, rest_is m c, body_inner) (in_sequence_last (inner m o) (last m o) (last_tag m c))

  pub formed_is : (seen m o).formed ≡ all is_formed (body_of m)
  formed_is =
      let r = formed_run m (rest m o) (body m o) (begun (body m o)) (behind35 m o).0 in
      rw (ran m o c.fields, r, rest_is m c, body_inner) (formed_last (last m o) (last_tag m c) (inner m o))

  module _ (q : in_sequence (body_of m) ≡ true) where
    right : in_sequence (inner m o) ≡ true
    right = rw body_inner at q

    -- a tag that is there once
    module _ (t : ℕ) (other : eqb 10 t ≡ false) (h : how_often t (inner m o) ≡ 1) where
      abbrev it : Field
      it = first_with t (body m o) (rest m o)

      often : how_often t (rest m o) ≡ 1
      often = rw (rest_is m c) (often_last (last m o) (last_tag m c) t other (inner m o) ∙ h)

      first : IsFirst m t (rest m o) it
      first = first_with_lem m t (rest m o) (body m o) (behind35 m o).0 (each_rest m o c.fields) often

      value_is : value_in m it ≡ value_at t (inner m o)
      value_is = first.value ∙ ap (value_at t) (rest_is m c) ∙ value_last (last m o) (last_tag m c) t other (inner m o)

      behind_is : fields_of (drop it.next m) ≡ behind t (inner m o) ++ (last m o ∷ [])
      behind_is = first.behind ∙ ap (behind t) (rest_is m c) ∙ behind_last (last m o) (last_tag m c) t (inner m o) h

      put_once : {X : Type 0} (part : Places → X) (new : Field → X) (own : (p : Places) (f : Field) → part (put m p f) ≡ cond (eqb f.tag t) (new f) (part p)) → part (seen m o).places ≡ new it
      put_once part new own = ap (λ (s : Scan). part s.places) (ran m o c.fields) ∙ once m part t new own (rest m o) (body m o) (begun (body m o)) often

    pub said_is : Said m (seen m o)
    said_is =
        let (h40, h44, h555) = needed (inner m o) right in
        let market = put_once 40 refl h40 (λ p. p.market) (λ f. same_numbers (value_in m f) one) (λ p f. refl) in
        let price = put_once 44 refl h44 (λ p. p.price) (λ f. f.value) (λ p f. refl) in
        let groups = put_once 555 refl h555 (λ p. p.groups) (λ f. f.next) (λ p f. refl) in
        let legs = put_once 555 refl h555 (λ p. p.legs) (λ f. number_said (value_in m f)) (λ p f. refl) in
        let legs_are : (seen m o).places.legs ≡ leg_number (inner m o) = legs ∙ ap number_said (value_is 555 refl h555) in
        record {
          kind = rw (market, value_is 40 refl h40, body_inner);
          price = rw (price, body_inner) (value_is 44 refl h44);
          inside = rw price (first 44 refl h44).inside;
          legs = rw body_inner legs_are;
          groups = rw (groups, legs_are, body_inner, behind_is 555 refl h555) (groups_last (inner m o) right (last m o));
          fields = rw body_inner (each_inner m c);
          count = rw body_inner (legs_said_lem (inner m o) right);
        }
