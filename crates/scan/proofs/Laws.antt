-- The loop over fields: its turn and its end. A field ends behind its place, so that no more fields follow than bytes. And the step that only moves on.
use mathlib.Core.Path.{◌≡◌, refl, sym, ap, ◌∙◌}
use mathlib.Core.Bool.{true, false, not, ◌&&◌, true≢false}
use mathlib.Core.List.{List, [], ◌∷◌}
use Prim.Native.Nat.{ℕ}
use lib.ListN.{length}
use lib.Dec.{eqb}
use borrow.Author.Tests.{eq-eqb, ne_eqb, eqb-true}
use Rattle.std.specs.Prelude.{is_some}
use Rattle.rules.specs.Lists.{All}
use Rattle.fields.specs.declared.Field.{Field}
use Rattle.fields.specs.Fields.{fields_at, value_in, Inside}
use Rattle.fields.proofs.Laws.{each_inside}
use Rattle.rules.specs.Fix.{is_further, has_form}
use Rattle.rules.proofs.Tests.{and_both, and_true, or_false, not_eq}
use Rattle.frame.specs.Frame.{tail_step}
use Rattle.frame.proofs.Laws.{step_continued}
use Rattle.groups.specs.Sequence.{sequence_step}
use Rattle.groups.proofs.Laws.{further_outside}
use Rattle.scan.specs.declared.Scan.{Scan}
use Rattle.scan.specs.Scanning.{begun, legs_in, places_step, step_of, scan_over, scanned}

-- from these fields on, each inside the message, the state becomes that after all from `first` on
pub record Left (m : List ℕ) (first : ℕ) (s : Scan) (fs : List Field) : Type 0 where
  left : scan_over m s fs ≡ scanned m first
  inside : All (λ f. Inside (length m) f.value) fs

pub all_left : (m : List ℕ) (first : ℕ) (s : Scan) → s ≡ begun first → Left m first s (fields_at m first)
unfolding scanned
all_left m first s e = record { left = rw e; inside = each_inside m first }

module _ {m : List ℕ} {first : ℕ} {s : Scan} {fs : List Field} (l : Left m first s fs) where
  pub none_left : fs ≡ [] → s ≡ scanned m first
  unfolding scan_over
  none_left e = rw e at l.left

  module _ (f : Field) (gs : List Field) (e : fs ≡ f ∷ gs) where
    pub next_inside : Inside (length m) f.value
    next_inside = let k = rw e at l.inside in k.0

    pub one_passed : (t : Scan) → t ≡ step_of m s f → Left m first t gs
    unfolding scan_over
    one_passed t d = let k = rw e at l.inside in record { left = rw d (rw e at l.left); inside = k.1 }

abbrev passed : Scan → Field → Scan
passed s f = record { next = f.next; tail = s.tail; sequence = s.sequence; formed = s.formed; places = s.places }

-- where field 10 is still to come and no field of the groups is due, a further tag only moves the place on
module _ (m : List ℕ) (s : Scan) (f : Field) (further : is_further f.tag ≡ true) where
  is_not : (n : ℕ) → is_further n ≡ false → f.tag ≡ n → ⊥
  is_not n h e = true≢false (sym further ∙ ap is_further e ∙ h)

  same_sequence : s.sequence.left ≡ 0 → s.sequence ≡ sequence_step s.sequence f.tag (legs_in m f)
  unfolding sequence_step is_further
  same_sequence d =
      rw (eq-eqb s.sequence.left 0 d)
      (further_outside s.sequence (legs_in m f) f.tag d (is_not 40 refl) (is_not 44 refl) (is_not 555 refl) (is_not 600 refl) (is_not 623 refl) (is_not 624 refl))

  same_tail : is_some s.tail.closing ≡ false → s.tail ≡ tail_step s.tail s.next f
  unfolding is_further
  same_tail e = rw (step_continued s.tail s.next f e (ne_eqb f.tag 10 (is_not 10 refl)), ne_eqb f.tag 8 (is_not 8 refl), ne_eqb f.tag 9 (is_not 9 refl), ne_eqb f.tag 35 (is_not 35 refl), or_false)

  same_form : true ≡ has_form f.tag (value_in m f)
  unfolding has_form is_further
  same_form = rw (ne_eqb f.tag 40 (is_not 40 refl), ne_eqb f.tag 44 (is_not 44 refl), ne_eqb f.tag 555 (is_not 555 refl), ne_eqb f.tag 600 (is_not 600 refl), ne_eqb f.tag 623 (is_not 623 refl), ne_eqb f.tag 624 (is_not 624 refl))

  same_places : s.places ≡ places_step m s.places f
  unfolding places_step is_further
  same_places = rw (ne_eqb f.tag 40 (is_not 40 refl), ne_eqb f.tag 44 (is_not 44 refl), ne_eqb f.tag 555 (is_not 555 refl))

  moves_on : is_some s.tail.closing ≡ false → s.sequence.left ≡ 0 → passed s f ≡ step_of m s f
  unfolding step_of
  moves_on e d = rw (← same_tail e, ← same_sequence d, ← same_form, ← same_places, and_true)

pub passes : (m : List ℕ) (s : Scan) (f : Field) → is_further f.tag && (eqb s.sequence.left 0 && not (is_some s.tail.closing)) ≡ true → passed s f ≡ step_of m s f
passes m s f h =
    let both = and_both (is_further f.tag) _ h in
    let none = and_both (eqb s.sequence.left 0) _ both.1 in
    moves_on m s f both.0 (not_eq (is_some s.tail.closing) none.1) (eqb-true s.sequence.left 0 none.0)
