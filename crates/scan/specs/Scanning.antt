-- The fields of a message behind its head, one after the other, each a step of a state.
use Rattle.std.specs.Prelude.{List, [], ◌∷◌, true, false, cond, ◌&&◌, ℕ, eqb}
use Rattle.rules.specs.Lists.{same_numbers}
use Rattle.rules.specs.Fix.{one, number_said, has_form}
use Rattle.fields.specs.declared.Field.{Field}
use Rattle.fields.specs.Fields.{fields_at, value_in}
use Rattle.frame.specs.Frame.{no_tail, tail_step}
use Rattle.groups.specs.Sequence.{none_seen, sequence_step}
use Rattle.scan.specs.declared.Places.{Places}
use Rattle.scan.specs.declared.Scan.{Scan}

abbrev pub no_places : Places
no_places = record { market = false; price = record { start = 0; end = 0 }; groups = 0; legs = 0 }

abbrev pub begun : ℕ → Scan
begun at = record { next = at; tail = no_tail; sequence = none_seen; formed = true; places = no_places }

-- the number of groups that a field says
abbrev pub legs_in : List ℕ → Field → ℕ
legs_in m f = cond (eqb f.tag 555) (number_said (value_in m f)) 0

unfoldable pub places_step : List ℕ → Places → Field → Places
places_step m p f =
    cond (eqb f.tag 40)
    (record { market = same_numbers (value_in m f) one; price = p.price; groups = p.groups; legs = p.legs })
    (cond (eqb f.tag 44)
    (record { market = p.market; price = f.value; groups = p.groups; legs = p.legs })
    (cond (eqb f.tag 555)
    (record { market = p.market; price = p.price; groups = f.next; legs = legs_in m f })
    p))

unfoldable pub step_of : List ℕ → Scan → Field → Scan
step_of m s f =
    record {
      next = f.next;
      tail = tail_step s.tail s.next f;
      sequence = sequence_step s.sequence f.tag (legs_in m f);
      formed = s.formed && has_form f.tag (value_in m f);
      places = places_step m s.places f;
    }

-- the state after these fields
unfoldable pub scan_over : List ℕ → Scan → List Field → Scan
scan_over m s [] = s
scan_over m s (f ∷ fs) = scan_over m (step_of m s f) fs

-- the state after the fields from `at` on
unfoldable pub scanned : List ℕ → ℕ → Scan
scanned m at = scan_over m (begun at) (fields_at m at)
