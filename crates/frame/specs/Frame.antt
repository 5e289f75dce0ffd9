-- The frame of a message, by the places of its fields.
use Rattle.std.specs.Prelude.{List, true, false, cond, ◌&&◌, ◌||◌, ℕ, eqb, Option, Some, None, is_some, option_and_then}
use Rattle.rules.specs.Lists.{same_numbers}
use Rattle.rules.specs.Fix.{is_number, number_of, version, multileg}
use Rattle.fields.specs.declared.Field.{Field}
use Rattle.fields.specs.Fields.{field_at, value_in}
use Rattle.frame.specs.declared.Head.{Head}
use Rattle.frame.specs.declared.Tail.{Tail}

-- the first three fields, where they are the frame's
unfoldable pub head_from : List ℕ → Field → Field → Field → Option Head
head_from m f8 f9 f35 =
    cond ((eqb f8.tag 8 && same_numbers (value_in m f8) version) && ((eqb f9.tag 9 && is_number (value_in m f9)) && (eqb f35.tag 35 && same_numbers (value_in m f35) multileg)))
    (Some (record { said = number_of (value_in m f9); counted = f9.next; body = f35.next }))
    None

unfoldable pub head_of : List ℕ → Option Head
head_of m =
    option_and_then (λ f8. option_and_then (λ f9. option_and_then (λ f35. head_from m f8 f9 f35) (field_at m f9.next)) (field_at m f8.next)) (field_at m 0)

-- what is known of field 10 before the body is read
abbrev pub no_tail : Tail
no_tail = record { closing = None; stray = false }

-- A field of the body, or field 10, which stands at `at`. A field behind field 10, or 8, 9 or 35 here, is out of place.
unfoldable pub tail_step : Tail → ℕ → Field → Tail
tail_step t at f =
    cond (is_some t.closing)
    (record { closing = t.closing; stray = true })
    (cond (eqb f.tag 10)
    (record { closing = Some (record { at = at; value = f.value }); stray = t.stray })
    (record { closing = t.closing; stray = t.stray || (eqb f.tag 8 || (eqb f.tag 9 || eqb f.tag 35)) }))
