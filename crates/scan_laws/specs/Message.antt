-- What the head of a message and the fields behind it say, by their places, held against the definitions.
use Rattle.std.specs.Prelude.{◌≡◌, List, Bool, true, false, cond, not, ◌&&◌, ℕ, ◌-◌, ◌*◌, eqb, length, take, drop, Option, Some, None, is_some}
use Rattle.std.proofs.Math.Seq.{slice}
use Rattle.rules.specs.Lists.{all, same_numbers}
use Rattle.rules.specs.Fix.{sum_digits, fields_of, is_field, body_of, value_at, kind_said, leg_number, group_fields, legs_said}
use Rattle.fields.specs.Fields.{Inside}
use Rattle.frame.specs.declared.Closing.{Closing}
use Rattle.frame.specs.declared.Head.{Head}
use Rattle.scan.specs.declared.Scan.{Scan}
use Rattle.scan.specs.Scanning.{scanned}

-- Length and sum are right, where field 10 stands.
unfoldable pub is_closed_by : List ℕ → Head → Option Closing → Bool
is_closed_by m h None = false
is_closed_by m h (Some c) = eqb h.said (c.at - h.counted) && same_numbers (slice c.value.start c.value.end m) (sum_digits (take c.at m))

-- The frame is right: the first three fields, all that follows up to field 10 as the last, the length and the sum.
unfoldable pub is_framed_by : List ℕ → Head → Scan → Bool
is_framed_by m h s = (eqb s.next (length m) && (is_some s.tail.closing && not s.tail.stray)) && is_closed_by m h s.tail.closing

-- the same of a message whose head may be wrong
unfoldable pub has_frame_by : List ℕ → Option Head → Bool
has_frame_by m None = false
has_frame_by m (Some h) = is_framed_by m h (scanned m h.body)

-- the order of a body in sequence stands at these places
pub record Said (m : List ℕ) (s : Scan) : Type 0 where
  pub kind : cond s.places.market 1 0 ≡ kind_said (value_at 40 (body_of m))
  pub price : slice s.places.price.start s.places.price.end m ≡ value_at 44 (body_of m)
  pub inside : Inside (length m) s.places.price
  pub legs : s.places.legs ≡ leg_number (body_of m)
  pub groups : take (3 * s.places.legs) (fields_of (drop s.places.groups m)) ≡ group_fields (body_of m)
  pub fields : all is_field (body_of m) ≡ true
  pub count : length (legs_said (group_fields (body_of m))) ≡ leg_number (body_of m)
