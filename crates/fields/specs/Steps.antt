-- What stands at a place, step by step: a tag, then a value. And the fields, step by step.
use Rattle.std.specs.Prelude.{◌≡◌, List, cond, ℕ, Option, Some, None, MatchOption}
use Rattle.std.specs.Iterator.{YieldsFirst}
use Rattle.rules.specs.Fix.{leading_digits, is_field, tag_of}
use Rattle.fields.specs.declared.Tag.{Tag}
use Rattle.fields.specs.declared.Field.{Field}
use Rattle.fields.specs.declared.Fields.{Fields}
use Rattle.fields.specs.Fields.{field_at, fields_at}

-- the tag that bytes begin with, whether or not a byte 1 comes behind it
unfoldable pub tag_in : List ℕ → Option Tag
tag_in s = cond (is_field s) (Some (record { number = tag_of s; digits = leading_digits s })) None

-- the fields from a reader's position on
abbrev pub fields_left : Fields → List Field
fields_left r = fields_at r.message.now r.at

-- the reader keeps its message; it stands behind the field that it gave, and where it was if it gave none
abbrev pub MovesBehind : Fields → Option Field → Fields → Type 0
MovesBehind old f new = (new.message ≡ old.message) × MatchOption f (new.at ≡ old.at) (λ g. new.at ≡ g.next)

-- the reader gives the field at its position, the first of those from there on, and moves behind it
abbrev pub ReadsField : Fields → Option Field → Fields → Type 0
ReadsField old f new = YieldsFirst fields_left old f new × (f ≡ field_at old.message.now old.at) × MovesBehind old f new
