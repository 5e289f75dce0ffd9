-- The fields of a message by their places.
use Rattle.std.specs.Prelude.{List, [], ◌∷◌, cond, ℕ, ◌+◌, ◌≤◌, Option, Some, None, length, drop}
use Rattle.std.proofs.Math.Seq.{slice}
use Rattle.rules.specs.Fix.{leading_digits, is_field, tag_of, fields_of}
use Rattle.fields.specs.declared.Span.{Span}
use Rattle.fields.specs.declared.Field.{Field}

-- the field `f` that stands at the place `at`
abbrev pub placed_at : ℕ → List ℕ → Field
placed_at at f = record { tag = tag_of f; value = record { start = at + (leading_digits f + 1); end = at + length f }; next = at + length f + 1 }

-- the first of the fields that stand at the place `at`
unfoldable pub first_at : ℕ → List (List ℕ) → Option Field
first_at at [] = None
first_at at (f ∷ fs) = cond (is_field f) (Some (placed_at at f)) None

-- the field at a place of a message
unfoldable pub field_at : List ℕ → ℕ → Option Field
field_at message at = first_at at (fields_of (drop at message))

-- the fields that stand at the place `at`, one behind the other, up to one that is none
unfoldable pub all_at : ℕ → List (List ℕ) → List Field
all_at at [] = []
all_at at (f ∷ fs) = cond (is_field f) (placed_at at f ∷ all_at (at + length f + 1) fs) []

-- the fields of a message from a place on
unfoldable pub fields_at : List ℕ → ℕ → List Field
fields_at message at = all_at at (fields_of (drop at message))

-- the value of a field that stands at its places
abbrev pub value_in : List ℕ → Field → List ℕ
value_in m f = slice f.value.start f.value.end m

-- the places of a value are places of a message of so many bytes
abbrev pub Inside : ℕ → Span → Type 0
Inside n s = (s.start ≤ s.end) × (s.end ≤ n)
