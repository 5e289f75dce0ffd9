-- The fields behind the head of a message, by their list: what the loop over them makes, and the first with a tag.
use Rattle.std.specs.Prelude.{List, [], ◌∷◌, cond, ℕ, ◌+◌, eqb, length}
use Rattle.rules.specs.Fix.{tag_of}
use Rattle.fields.specs.declared.Field.{Field}
use Rattle.fields.specs.Fields.{placed_at}
use Rattle.scan.specs.declared.Scan.{Scan}
use Rattle.scan.specs.Scanning.{step_of}

-- the state after the fields `fs`, which stand from the place `at` on
unfoldable pub run_scan : List ℕ → ℕ → Scan → List (List ℕ) → Scan
run_scan m at s [] = s
run_scan m at s (f ∷ fs) = run_scan m (at + length f + 1) (step_of m s (placed_at at f)) fs

-- any field, where none is asked for
abbrev no_field : Field
no_field = record { tag = 0; value = record { start = 0; end = 0 }; next = 0 }

-- the first of them with the tag `t`
unfoldable pub first_with : ℕ → ℕ → List (List ℕ) → Field
first_with t at [] = no_field
first_with t at (f ∷ fs) = cond (eqb (tag_of f) t) (placed_at at f) (first_with t (at + length f + 1) fs)
