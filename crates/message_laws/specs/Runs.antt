-- The sequence of the needed tags over the fields of a body, one field after the other.
use Rattle.std.specs.Prelude.{List, [], ◌∷◌, cond, ℕ, eqb}
use Rattle.rules.specs.Fix.{tag_of, value_of, number_said}
use Rattle.groups.specs.declared.Sequence.{Sequence}
use Rattle.groups.specs.Sequence.{sequence_step}

unfoldable pub run_tags : Sequence → List (List ℕ) → Sequence
run_tags q [] = q
run_tags q (f ∷ fs) = run_tags (sequence_step q (tag_of f) (cond (eqb (tag_of f) 555) (number_said (value_of f)) 0)) fs
