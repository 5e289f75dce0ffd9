-- The fields behind field 35, read one by one.
use Rattle.std.specs.Prelude.{List, [], ◌∷◌, ℕ, ◌+◌, length}
use Rattle.fields.specs.Fields.{placed_at}
use Rattle.frame.specs.declared.Tail.{Tail}
use Rattle.frame.specs.Frame.{tail_step}

-- the fields `fs` stand one behind the other from the place `at` on
unfoldable pub run_tail : ℕ → Tail → List (List ℕ) → Tail
run_tail at t [] = t
run_tail at t (f ∷ fs) = run_tail (at + length f + 1) (tail_step t at (placed_at at f)) fs
