-- A field behind field 35, by cases.
use mathlib.Core.Path.{◌≡◌}
use mathlib.Core.Bool.{true, false, ◌||◌}
use Prim.Native.Nat.{ℕ}
use lib.Dec.{eqb}
use Rattle.std.specs.Prelude.{Some, is_some}
use Rattle.fields.specs.declared.Field.{Field}
use Rattle.frame.specs.declared.Tail.{Tail}
use Rattle.frame.specs.Frame.{tail_step}

-- behind field 10
abbrev pub strayed : Tail → Tail
strayed t = record { closing = t.closing; stray = true }

-- field 10
abbrev pub found : Tail → ℕ → Field → Tail
found t at f = record { closing = Some (record { at = at; value = f.value }); stray = t.stray }

-- of the body, or 8, 9 or 35
abbrev pub continued : Tail → Field → Tail
continued t f = record { closing = t.closing; stray = t.stray || (eqb f.tag 8 || (eqb f.tag 9 || eqb f.tag 35)) }

module _ (t : Tail) (at : ℕ) (f : Field) where
  pub step_behind : is_some t.closing ≡ true → tail_step t at f ≡ strayed t
  unfolding tail_step
  step_behind h = rw h

  pub step_found : is_some t.closing ≡ false → eqb f.tag 10 ≡ true → tail_step t at f ≡ found t at f
  unfolding tail_step
  step_found h k = rw (h, k)

  pub step_continued : is_some t.closing ≡ false → eqb f.tag 10 ≡ false → tail_step t at f ≡ continued t f
  unfolding tail_step
  step_continued h k = rw (h, k)
