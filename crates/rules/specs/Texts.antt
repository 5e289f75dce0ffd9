-- The bytes of a text, where | stands for byte 1. A help to the examples of document 02, of no section itself.
use Rattle.std.specs.Prelude.{cond, ℕ, eqb}
use mathlib.Core.List as L
use Prim.Native.Char.{code}
use Prim.Native.String.{String, [], ◌∷◌}

abbrev pub bytes : String → L.List ℕ
bytes [] = L.[]
bytes (c ∷ s) = L.◌∷◌ (cond (eqb (code c) 124) 1 (code c)) (bytes s)
