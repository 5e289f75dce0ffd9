-- Limits, both ends among them. A help to the sections of document 01, of no section itself.
use Rattle.std.specs.Prelude.{Bool, ◌&&◌, ℕ, leb}

abbrev pub within : ℕ → ℕ → ℕ → Bool
within least most x = leb least x && leb x most
