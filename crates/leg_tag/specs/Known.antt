-- A root that is known, and the tag that a symbol's bytes say.
use Rattle.std.specs.Prelude.{◌≡◌, List, Bool, true, false, cond, ℕ, ◌+◌, ◌*◌, ◌^◌, ◌<◌}
use Rattle.rules.specs.Numerals.{numeral}
use Rattle.rules.specs.Symbol.{is_root, parts_of, is_symbol}
use Rattle.rules.specs.Order.{series_of}
use Rattle.rules.specs.Pairing.{digit}
use Rattle.keys.specs.Tags.{key_of}

-- a root's number, or one that no six bytes say
abbrev pub IsKnown : ℕ → Type 0
IsKnown known = known < 256 ^ 6 → is_root (numeral 256 0 6 known) ≡ true

-- the tag of a leg with these symbol bytes on this side, 0 where they are outside the layout
abbrev pub tag_at : List ℕ → Bool → ℕ
tag_at s bought = cond (is_symbol s) (key_of false (series_of (parts_of s)) * 2 + digit bought) 0
