-- The groups of a message.
use Rattle.std.specs.Prelude.{◌≡◌, List, map, true, ℕ, ◌*◌, length, take, drop}
use Rattle.rules.specs.declared.RawLeg.{RawLeg}
use Rattle.rules.specs.Lists.{all}
use Rattle.rules.specs.Fix.{fields_of, is_field, is_formed, tag_of, group_tags, is_number, leg_said}
use Rattle.fields.specs.declared.Field.{Field}
use Rattle.fields.specs.Fields.{value_in, Inside}

-- the fields of `n` groups that stand at the place `at`
abbrev pub groups_at : List ℕ → ℕ → ℕ → List (List ℕ)
groups_at m at n = take (3 * n) (fields_of (drop at m))

-- `n` groups stand at the place `at`, each value in its form
pub record HasGroups (m : List ℕ) (at n : ℕ) : Type 0 where
  pub fields : all is_field (groups_at m at n) ≡ true
  pub formed : all is_formed (groups_at m at n) ≡ true
  pub tags : map tag_of (groups_at m at n) ≡ group_tags n

-- the three fields of a group stand in the message, with a symbol of 21 bytes and a ratio that is a number
pub record IsGroup (m : List ℕ) (symbol ratio side : Field) : Type 0 where
  pub symbol_inside : Inside (length m) symbol.value
  pub ratio_inside : Inside (length m) ratio.value
  pub side_inside : Inside (length m) side.value
  pub whole : length (value_in m symbol) ≡ 21
  pub number : is_number (value_in m ratio) ≡ true

-- the leg that they say
abbrev pub leg_of_fields : List ℕ → Field → Field → Field → RawLeg
leg_of_fields m symbol ratio side = leg_said (value_in m symbol) (value_in m ratio) (value_in m side)
