-- Demand 3, of the check on messages: two messages that are alike but for the sequence of their groups.
use Rattle.std.specs.Prelude.{◌≡◌, List, [], ◌∷◌, ◌++◌, true, not, ℕ, eqb, pos}
use Rattle.rules.specs.Lists.{All, Perm, all}
use Rattle.rules.specs.Order.{legs_of}
use Rattle.rules.specs.Fix.{field_for, bytes_of, order_of, MessageInputs, check_fix}
use Rattle.demand3.specs.Demand3.{Arrivals}

-- the values of a group's three fields
pub record Group : Type 0 where
  pub symbol : List ℕ
  pub ratio : List ℕ
  pub side : List ℕ

-- bytes of one field: no byte 1 is among them
abbrev pub IsPart : List ℕ → Type 0
IsPart bytes = all (λ b. not (eqb b 1)) bytes ≡ true

-- whatever else a group's values hold
abbrev pub IsGroup : Group → Type 0
IsGroup g = IsPart g.symbol × IsPart g.ratio × IsPart g.side

abbrev pub fields_in : Group → List (List ℕ)
fields_in g = field_for 600 g.symbol ∷ field_for 623 g.ratio ∷ field_for 624 g.side ∷ []

-- groups with gaps: the first group behind the fields of the first gap, the second behind those of the second, and so on. A gap may have no field; where there are fewer gaps than groups, the later groups stand side by side.
abbrev pub with_gaps : List (List (List ℕ)) → List Group → List (List ℕ)
with_gaps [] [] = []
with_gaps [] (g ∷ gs) = fields_in g ++ with_gaps [] gs
with_gaps (gap ∷ gaps) [] = gap ++ with_gaps gaps []
with_gaps (gap ∷ gaps) (g ∷ gs) = gap ++ (fields_in g ++ with_gaps gaps gs)

-- a message with groups, each behind any bytes that end in byte 1, or none, and any bytes behind them all
abbrev pub message_with : List (List (List ℕ)) → List Group → List ℕ → List ℕ
message_with gaps gs back = bytes_of (with_gaps gaps gs) ++ back

-- The gaps stay, and the groups come in another sequence. Where there are no groups and no gaps, this is said of any message.
pub record MessageDemand3 : Type 0 where
  pub messages : (a : MessageInputs) (gaps : List (List (List ℕ))) (gs hs : List Group) (back : List ℕ) → All (All IsPart) gaps → All IsGroup gs → Perm gs hs
      → Arrivals a.settings a.market (order_of (message_with gaps gs back)).price (pos 0) (legs_of (order_of (message_with gaps gs back)).legs)
      (check_fix a (message_with gaps gs back)) (check_fix a (message_with gaps hs back))
