-- A message written for an order says that order: 30, 31 and 32 do not turn it away.
use Rattle.std.specs.Prelude.{◌≡◌, List, true, ℕ, ◌≤◌, ◌<◌, ◌^◌, length}
use Rattle.rules.specs.declared.RawLeg.{RawLeg}
use Rattle.rules.specs.Lists.{All}
use Rattle.rules.specs.Order.{price_of}
use Rattle.rules.specs.Fix.{is_field, tag_of, is_further, bytes_of, SaidOrder, order_of, message_refusal, body_for, behind9, message_of, MessageInputs, check_said, check_fix}
use Rattle.message_theorems.specs.Groups.{IsPart}

-- "21 symbol bytes", and a ratio of at most 15 digits
abbrev pub IsSayable : RawLeg → Type 0
IsSayable r = (length r.symbol ≡ 21) × IsPart r.symbol × (r.size < 10 ^ 15)

-- an order whose values have their forms
pub record InForm (o : SaidOrder) : Type 0 where
  pub kind : o.kind ≤ 1
  pub price : (price_of o.price).size.0 < 10 ^ 18
  pub legs : All IsSayable o.legs

-- a further field
abbrev pub IsFurther : List ℕ → Type 0
IsFurther f = (is_field f ≡ true) × IsPart f × (is_further (tag_of f) ≡ true)

-- what is promised of a message
pub record Says (m : List ℕ) (o : SaidOrder) : Type 0 where
  pub accepted : message_refusal m ≡ 0
  pub order : order_of m ≡ o
  pub answer : (a : MessageInputs) → check_fix a m ≡ check_said a o

abbrev pub Written : Type 0
Written =
    (front back : List (List ℕ)) (o : SaidOrder) → All IsFurther front → All IsFurther back → InForm o
    → length (bytes_of (behind9 (body_for front back o))) < 10 ^ 15
    → Says (message_of front back o) o
