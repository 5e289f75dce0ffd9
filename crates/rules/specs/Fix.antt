-- Document 02, S-1: orders as FIX multileg messages. A message is a list of bytes.
use Rattle.std.specs.Prelude.{List, [], ◌∷◌, ◌++◌, map, Bool, true, false, cond, not, ◌&&◌, ◌||◌, ℕ, zero, suc, ◌+◌, ◌-◌, ◌*◌, ◌/◌, ◌%◌, ◌^◌, length, get_or, take, drop, eqb, ltb, ℤ, pos, negsuc, neg_ℤ}
use Rattle.rules.specs.declared.RawLeg.{RawLeg}
use Rattle.rules.specs.declared.Settings.{Settings}
use Rattle.rules.specs.declared.Market.{Market}
use Rattle.rules.specs.declared.OrderAnswer.{OrderAnswer}
use Rattle.rules.specs.Limits.{within}
use Rattle.rules.specs.Lists.{all, any, every, total, same_numbers}
use Rattle.rules.specs.Numerals.{value, numeral, are_digits}
use Rattle.rules.specs.Symbol.{is_digit}
use Rattle.rules.specs.Order.{terms_of}
use Rattle.rules.specs.Numbers.{first_of, outcome, check_legs}

-- ---- "each field is a tag of 1 to 9 digits without leading zero, =, value (perhaps empty) and byte 1"

-- a byte more at the front of the first field, where there is one
unfoldable pub ahead : ℕ → List (List ℕ) → List (List ℕ)
ahead b [] = []
ahead b (f ∷ fs) = (b ∷ f) ∷ fs

-- A field is here the bytes before its byte 1. These are the fields of a message; bytes behind its last byte 1 are in none.
unfoldable pub fields_of : List ℕ → List (List ℕ)
fields_of [] = []
fields_of (b ∷ bs) = cond (eqb b 1) ([] ∷ fields_of bs) (ahead b (fields_of bs))

-- fields one behind the other, each with its byte 1
unfoldable pub bytes_of : List (List ℕ) → List ℕ
bytes_of [] = []
bytes_of (f ∷ fs) = f ++ (1 ∷ bytes_of fs)

-- how many digits stand at the front
unfoldable pub leading_digits : List ℕ → ℕ
leading_digits [] = 0
leading_digits (b ∷ bs) = cond (is_digit b) (suc (leading_digits bs)) 0

unfoldable pub is_field : List ℕ → Bool
is_field f = let k = leading_digits f in within 1 9 k && not (eqb (get_or f 0 0) 48) && eqb (get_or f k 0) 61

unfoldable pub tag_of : List ℕ → ℕ
tag_of f = value 10 48 (take (leading_digits f) f)

unfoldable pub value_of : List ℕ → List ℕ
value_of f = drop (leading_digits f + 1) f

-- "Bytes that are no field [..] make the frame wrong": every byte is in a field
unfoldable pub are_fields : List ℕ → Bool
are_fields m = eqb (length (bytes_of (fields_of m))) (length m) && all is_field (fields_of m)

-- ---- "The frame is 8=FIX.4.4, 9 (bytes after its own field up to field 10), 35=AB, body, 10 (three-digit sum of the earlier bytes modulo 256)"

-- "A number has 1 to 15 digits"
unfoldable pub is_number : List ℕ → Bool
is_number v = within 1 15 (length v) && are_digits 10 48 v

abbrev pub number_of : List ℕ → ℕ
number_of v = value 10 48 v

-- the field with this tag and this value
abbrev pub says : ℕ → List ℕ → List ℕ → Bool
says t v f = eqb (tag_of f) t && same_numbers (value_of f) v

-- FIX.4.4 and AB
abbrev pub version : List ℕ
version = 70 ∷ 73 ∷ 88 ∷ 46 ∷ 52 ∷ 46 ∷ 52 ∷ []

abbrev pub multileg : List ℕ
multileg = 65 ∷ 66 ∷ []

-- the sum's three digits
abbrev pub sum_digits : List ℕ → List ℕ
sum_digits bytes = numeral 10 48 3 (total bytes % 256)

-- all fields but the last, and the last
unfoldable pub all_but_last : List (List ℕ) → List (List ℕ)
all_but_last [] = []
all_but_last (f ∷ []) = []
all_but_last (f ∷ g ∷ fs) = f ∷ all_but_last (g ∷ fs)

unfoldable pub last_of : List (List ℕ) → List ℕ
last_of [] = []
last_of (f ∷ []) = f
last_of (f ∷ g ∷ fs) = last_of (g ∷ fs)

abbrev pub is_frame_tag : ℕ → Bool
is_frame_tag t = eqb t 8 || eqb t 9 || eqb t 35 || eqb t 10

-- the frame around the fields `rest` without the last, which is field 10; "8, 9, 35 or 10 within the body" make it wrong
unfoldable pub is_framed : List ℕ → List ℕ → List ℕ → List (List ℕ) → Bool
is_framed f8 f9 f35 rest =
    let body = all_but_last rest in
    every (
    says 8 version f8
    ∷ eqb (tag_of f9) 9
    ∷ is_number (value_of f9)
    ∷ eqb (number_of (value_of f9)) (length (bytes_of (f35 ∷ body)))
    ∷ says 35 multileg f35
    ∷ all (λ f. not (is_frame_tag (tag_of f))) body
    ∷ says 10 (sum_digits (bytes_of (f8 ∷ f9 ∷ f35 ∷ body))) (last_of rest)
    ∷ []
    )

unfoldable pub has_frame : List (List ℕ) → Bool
has_frame (f8 ∷ f9 ∷ f35 ∷ rest) = is_framed f8 f9 f35 rest
has_frame (f ∷ g ∷ []) = false
has_frame (f ∷ []) = false
has_frame [] = false

abbrev pub body_of : List ℕ → List (List ℕ)
body_of m = all_but_last (drop 3 (fields_of m))

-- ---- "The body needs, in any sequence, 40 [..], 44 [..] and 555, the leg number, with that many groups next, each 600 (21 symbol bytes), 623 (ratio), 624 (1 buy, 2 sell), in that sequence."

-- how many fields have a tag
unfoldable pub how_often : ℕ → List (List ℕ) → ℕ
how_often t [] = 0
how_often t (f ∷ fs) = cond (eqb (tag_of f) t) (suc (how_often t fs)) (how_often t fs)

-- the fields before the first with a tag, its value, and the fields behind it
unfoldable pub before : ℕ → List (List ℕ) → List (List ℕ)
before t [] = []
before t (f ∷ fs) = cond (eqb (tag_of f) t) [] (f ∷ before t fs)

unfoldable pub value_at : ℕ → List (List ℕ) → List ℕ
value_at t [] = []
value_at t (f ∷ fs) = cond (eqb (tag_of f) t) (value_of f) (value_at t fs)

unfoldable pub behind : ℕ → List (List ℕ) → List (List ℕ)
behind t [] = []
behind t (f ∷ fs) = cond (eqb (tag_of f) t) fs (behind t fs)

-- the number that a value says, 0 where it is none: "a 555 not of its form has no groups"
unfoldable pub number_said : List ℕ → ℕ
number_said v = cond (is_number v) (number_of v) 0

abbrev pub leg_number : List (List ℕ) → ℕ
leg_number body = number_said (value_at 555 body)

-- the fields of the groups, and those behind them
abbrev pub group_fields : List (List ℕ) → List (List ℕ)
group_fields body = take (3 * leg_number body) (behind 555 body)

abbrev pub behind_groups : List (List ℕ) → List (List ℕ)
behind_groups body = drop (3 * leg_number body) (behind 555 body)

-- the tags of so many groups
unfoldable pub group_tags : ℕ → List ℕ
group_tags zero = []
group_tags (suc n) = 600 ∷ 623 ∷ 624 ∷ group_tags n

abbrev pub is_group_tag : ℕ → Bool
is_group_tag t = eqb t 600 || eqb t 623 || eqb t 624

-- a tag that "The body needs"
abbrev pub is_needed_tag : ℕ → Bool
is_needed_tag t = eqb t 40 || eqb t 44 || eqb t 555 || is_group_tag t

-- "further tags": neither the frame's nor a needed one
unfoldable pub is_further : ℕ → Bool
is_further t = not (is_frame_tag t || is_needed_tag t)

-- no needed tag is "missing, repeated or out of sequence". "A 600, 623 or 624 elsewhere, and any other tag from 555 to its last 624, counts as out of sequence; further tags are stepped over."
unfoldable pub in_sequence : List (List ℕ) → Bool
in_sequence body =
    every (
    eqb (how_often 40 body) 1
    ∷ eqb (how_often 44 body) 1
    ∷ eqb (how_often 555 body) 1
    ∷ same_numbers (map tag_of (group_fields body)) (group_tags (leg_number body))
    ∷ not (any (λ f. is_group_tag (tag_of f)) (before 555 body))
    ∷ not (any (λ f. is_group_tag (tag_of f)) (behind_groups body))
    ∷ []
    )

-- ---- the form of each value

-- "40 (1 market, 2 limit)", "624 (1 buy, 2 sell)": the bytes of these digits
abbrev pub one : List ℕ
one = 49 ∷ []

abbrev pub two : List ℕ
two = 50 ∷ []

abbrev pub is_one_or_two : List ℕ → Bool
is_one_or_two v = same_numbers v one || same_numbers v two

-- "44 (dollars: minus or none, 1 to 15 digits, then nothing or a point and one to three digits; signed as in 01)"
abbrev pub has_minus : List ℕ → Bool
has_minus v = eqb (get_or v 0 0) 45

-- without the minus
abbrev pub unsigned : List ℕ → List ℕ
unsigned v = cond (has_minus v) (drop 1 v) v

-- nothing, or a point and one to three digits
unfoldable pub are_decimals : List ℕ → Bool
are_decimals [] = true
are_decimals (b ∷ ds) = eqb b 46 && within 1 3 (length ds) && are_digits 10 48 ds

unfoldable pub is_amount : List ℕ → Bool
is_amount u = let k = leading_digits u in within 1 15 k && are_decimals (drop k u)

unfoldable pub is_price : List ℕ → Bool
is_price v = is_amount (unsigned v)

-- the form of a needed tag's value; a further tag's value has none
unfoldable pub has_form : ℕ → List ℕ → Bool
has_form t v =
    cond (eqb t 40 || eqb t 624) (is_one_or_two v)
    (cond (eqb t 44) (is_price v)
    (cond (eqb t 555 || eqb t 623) (is_number v)
    (cond (eqb t 600) (eqb (length v) 21) true)))

abbrev pub is_formed : List ℕ → Bool
is_formed f = has_form (tag_of f) (value_of f)

-- ---- the order that a message says

-- dollars to mills: the digits before the point, then those behind it
unfoldable pub mills_of : List ℕ → ℕ
mills_of u = let k = leading_digits u in let ds = drop (k + 1) u in value 10 48 (take k u) * 1000 + value 10 48 ds * 10 ^ (3 - length ds)

unfoldable pub price_said : List ℕ → ℤ
price_said v = let size = pos (mills_of (unsigned v)) in cond (has_minus v) (neg_ℤ size) size

-- 1 for a market order, 0 for a limit order, as document 01 has it
abbrev pub kind_said : List ℕ → ℕ
kind_said v = cond (same_numbers v one) 1 0

-- a leg of the values of 600, 623 and 624
abbrev pub leg_said : List ℕ → List ℕ → List ℕ → RawLeg
leg_said symbol ratio side = record { bought = same_numbers side one; size = number_of ratio; symbol = symbol }

unfoldable pub legs_said : List (List ℕ) → List RawLeg
legs_said (f600 ∷ f623 ∷ f624 ∷ fs) = leg_said (value_of f600) (value_of f623) (value_of f624) ∷ legs_said fs
legs_said (f ∷ g ∷ []) = []
legs_said (f ∷ []) = []
legs_said [] = []

-- kind, price and legs, as many as there are
pub record SaidOrder : Type 0 where
  pub kind : ℕ
  pub price : ℤ
  pub legs : List RawLeg

-- "For a market order 44 holds the would-be price.": one price, whatever the kind
unfoldable pub order_in : List (List ℕ) → SaidOrder
order_in body = record { kind = kind_said (value_at 40 body); price = price_said (value_at 44 body); legs = legs_said (group_fields body) }

abbrev pub order_of : List ℕ → SaidOrder
order_of m = order_in (body_of m)

-- ---- the answer

-- "30 for a wrong frame, length or sum, 31 for a needed tag missing, repeated or out of sequence, 32 for a value not of its form"
abbrev pub message_refusals : List ℕ → List (Bool × ℕ)
message_refusals m =
    (not (are_fields m && has_frame (fields_of m)), 30)
    ∷ (not (in_sequence (body_of m)), 31)
    ∷ (not (all is_formed (body_of m)), 32)
    ∷ []

unfoldable pub message_refusal : List ℕ → ℕ
message_refusal m = first_of (message_refusals m)

-- what the host hands in beside the message: "the flags passed by the host"
pub record MessageInputs : Type 0 where
  pub settings : Settings
  pub market : Market
  pub stop : ℕ
  pub manual : ℕ
  pub opening : ℕ

-- the order check on an order that a message says; its share count is "0 for none and from FIX" (S-4)
abbrev pub check_said : MessageInputs → SaidOrder → OrderAnswer
check_said a o = check_legs a.settings a.market (terms_of o.price o.kind a.stop a.manual a.opening (pos 0)) (length o.legs) o.legs

-- "The answer equals the order check's on the legs read"; the three numbers come "before all else"
unfoldable pub check_fix : MessageInputs → List ℕ → OrderAnswer
check_fix a m = outcome (message_refusal m) (check_said a (order_of m))

-- ---- a message written for an order: a help to the cases and to what is promised, of no sentence itself

-- how many digits say a number, as few as can, at most one more than `most`
unfoldable pub digits_for : ℕ → ℕ → ℕ
digits_for zero n = 1
digits_for (suc most) n = cond (ltb n (10 ^ suc most)) (digits_for most n) (suc (suc most))

abbrev pub decimal : ℕ → List ℕ
decimal n = numeral 10 48 (digits_for 14 n) n

abbrev pub field_for : ℕ → List ℕ → List ℕ
field_for t v = decimal t ++ (61 ∷ v)

-- dollars with three digits behind the point
abbrev pub dollars : ℕ → List ℕ
dollars mills = decimal (mills / 1000) ++ (46 ∷ numeral 10 48 3 (mills % 1000))

unfoldable pub price_for : ℤ → List ℕ
price_for (pos n) = dollars n
price_for (negsuc n) = 45 ∷ dollars (suc n)

unfoldable pub groups_for : List RawLeg → List (List ℕ)
groups_for [] = []
groups_for (r ∷ rs) = field_for 600 r.symbol ∷ field_for 623 (decimal r.size) ∷ field_for 624 (cond r.bought one two) ∷ groups_for rs

-- the needed fields, with further ones before and behind them
abbrev pub body_for : List (List ℕ) → List (List ℕ) → SaidOrder → List (List ℕ)
body_for front back o =
    front ++ (field_for 40 (cond (eqb o.kind 0) two one) ∷ field_for 44 (price_for o.price) ∷ field_for 555 (decimal (length o.legs)) ∷ (groups_for o.legs ++ back))

-- the frame around a body: its length counts field 35 and the body, its sum all that comes before it
abbrev pub behind9 : List (List ℕ) → List (List ℕ)
behind9 body = field_for 35 multileg ∷ body

abbrev pub before10 : List (List ℕ) → List (List ℕ)
before10 body = field_for 8 version ∷ field_for 9 (decimal (length (bytes_of (behind9 body)))) ∷ behind9 body

unfoldable pub framed : List (List ℕ) → List ℕ
framed body = bytes_of (before10 body ++ (field_for 10 (sum_digits (bytes_of (before10 body))) ∷ []))

abbrev pub message_of : List (List ℕ) → List (List ℕ) → SaidOrder → List ℕ
message_of front back o = framed (body_for front back o)
