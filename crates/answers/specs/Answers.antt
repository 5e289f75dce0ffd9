-- The numbers of document 01, Number and its author, and of document 02's requests, for each case that the code names; and the answers of document 01 that the code's answers stand for.
use Rattle.std.specs.Prelude.{ℕ, cond, Result, Ok, Err}
use Rattle.rules.specs.declared.SymbolParts.{SymbolParts}
use Rattle.rules.specs.declared.SymbolRead.{SymbolRead}
use Rattle.rules.specs.declared.OrderAnswer.{OrderAnswer}
use Rattle.rules.specs.declared.QuoteAnswer.{QuoteAnswer}
use Rattle.rules.specs.Symbol.{refused_read}
use Rattle.rules.specs.Numbers.{refused}
use Rattle.answers.specs.declared.Refusal.{Refusal}
use Rattle.answers.specs.declared.Refusal.TheVariants.{Not21Bytes, ShortBuffer, BadLegCount, BadSymbol, BadCount, SeriesTwice, RootsDiffer, BadPrice, BadSetting, BadMarket, BadQuote, BadTally, BadFrame, BadTag, BadValue, BadShares, BadLogin, RestrictedLogin, BadCrossing}
use Rattle.answers.specs.declared.Check.{Check}
use Rattle.answers.specs.declared.Check.TheVariants.{Put, Call, BuyBuy, DebitCredit, MaximumValue, TickDistance, QuoteInversion}
use Rattle.answers.specs.declared.Class.{Class}
use Rattle.answers.specs.declared.Class.TheVariants.{Undetermined, Debit, Credit}
use Rattle.answers.specs.declared.Shape.{Shape}
use Rattle.answers.specs.declared.Shape.TheVariants as shapes
use Rattle.answers.specs.declared.Judged.{Judged}
use Rattle.answers.specs.declared.JudgedQuote.{JudgedQuote}

-- "1 symbol bytes are not 21 per count (quote, reader: not 21)" to "12 a tally not the sum of its parts, or full"; of document 02 30 to 32 of S-1, 33 of S-4, 34 and 35 of S-6, 36 of S-7
abbrev pub refusal_number : Refusal → ℕ
refusal_number Not21Bytes = 1
refusal_number ShortBuffer = 2
refusal_number BadLegCount = 3
refusal_number BadSymbol = 4
refusal_number BadCount = 5
refusal_number SeriesTwice = 6
refusal_number RootsDiffer = 7
refusal_number BadPrice = 8
refusal_number BadSetting = 9
refusal_number BadMarket = 10
refusal_number BadQuote = 11
refusal_number BadTally = 12
refusal_number BadFrame = 30
refusal_number BadTag = 31
refusal_number BadValue = 32
refusal_number BadShares = 33
refusal_number BadLogin = 34
refusal_number RestrictedLogin = 35
refusal_number BadCrossing = 36

-- "20" to "26": the price checks
abbrev pub check_number : Check → ℕ
check_number Put = 20
check_number Call = 21
check_number BuyBuy = 22
check_number DebitCredit = 23
check_number MaximumValue = 24
check_number TickDistance = 25
check_number QuoteInversion = 26

-- "class: 1 debit, 2 credit, 0 undetermined"
abbrev pub class_number : Class → ℕ
class_number Undetermined = 0
class_number Debit = 1
class_number Credit = 2

-- "shape": 1 to 4, 0 for any other
abbrev pub shape_number : Shape → ℕ
shape_number shapes.Other = 0
shape_number shapes.Vertical = 1
shape_number shapes.TrueButterfly = 2
shape_number shapes.SkewedButterfly = 3
shape_number shapes.Box = 4

-- the number of what failed, 0 where nothing did
abbrev pub number_of : {T E : Type 0} → (E → ℕ) → Result T E → ℕ
number_of number (Ok x) = 0
number_of number (Err e) = number e

-- the symbol reader's answer: a refusal has no parts
abbrev pub read_said : Result SymbolParts Refusal → SymbolRead
read_said (Ok p) = record { number = 0; parts = p }
read_said (Err e) = refused_read (refusal_number e)

-- the answer to a valid order
abbrev pub judged_said : Judged → OrderAnswer
judged_said j =
    record {
      number = number_of check_number j.verdict;
      class = class_number j.class;
      shape = shape_number j.shape;
      pairings = j.pairings;
    }

-- the order check's answer: "1 to 12 return zeros elsewhere"
abbrev pub answer_said : Result Judged Refusal → OrderAnswer
answer_said (Ok j) = judged_said j
answer_said (Err e) = refused (refusal_number e)

-- the answer to a valid quote
abbrev pub judged_quote_said : JudgedQuote → QuoteAnswer
judged_quote_said j = record { number = number_of check_number j.verdict; cancel = cond j.cancel 1 0 }

-- the quote check's answer: a refusal cancels nothing
abbrev pub quote_said : Result JudgedQuote Refusal → QuoteAnswer
quote_said (Ok j) = judged_quote_said j
quote_said (Err e) = record { number = refusal_number e; cancel = 0 }
