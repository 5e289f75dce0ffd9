-- Which kind the number of an answer is of.
use Rattle.std.proofs.Common.{◌≡◌, refl, true}
use Rattle.rules.specs.Kinds.{is_refused, is_rejected}
use Rattle.answers.specs.declared.Refusal.{Refusal}
use Rattle.answers.specs.declared.Refusal.TheVariants.{Not21Bytes, ShortBuffer, BadLegCount, BadSymbol, BadCount, SeriesTwice, RootsDiffer, BadPrice, BadSetting, BadMarket, BadQuote, BadTally, BadFrame, BadTag, BadValue, BadShares, BadLogin, RestrictedLogin, BadCrossing}
use Rattle.answers.specs.declared.Check.{Check}
use Rattle.answers.specs.declared.Check.TheVariants.{Put, Call, BuyBuy, DebitCredit, MaximumValue, TickDistance, QuoteInversion}
use Rattle.answers.specs.Answers.{refusal_number, check_number}

pub refusal_refuses : (e : Refusal) → is_refused (refusal_number e) ≡ true
refusal_refuses Not21Bytes = refl
refusal_refuses ShortBuffer = refl
refusal_refuses BadLegCount = refl
refusal_refuses BadSymbol = refl
refusal_refuses BadCount = refl
refusal_refuses SeriesTwice = refl
refusal_refuses RootsDiffer = refl
refusal_refuses BadPrice = refl
refusal_refuses BadSetting = refl
refusal_refuses BadMarket = refl
refusal_refuses BadQuote = refl
refusal_refuses BadTally = refl
refusal_refuses BadFrame = refl
refusal_refuses BadTag = refl
refusal_refuses BadValue = refl
refusal_refuses BadShares = refl
refusal_refuses BadLogin = refl
refusal_refuses RestrictedLogin = refl
refusal_refuses BadCrossing = refl

pub check_rejects : (c : Check) → is_rejected (check_number c) ≡ true
check_rejects Put = refl
check_rejects Call = refl
check_rejects BuyBuy = refl
check_rejects DebitCredit = refl
check_rejects MaximumValue = refl
check_rejects TickDistance = refl
check_rejects QuoteInversion = refl
