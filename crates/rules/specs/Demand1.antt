-- Demand 1, of each entry's definition: "gets one of document 01's numbers"; "A refusal brings its number with all other fields but a tally zero, and lent bytes keep their contents."
use Rattle.std.specs.Prelude.{◌≡◌, true, false, cond, ◌&&◌, ◌||◌, ℕ, eqb, drop, replicate, pos}
use mathlib.Core.List.{List, [], ◌∷◌, ◌++◌, map, Memᴰ}
use Rattle.rules.specs.declared.SymbolParts.{SymbolParts}
use Rattle.rules.specs.declared.SymbolRead.{SymbolRead}
use Rattle.rules.specs.declared.Terms.{Terms}
use Rattle.rules.specs.declared.Order.{Order}
use Rattle.rules.specs.declared.Settings.{Settings}
use Rattle.rules.specs.declared.Market.{Market}
use Rattle.rules.specs.declared.OrderAnswer.{OrderAnswer}
use Rattle.rules.specs.declared.Mills.{Mills}
use Rattle.rules.specs.declared.PairAnswer.{PairAnswer}
use Rattle.rules.specs.declared.QuoteAnswer.{QuoteAnswer}
use Rattle.rules.specs.declared.Tally.{Tally}
use Rattle.rules.specs.declared.TalliedAnswer.{TalliedAnswer}
use Rattle.rules.specs.Symbol.{parts_of, read_symbol, write_symbol, SymbolWritten}
use Rattle.rules.specs.Order.{is_yes, terms_of, series_of}
use Rattle.rules.specs.Market.{settings_of, market_of}
use Rattle.rules.specs.Lists.{all, any}
use Rattle.rules.specs.Kinds.{numbers, sequence, keeps_to, is_accepted, is_refused, is_rejected, kind_of}
use Rattle.rules.specs.Numbers.{named, refusals, rejections, check_order, check_slices}
use Rattle.rules.specs.Quote.{quote_refusals, quote_rejections, check_quote}
use Rattle.rules.specs.Fix.{message_refusals, MessageInputs, check_fix}
use Rattle.rules.specs.Pair.{PairOrder, check_pair}
use Rattle.rules.specs.Crossing.{crossing_tests, Crossing, Crossed, check_crossing}
use Rattle.rules.specs.WithoutShares.{option_refusals, option_rejections}
use Rattle.rules.specs.Tally.{Call, order, message, check_tallied}
use Rattle.rules.specs.Session.{turnings, SessionAnswer, check_in_session, SessionLeft, release_login, start_refusals, start_session}

-- the symbol reader
abbrev pub reader_numbers : List ℕ
reader_numbers = 0 ∷ 1 ∷ 4 ∷ []

pub record ReaderAnswers (r : SymbolRead) : Type 0 where
  pub number : Memᴰ r.number reader_numbers
  pub refusal : is_refused r.number ≡ true → r.parts ≡ record { root = 0; year = 0; month = 0; day = 0; right = 0; strike = record { 0 = 0 } }

abbrev pub Reader : Type 0
Reader = (s : List ℕ) → ReaderAnswers (read_symbol s)

-- the symbol writer
abbrev pub writer_numbers : List ℕ
writer_numbers = 0 ∷ 2 ∷ 4 ∷ []

pub record WriterAnswers (buffer : List ℕ) (w : SymbolWritten) : Type 0 where
  pub number : Memᴰ w.number writer_numbers
  pub refusal : is_refused w.number ≡ true → (w.handed ≡ 0) × (w.buffer ≡ buffer)

abbrev pub Writer : Type 0
Writer = (p : SymbolParts) (buffer : List ℕ) → WriterAnswers buffer (write_symbol p buffer)

-- No number of a list depends on what its tests are asked of: these stand for it.
abbrev any_settings : Settings
any_settings = settings_of []

abbrev any_market : Market
any_market = market_of []

abbrev any_terms : Terms
any_terms = terms_of (pos 0) 0 0 0 0 (pos 0)

abbrev any_price : Mills
any_price = record { 0 = 0 }

-- the numbers of the refusals and rejections of legs
abbrev pub leg_numbers : List ℕ
leg_numbers = named (refusals any_settings any_market any_terms 0 []) ++ named (rejections any_settings any_market any_terms [] 0)

-- the order check: 0, 1 of slices, and the numbers of legs
abbrev pub order_numbers : List ℕ
order_numbers = 0 ∷ 1 ∷ leg_numbers

-- an answer with one of the numbers `ns`
pub record OrderAnswers (ns : List ℕ) (r : OrderAnswer) : Type 0 where
  pub number : Memᴰ r.number ns
  pub refusal : is_refused r.number ≡ true → (r.class ≡ 0) × (r.shape ≡ 0) × (r.pairings ≡ 0)

pub record OrderCheck : Type 0 where
  pub slices : (st : Settings) (m : Market) (t : Terms) (symbols counts : List ℕ) → OrderAnswers order_numbers (check_slices st m t symbols counts)
  pub order_record : (st : Settings) (m : Market) (o : Order) → OrderAnswers order_numbers (check_order st m o)

-- the check on messages (document 02, S-1): 0, its own refusals, and the numbers of legs without shares: an order in a message has none, and never gets 33
abbrev pub option_numbers : List ℕ
option_numbers = named (option_refusals any_settings any_market any_terms 0 []) ++ named (option_rejections any_settings any_market any_terms [] 0)

abbrev pub message_numbers : List ℕ
message_numbers = 0 ∷ (named (message_refusals []) ++ option_numbers)

abbrev pub MessageCheck : Type 0
MessageCheck = (a : MessageInputs) (m : List ℕ) → OrderAnswers message_numbers (check_fix a m)

-- the check on a pair (document 02, S-2), which has no number of its own: both orders' numbers stay, "a refusal's too"; a refused order does not pass, and with a refused agency order neither does
pub record PairAnswers (r : PairAnswer) : Type 0 where
  pub agency : Memᴰ r.agency.number order_numbers
  pub contra : Memᴰ r.contra.number order_numbers
  pub agency_refused : is_refused r.agency.number ≡ true → (r.agency.passes ≡ 0) × (r.contra.passes ≡ 0)
  pub contra_refused : is_refused r.contra.number ≡ true → r.contra.passes ≡ 0

abbrev pub PairCheck : Type 0
PairCheck = (st : Settings) (m : Market) (unpaired : ℕ) (agency contra : PairOrder) → PairAnswers (check_pair st m unpaired agency contra)

-- the quote check
abbrev pub quote_numbers : List ℕ
quote_numbers = 0 ∷ (named (quote_refusals any_settings any_market [] any_price any_price) ++ named (quote_rejections any_settings any_market (series_of (parts_of [])) any_price any_price))

pub record QuoteAnswers (resting : ℕ) (r : QuoteAnswer) : Type 0 where
  pub number : Memᴰ r.number quote_numbers
  pub refusal : is_refused r.number ≡ true → r.cancel ≡ 0
  -- "set if 20, 21 or 26 rejects a quote with one resting, else clear"
  pub flag : r.cancel ≡ cond (is_yes resting && is_rejected r.number) 1 0

abbrev pub QuoteCheck : Type 0
QuoteCheck = (st : Settings) (m : Market) (symbol : List ℕ) (bid offer : Mills) (resting : ℕ) → QuoteAnswers resting (check_quote st m symbol bid offer resting)

-- the check on a crossing quote (document 02, S-7), with `room` fills lent: a refusal gives zeros and nothing else, a rejection keeps the flag
abbrev pub crossing_numbers : List ℕ
crossing_numbers = 0 ∷ named (crossing_tests any_settings any_market [] any_price any_price false)

pub record CrossingAnswers (resting room : ℕ) (r : Crossed) : Type 0 where
  pub number : Memᴰ r.answer.number crossing_numbers
  pub refusal : is_refused r.answer.number ≡ true → r.answer.cancel ≡ 0
  pub unexecuted : is_accepted r.answer.number ≡ false → (r.answer.executed ≡ 0) × (r.answer.booked ≡ 0) × (r.answer.cancelled ≡ 0) × (r.fills ≡ replicate room 0)
  pub flag : r.answer.cancel ≡ cond (is_yes resting && is_rejected r.answer.number) 1 0

abbrev pub CrossingCheck : Type 0
CrossingCheck = (st : Settings) (m : Market) (symbol : List ℕ) (bid offer : Mills) (resting : ℕ) (c : Crossing) (room : ℕ) → CrossingAnswers resting room (check_crossing st m symbol bid offer resting c room)

-- a tallied check, of the tally that comes: a refusal's other fields but the tally are zero, and on 12 the tally is as it came
pub record TalliedAnswers (ns : List ℕ) (t : Tally) (r : TalliedAnswer) : Type 0 where
  pub number : Memᴰ r.answer.number (12 ∷ ns)
  pub refusal : is_refused r.answer.number ≡ true → (r.answer.class ≡ 0) × (r.answer.shape ≡ 0) × (r.answer.pairings ≡ 0)
  pub unchanged : r.answer.number ≡ 12 → r.tally ≡ t

-- what the call's own check can give
abbrev pub call_numbers : Call → List ℕ
call_numbers (order a symbols counts) = order_numbers
call_numbers (message a m) = message_numbers

abbrev pub TalliedCheck : Type 0
TalliedCheck = (t : Tally) (c : Call) → TalliedAnswers (call_numbers c) t (check_tallied t c)

-- an order of a login (document 02, S-6), of the session that comes: a refusal's other fields but the session are zero, and what turns the order away leaves the session as it came
abbrev pub turning_numbers : List ℕ
turning_numbers = named (turnings true [] 0)

pub record SessionAnswers (ns s : List ℕ) (r : SessionAnswer) : Type 0 where
  pub number : Memᴰ r.answer.number (turning_numbers ++ ns)
  pub refusal : is_refused r.answer.number ≡ true → (r.answer.class ≡ 0) × (r.answer.shape ≡ 0) × (r.answer.pairings ≡ 0)
  pub unchanged : any (eqb r.answer.number) turning_numbers ≡ true → r.session ≡ s

abbrev pub SessionCheck : Type 0
SessionCheck = (s : List ℕ) (i : ℕ) (c : Call) → SessionAnswers (call_numbers c) s (check_in_session s i c)

-- a release: a refused one leaves the session as it came
abbrev pub release_numbers : List ℕ
release_numbers = 0 ∷ named (turnings false [] 0)

pub record ReleaseAnswers (s : List ℕ) (r : SessionLeft) : Type 0 where
  pub number : Memᴰ r.number release_numbers
  pub unchanged : is_refused r.number ≡ true → r.session ≡ s

abbrev pub Release : Type 0
Release = (s : List ℕ) (i : ℕ) → ReleaseAnswers s (release_login s i)

-- a start: 12 leaves the session as it came, 9 "an all-zero session"
abbrev pub start_numbers : List ℕ
start_numbers = 0 ∷ named (start_refusals [] [])

pub record StartAnswers (s : List ℕ) (r : SessionLeft) : Type 0 where
  pub number : Memᴰ r.number start_numbers
  pub unchanged : r.number ≡ 12 → r.session ≡ s
  pub zeros : r.number ≡ 9 → r.session ≡ replicate 192 0

abbrev pub Start : Type 0
Start = (limits s : List ℕ) → StartAnswers s (start_session limits s)

-- "one of document 01's numbers", or of those that "join" them (document 02): `Kinds.numbers` lists those that the entries can give, and no other, each with its kind
abbrev pub entry_numbers : List ℕ
entry_numbers = reader_numbers ++ (writer_numbers ++ (order_numbers ++ (message_numbers ++ (turning_numbers ++ (release_numbers ++ (start_numbers ++ (quote_numbers ++ crossing_numbers)))))))

pub record Numbered : Type 0 where
  pub listed : all (λ n. any (λ e. eqb n e.0) numbers) entry_numbers ≡ true
  pub given : all (λ e. any (eqb e.0) entry_numbers) numbers ≡ true
  pub kinds : map (λ e. kind_of e.0) numbers ≡ map (λ e. e.1) numbers
  -- each but 0 has its place in the sequence, and in that sequence they are tested; 12 comes before all that a tallied check can give, and what turns a login's order away before all that its check can
  pub placed : all (λ e. eqb e.0 0 || any (eqb e.0) sequence) numbers ≡ true
  pub sequenced : all (λ ns. keeps_to sequence (drop 1 ns)) (reader_numbers ∷ writer_numbers ∷ (0 ∷ 12 ∷ drop 1 order_numbers) ∷ (0 ∷ 12 ∷ drop 1 message_numbers) ∷ (0 ∷ (turning_numbers ++ drop 1 order_numbers)) ∷ (0 ∷ (turning_numbers ++ drop 1 message_numbers)) ∷ release_numbers ∷ start_numbers ∷ quote_numbers ∷ crossing_numbers ∷ []) ≡ true
  -- which of them an order, a message, a quote, a crossing quote, a login's order or release and a start can get, read off the documents once more
  pub orders : order_numbers ≡ 0 ∷ 1 ∷ 3 ∷ 4 ∷ 5 ∷ 6 ∷ 7 ∷ 8 ∷ 33 ∷ 9 ∷ 10 ∷ 20 ∷ 21 ∷ 22 ∷ 23 ∷ 24 ∷ 25 ∷ []
  pub messages : message_numbers ≡ 0 ∷ 30 ∷ 31 ∷ 32 ∷ 3 ∷ 4 ∷ 5 ∷ 6 ∷ 7 ∷ 8 ∷ 9 ∷ 10 ∷ 20 ∷ 21 ∷ 22 ∷ 23 ∷ 24 ∷ 25 ∷ []
  pub quotes : quote_numbers ≡ 0 ∷ 1 ∷ 4 ∷ 9 ∷ 10 ∷ 11 ∷ 20 ∷ 21 ∷ 26 ∷ []
  pub crossings : crossing_numbers ≡ 0 ∷ 1 ∷ 4 ∷ 9 ∷ 10 ∷ 11 ∷ 36 ∷ 20 ∷ 21 ∷ 26 ∷ []
  pub turned : turning_numbers ≡ 34 ∷ 12 ∷ 35 ∷ []
  pub releases : release_numbers ≡ 0 ∷ 34 ∷ 12 ∷ []
  pub starts : start_numbers ≡ 0 ∷ 12 ∷ 9 ∷ []
