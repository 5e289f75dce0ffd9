-- Document 02, S-1, by computing its definitions: T1 and T7 as messages, and each sentence on both sides of its limits. In texts | stands for byte 1.
use Rattle.std.specs.Prelude.{List, [], ◌∷◌, true, ℕ, zero, suc, ℤ, pos, neg_ℤ}
use Prim.Native.String.{String}
use Rattle.rules.specs.declared.OrderAnswer.{OrderAnswer}
use Rattle.rules.specs.declared.RawLeg.{RawLeg}
use Rattle.rules.specs.declared.Tally.{Tally}
use Rattle.rules.specs.declared.TalliedAnswer.{TalliedAnswer}
use Rattle.rules.specs.Examples.{example_settings, example_market}
use Rattle.rules.specs.Market.{settings_of, market_of}
use Rattle.rules.specs.Edges.{Hold, answers}
use Rattle.rules.specs.Texts.{bytes}
use Rattle.rules.specs.Fix.{fields_of, framed, price_said, message_refusal, MessageInputs, check_fix, message_of}
use Rattle.rules.specs.Tally.{message, check_tallied, fresh}

-- the number of a message, and of one that has a right frame around this body
abbrev whole : String → ℕ
whole text = message_refusal (bytes text)

abbrev framed_text : String → List ℕ
framed_text body = framed (fields_of (bytes body))

abbrev around : String → ℕ
around body = message_refusal (framed_text body)

abbrev handed : MessageInputs
handed = record { settings = example_settings 0; market = example_market; stop = 0; manual = 0; opening = 0 }

abbrev answer_to : String → OrderAnswer
answer_to body = check_fix handed (framed_text body)

abbrev said : String → ℤ
said text = price_said (bytes text)

-- the number of a message by stop, manual and opening, where the NBO is 1,200
abbrev flagged : ℕ → ℕ → ℕ → String → ℕ
flagged stop manual opening body = (check_fix (record { settings = example_settings 0; market = market_of (1 ∷ 0 ∷ 0 ∷ 0 ∷ 0 ∷ 1200 ∷ 0 ∷ 0 ∷ 0 ∷ []); stop = stop; manual = manual; opening = opening }) (framed_text body)).number

-- under settings outside their limits
abbrev unset : String → OrderAnswer
unset body = check_fix (record { settings = settings_of []; market = example_market; stop = 0; manual = 0; opening = 0 }) (framed_text body)

-- so many legs of one series
abbrev of_one : ℕ → List RawLeg
of_one zero = []
of_one (suc n) = record { bought = true; size = 1; symbol = bytes "XYZ   270115C00020000" } ∷ of_one n

abbrev number_of : ℕ → ℕ
number_of n = (check_fix handed (message_of [] [] (record { kind = 0; price = pos 1; legs = of_one n }))).number

abbrev tally_of : ℕ → ℕ → ℕ → ℕ → Tally
tally_of seen refused accepted rejected = record { seen = seen; refused = refused; accepted = accepted; rejected = rejected }

abbrev tallied_text : Tally → String → TalliedAnswer
tallied_text t body = check_tallied t (message handed (framed_text body))

pub record Messages : Type 0 where
  -- T1 with 555 last and first; T7 at both its prices and as a market order, with further fields where they may stand
  pub papers : Hold (
      (answer_to "40=2|44=15|555=3|600=XYZ   270115C00020000|623=5|624=2|600=XYZ   270115C00030000|623=10|624=1|600=XYZ   270115C00040000|623=05|624=2|", answers 23 2 2 2)
      ∷ (answer_to "555=3|600=XYZ   270115C00020000|623=5|624=2|600=XYZ   270115C00030000|623=10|624=1|600=XYZ   270115C00040000|623=05|624=2|40=2|44=15|", answers 23 2 2 2)
      ∷ (answer_to "11=a=b|44=-0.019|58=|555=2|600=XYZ   270115C00045000|623=1|624=2|600=XYZ   270115C00050000|623=1|624=2|58=z|40=2|", answers 22 2 0 0)
      ∷ (answer_to "11=a=b|44=-0.02|58=|555=2|600=XYZ   270115C00045000|623=1|624=2|600=XYZ   270115C00050000|623=1|624=2|58=z|40=2|", answers 0 2 0 0)
      ∷ (answer_to "11=a=b|44=-0.019|58=|555=2|600=XYZ   270115C00045000|623=1|624=2|600=XYZ   270115C00050000|623=1|624=2|58=z|40=1|", answers 0 2 0 0)
      ∷ [])
  -- no leg, a symbol that is none, a ratio or a price outside its limits: the order check's numbers
  pub legs : Hold (
      (answer_to "40=2|44=1|555=0|", answers 3 0 0 0)
      ∷ (answer_to "40=2|44=1|555=1|600=XYZ   270115X00020000|623=1|624=1|", answers 4 0 0 0)
      ∷ (answer_to "40=2|44=1|555=1|600=XYZ   270115C00020000|623=0|624=1|", answers 5 0 0 0)
      ∷ (answer_to "40=2|44=1|555=1|600=XYZ   270115C00020000|623=10001|624=1|", answers 5 0 0 0)
      ∷ (answer_to "40=2|44=1000000000.001|555=1|600=XYZ   270115C00020000|623=1|624=1|", answers 8 0 0 0)
      ∷ [])
  -- 16 legs of one series, and 17
  pub many : Hold ((number_of 16, 6) ∷ (number_of 17, 3) ∷ [])
  -- the whole answer where a message is turned away: the three numbers come before all else, 3 and 9 among it
  pub away : Hold (
      (check_fix handed [], answers 30 0 0 0)
      ∷ (answer_to "44=1|555=0|", answers 31 0 0 0)
      ∷ (answer_to "40=3|44=1|555=0|", answers 32 0 0 0)
      ∷ (unset "10=|", answers 30 0 0 0)
      ∷ (unset "40=2|555=0|", answers 31 0 0 0)
      ∷ (unset "40=3|44=1|555=0|", answers 32 0 0 0)
      ∷ (unset "40=2|44=1|555=1|600=XYZ   270115C00020000|623=1|624=1|", answers 9 0 0 0)
      ∷ [])
  -- the host's flags: T12 without one and with each; a put bought at its strike as a market order, without and with the opening process
  pub flags : Hold (
      (flagged 0 0 0 "40=2|44=1.251|555=1|600=XYZ   270115C00020000|623=1|624=1|", 25)
      ∷ (flagged 1 0 0 "40=2|44=1.251|555=1|600=XYZ   270115C00020000|623=1|624=1|", 0)
      ∷ (flagged 0 1 0 "40=2|44=1.251|555=1|600=XYZ   270115C00020000|623=1|624=1|", 0)
      ∷ (flagged 0 0 1 "40=2|44=1.251|555=1|600=XYZ   270115C00020000|623=1|624=1|", 25)
      ∷ (flagged 1 1 0 "40=1|44=18|555=1|600=XYZ   270115P00018000|623=1|624=1|", 20)
      ∷ (flagged 0 0 1 "40=1|44=18|555=1|600=XYZ   270115P00018000|623=1|624=1|", 0)
      ∷ [])
  -- 12 comes first; 30 is counted as refused
  pub tallied : Hold (
      (tallied_text (tally_of 1000000 0 1000000 0) "10=|", record { answer = answers 12 0 0 0; tally = tally_of 1000000 0 1000000 0 })
      ∷ (tallied_text fresh "40=2|44=15|555=3|600=XYZ   270115C00020000|623=5|624=2|600=XYZ   270115C00030000|623=10|624=1|600=XYZ   270115C00040000|623=05|624=2|", record { answer = answers 23 2 2 2; tally = tally_of 1 0 0 1 })
      ∷ (tallied_text fresh "10=|", record { answer = answers 30 0 0 0; tally = tally_of 1 1 0 0 })
      ∷ [])
  -- the frame, its length and its sum
  pub frame : Hold (
      (whole "8=FIX.4.4|9=22|35=AB|40=2|44=1|555=0|10=221|", 0)
      ∷ (whole "8=FIX.4.4|9=022|35=AB|40=2|44=1|555=0|10=013|", 0)
      ∷ (whole "8=FIX.4.4|9=21|35=AB|40=2|44=1|555=0|10=220|", 30)
      ∷ (whole "8=FIX.4.4|9=23|35=AB|40=2|44=1|555=0|10=222|", 30)
      ∷ (whole "8=FIX.4.4|9=22|35=AB|40=2|44=1|555=0|10=222|", 30)
      ∷ (whole "8=FIX.4.4|9=22|35=AB|40=2|44=1|555=0|10=22|", 30)
      ∷ (whole "8=FIX.4.4|9=22|35=AB|40=2|44=1|555=0|10=0221|", 30)
      ∷ (whole "8=FIX.4.4|9=22|35=AB|40=2|44=1|555=0|11=221|", 30)
      ∷ (whole "8=FIX.4.4|9=22|35=AB|40=2|44=1|555=0|010=221|", 30)
      ∷ (whole "08=FIX.4.4|9=22|35=AB|40=2|44=1|555=0|10=013|", 30)
      ∷ (whole "8=FIX.4.4|9=6|35=AB|10=247|", 31)
      ∷ (whole "7=FIX.4.4|9=22|35=AB|40=2|44=1|555=0|10=220|", 30)
      ∷ (whole "8=FIX.4.4|8=22|35=AB|40=2|44=1|555=0|10=220|", 30)
      ∷ (whole "8=FIX.4.4|9=22|34=AB|40=2|44=1|555=0|10=220|", 30)
      ∷ (whole "8=FIX.4.4|9=1<|35=AB|40=2|44=1|555=0|10=230|", 30)
      ∷ (whole "8=FIX.4.4|9=|35=AB|40=2|44=1|555=0|10=121|", 30)
      ∷ (whole "8=FIX.4.2|9=22|35=AB|40=2|44=1|555=0|10=219|", 30)
      ∷ (whole "8=FIX.4.4|9=22|35=AC|40=2|44=1|555=0|10=222|", 30)
      ∷ (whole "8=FIX.4.4|9=22|35=AB|40=2|44=1|555=0|10=221|5", 30)
      ∷ (whole "8=FIX.4.4|9=22|35=AB|40=2|44=1|555=0|10=221", 30)
      ∷ (whole "8=FIX.4.4|9=0000000000000022|35=AB|40=2|44=1|555=0|10=125|", 30)
      ∷ (whole "8=FIX.4.4|9=000000000000022|35=AB|40=2|44=1|555=0|10=077|", 0)
      ∷ (whole "", 30)
      ∷ (around "40=2|44=1|555=0|8=x|", 30)
      ∷ (around "40=2|44=1|555=0|9=22|", 30)
      ∷ (around "35=AB|40=2|44=1|555=0|", 30)
      ∷ (around "40=2|44=1|555=0|10=000|", 30)
      ∷ (around "40=2|44=1|555=0|0=x|", 30)
      ∷ (around "40=2|44=1|555=0|=x|", 30)
      ∷ (around "40=2|44=1|555=0||", 30)
      ∷ (around "40=2|44=1|555=0|5x=1|", 30)
      ∷ (around "40=2|44=1|555=0|058=x|", 30)
      ∷ (around "40=2|44=1|555=0|1234567890=x|", 30)
      ∷ (around "40=2|44=1|555=0|123456789=x|", 0)
      ∷ (around "40=2|44=1|555=0|58|", 30)
      ∷ [])
  -- needed tags, and their sequence
  pub sequence : Hold (
      (around "44=1|555=0|", 31)
      ∷ (around "40=2|555=0|", 31)
      ∷ (around "40=2|44=1|", 31)
      ∷ (around "40=2|44=1|555=0|40=2|", 31)
      ∷ (around "40=2|44=1|44=1|555=0|", 31)
      ∷ (around "40=2|44=1|555=0|555=0|", 31)
      ∷ (around "40=2|44=1|555=1|", 31)
      ∷ (around "40=2|44=1|555=1|600=|623=1|624=1|", 32)
      ∷ (around "40=2|44=1|555=1|623=1|600=|624=1|", 31)
      ∷ (around "40=2|44=1|555=1|600=|58=|623=1|624=1|", 31)
      ∷ (around "40=2|44=1|555=1|58=|600=|623=1|624=1|", 31)
      ∷ (around "40=2|555=1|600=|623=1|44=1|624=1|", 31)
      ∷ (around "40=2|44=1|555=0|600=|623=1|624=1|", 31)
      ∷ (around "600=|40=2|44=1|555=0|", 31)
      ∷ (around "40=2|44=1|555=0|624=1|", 31)
      ∷ (around "623=1|40=2|44=1|555=0|", 31)
      ∷ (around "40=2|44=1|555=999999999999999|", 31)
      ∷ (around "40=2|44=1|555=999999999999999|600=|623=1|624=1|", 31)
      ∷ (around "40=2|44=1|555=01|600=|623=1|624=1|600=|623=1|624=1|", 31)
      ∷ (around "40=2|44=1|555=a|", 32)
      ∷ (around "40=2|44=1|555=a|600=|623=1|624=1|", 31)
      ∷ [])
  -- the form of each value
  pub form : Hold (
      (around "40=3|44=1|555=0|", 32)
      ∷ (around "40=|44=1|555=0|", 32)
      ∷ (around "40=12|44=1|555=0|", 32)
      ∷ (around "40=1|44=|555=0|", 32)
      ∷ (around "40=1|44=-|555=0|", 32)
      ∷ (around "40=1|44=.5|555=0|", 32)
      ∷ (around "40=1|44=1.|555=0|", 32)
      ∷ (around "40=1|44=1.1234|555=0|", 32)
      ∷ (around "40=1|44=1.x|555=0|", 32)
      ∷ (around "40=1|44=+1|555=0|", 32)
      ∷ (around "40=0|44=1|555=0|", 32)
      ∷ (around "40=1|44=1.5|555=0|", 0)
      ∷ (around "40=1|44=-00|555=0|", 0)
      ∷ (around "40=1|44=1,5|555=0|", 32)
      ∷ (around "40=1|44=--1|555=0|", 32)
      ∷ (around "40=1|44=1234567890123456|555=0|", 32)
      ∷ (around "40=1|44=123456789012345.123|555=0|", 0)
      ∷ (around "40=1|44=1|555=|", 32)
      ∷ (around "40=1|44=1|555=0000000000000000|", 32)
      ∷ (around "40=1|44=1|555=000000000000000|", 0)
      ∷ (around "40=1|44=1|555=1|600=12345678901234567890|623=1|624=1|", 32)
      ∷ (around "40=1|44=1|555=1|600=123456789012345678901|623=1|624=1|", 0)
      ∷ (around "40=1|44=1|555=1|600=1234567890123456789012|623=1|624=1|", 32)
      ∷ (around "40=1|44=1|555=1|600=123456789012345678901|623=1.0|624=1|", 32)
      ∷ (around "40=1|44=1|555=1|600=123456789012345678901|623=|624=1|", 32)
      ∷ (around "40=1|44=1|555=1|600=123456789012345678901|623=1|624=3|", 32)
      ∷ [])
  -- dollars to mills
  pub price : Hold (
      (said "1", pos 1000)
      ∷ (said "1.5", pos 1500)
      ∷ (said "1.05", pos 1050)
      ∷ (said "01.005", pos 1005)
      ∷ (said "-2.345", neg_ℤ (pos 2345))
      ∷ (said "-0", pos 0)
      ∷ (said "999999999999999.999", pos 999999999999999999)
      ∷ [])
