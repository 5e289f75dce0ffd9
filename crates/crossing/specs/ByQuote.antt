-- What a crossing quote gets, by the quote check's answer.
use Rattle.std.specs.Prelude.{cond, ℕ, eqb}
use Rattle.rules.specs.declared.Mills.{Mills}
use Rattle.rules.specs.declared.QuoteAnswer.{QuoteAnswer}
use Rattle.rules.specs.Kinds.{is_refused}
use Rattle.rules.specs.Crossing.{Crossing, is_bought, crossing_price, is_bad_crossing, Crossed, execution, unfilled}

unfoldable pub crossed_by : QuoteAnswer → Mills → Mills → Crossing → ℕ → Crossed
crossed_by q bid offer c room =
    cond (is_refused q.number) (unfilled room q.number q.cancel)
    (cond (is_bad_crossing room c) (unfilled room 36 0)
    (cond (eqb q.number 0) (execution room (crossing_price (is_bought c) bid offer) c) (unfilled room q.number q.cancel)))
