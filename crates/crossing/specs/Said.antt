-- Document 02, S-7: the numbers that the answer to a crossing quote stands for.
use Rattle.std.specs.Prelude.{cond, Result, Ok, Err}
use Rattle.rules.specs.declared.CrossingAnswer.{CrossingAnswer}
use Rattle.rules.specs.Crossing.{unexecuted}
use Rattle.answers.specs.declared.Refusal.{Refusal}
use Rattle.answers.specs.Answers.{refusal_number, check_number}
use Rattle.crossing.specs.declared.Crossed.{Crossed}
use Rattle.crossing.specs.declared.Crossed.TheVariants.{Accepted, Rejected}

-- "A quote that the quote check refuses or rejects gives that check's answer, all else zero"
abbrev pub crossed_said : Result Crossed Refusal → CrossingAnswer
crossed_said (Ok (Accepted p)) = record { number = 0; cancel = 0; executed = p.executed; booked = p.booked; cancelled = p.cancelled }
crossed_said (Ok (Rejected check cancel)) = unexecuted (check_number check) (cond cancel 1 0)
crossed_said (Err e) = unexecuted (refusal_number e) 0
