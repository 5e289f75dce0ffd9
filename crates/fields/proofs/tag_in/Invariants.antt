-- The digits so far, and what they say.
use Rattle.fields.proofs.Digits.{Read}
use Rattle.fields.proofs.tag_in.Given as goal

abbrev pub invariant-loop-digits : goal.invariant-loop-digits
invariant-loop-digits l = Read l.s l.digits l.number
