-- The digits from the next on, behind those that say `n`, say the number.
use Rattle.std.proofs.Common.{◌≡◌, true, drop}
use Rattle.rules.specs.Numerals.{value, are_digits}
use Rattle.digits.proofs.Laws.{said_with}
use Rattle.digits.proofs.value_of.Given as goal

abbrev pub invariant-loop-d : goal.invariant-loop-d
invariant-loop-d l =
    record { said : said_with l.n (drop l.d-index l.digits) ≡ value 10 48 l.digits; digits : are_digits 10 48 (drop l.d-index l.digits) ≡ true }
