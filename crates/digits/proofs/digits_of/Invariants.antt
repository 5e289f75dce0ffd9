-- The digits not yet written say what is left, before those written.
use Rattle.std.proofs.Common.{◌≡◌, ◌^◌, ◌<◌, ◌++◌, length, drop}
use Rattle.rules.specs.Numerals.{numeral}
use Rattle.digits.proofs.digits_of.Given as goal

abbrev pub invariant-loop-i : goal.invariant-loop-i
invariant-loop-i g l =
    record {
      said : numeral 10 48 l.i l.rest ++ drop l.i l.digits ≡ numeral 10 48 g.row.N l.initial.n;
      fits : l.rest < 10 ^ l.i;
      long : length l.digits ≡ g.row.N;
    }
