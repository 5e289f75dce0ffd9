-- What is left decides: each byte passed is a letter or a digit.
use Rattle.std.proofs.Common.{◌≡◌, drop}
use Rattle.rules.specs.Symbol.{is_root_tail}
use Rattle.roots.proofs.is_root_tail.Given as goal

abbrev pub invariant-loop-i : goal.invariant-loop-i
invariant-loop-i l = is_root_tail (drop l.i l.tail) ≡ is_root_tail l.tail
