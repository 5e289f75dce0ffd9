-- The legs passed are read, and stand in the arrays.
use Rattle.reading.proofs.Reading.{AreRead}
use Rattle.reading.proofs.read_legs.Given as goal

abbrev pub invariant-loop-i : goal.invariant-loop-i
invariant-loop-i l = AreRead l.some l.i l.places l.sizes l.roots l.known l.other l.bad
