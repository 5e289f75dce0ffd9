-- The second number falls at each call.
use Rattle.unit_counts.proofs.+gcd.Given as goal

abbrev pub decreases-gcd : goal.decreases-gcd
decreases-gcd l = l.b
