-- The unit counts of the legs passed are in.
use Rattle.std.proofs.Common.{◌≡◌, ◌/◌, map, take}
use Rattle.unit_counts.proofs.units.Given as goal

abbrev pub invariant-loop-i : goal.invariant-loop-i
invariant-loop-i l = take l.i l.counts ≡ map (λ s. s / l.divisor) (take l.i l.sizes)
