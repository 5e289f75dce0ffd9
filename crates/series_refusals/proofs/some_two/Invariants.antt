-- No key passed stands again: what is found from here on is what there is.
use Rattle.std.proofs.Common.{◌≡◌, drop}
use Rattle.rules.specs.Lists.{some_pair}
use Rattle.series_refusals.specs.Twice.{keys_of, is_same_key}
use Rattle.series_refusals.proofs.some_two.Given as goal

abbrev pub invariant-loop-i : goal.invariant-loop-i
invariant-loop-i l = some_pair is_same_key (keys_of (drop l.i l.places) (drop l.i l.roots)) ≡ some_pair is_same_key (keys_of l.places l.roots)
