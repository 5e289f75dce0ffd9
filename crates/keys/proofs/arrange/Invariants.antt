use Rattle.std.proofs.Common.{◌≡◌, ◌/◌, ◌%◌, take, drop, map, get_or}
use Rattle.keys.proofs.arrange.Given as goal

-- The places passed have become tags, with their contracts beside them; the others are as they were.
abbrev pub invariant-loop-i : goal.invariant-loop-i
invariant-loop-i l = record {
  each_tag : take l.i l.places ≡ map (λ p. p / 16) (take l.i l.fn.places);
  others : drop l.i l.places ≡ drop l.i l.fn.places;
  each_left : take l.i l.left ≡ map (λ p. get_or l.sizes (p % 16) 0) (take l.i l.fn.places);
}
