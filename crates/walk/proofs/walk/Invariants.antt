use Rattle.std.proofs.Common.{◌+◌, ◌*◌, ◌≤◌, ℕ, Bool, length}
use Rattle.tagged.specs.Tags.{tally_of, InSequence, Stands}
use Rattle.tagged.proofs.Numbered.{Outer}
use Rattle.walk.proofs.walk.Given as goal

-- The legs from `i` on are walked, and those before it stand as they came.
abbrev pub invariant-loop-i : goal.invariant-loop-i
invariant-loop-i l = record {
  walked : (root : ℕ) (second : Bool) → Outer l.tags second root l.fn.left l.left (tally_of l.s) l.i;
  within : l.i ≤ length l.tags;
  sequence : InSequence l.tags l.left;
  few : l.s.debits + l.s.credits + 16 * l.i ≤ 256;
  stands : Stands l.tags l.left l.i l.s;
}
