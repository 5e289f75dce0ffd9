-- No byte 1 is among the bytes that are passed.
use Rattle.std.proofs.Common.{◌≡◌, None, ◌*◌, take}
use Rattle.fields.proofs.Runs.{one_at}
use Rattle.fields.proofs.value_len.Given as goal

abbrev pub invariant-loop-i : goal.invariant-loop-i
invariant-loop-i l = None ≡ one_at (take (4 * l.i) l.s)
