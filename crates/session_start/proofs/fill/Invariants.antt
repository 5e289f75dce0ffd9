-- The logins so far are fresh, with their limits.
use Rattle.std.proofs.Common.{◌≡◌}
use Rattle.session_start.proofs.Laws.{filled}
use Rattle.session_start.proofs.fill.Given as goal

abbrev pub invariant-loop-i : goal.invariant-loop-i
invariant-loop-i l = l.session ≡ filled l.limits l.initial.session l.i
