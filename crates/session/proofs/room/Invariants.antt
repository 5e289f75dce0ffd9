-- The logins from here on leave what all leave of the room at the start.
use Rattle.std.proofs.Common.{◌≡◌, ◌-◌}
use Rattle.rules.specs.Session.{in_all}
use Rattle.session.proofs.Survey.{left_from}
use Rattle.session.proofs.room.Given as goal

abbrev pub invariant-loop-i : goal.invariant-loop-i
invariant-loop-i l = left_from l.session l.room l.i ≡ 1000000 - in_all l.session
