-- The legs stored so far, and those that the groups from `next` on say, are all legs.
use Rattle.std.proofs.Common.{◌≡◌, ◌-◌, ◌++◌, length, take}
use Rattle.rules.specs.Fix.{legs_said}
use Rattle.message_order.specs.Groups.{groups_at, HasGroups}
use Rattle.message_order.proofs.order_said.Given as goal

abbrev pub invariant-loop-i : goal.invariant-loop-i
invariant-loop-i l =
    record {
      legs : take l.i l.legs ++ legs_said (groups_at l.message l.next (l.n - l.i)) ≡ legs_said (groups_at l.message l.at l.n);
      groups : HasGroups l.message l.next (l.n - l.i);
      room : length l.legs ≡ 16;
    }
