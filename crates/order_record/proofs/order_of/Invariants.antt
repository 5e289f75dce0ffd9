-- The legs stored so far, and those still to be read, are all legs.
use Rattle.std.proofs.Common.{◌≡◌, ◌++◌, length, take}
use Rattle.rules.specs.Order.{raw_legs}
use Rattle.order_record.proofs.Laws.{legs_from}
use Rattle.order_record.proofs.order_of.Given as goal

abbrev pub invariant-loop-i : goal.invariant-loop-i
invariant-loop-i l =
    record {
      legs : take l.i l.order.legs ++ legs_from l.symbols l.counts l.n l.i ≡ raw_legs l.n l.symbols l.counts;
      long : length l.order.legs ≡ 16;
      len : l.order.len ≡ l.n;
      terms : l.order.terms ≡ l.initial.order.terms;
    }
