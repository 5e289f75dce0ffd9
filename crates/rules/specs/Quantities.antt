-- Document 01, Quantities: money in mills, a distance in ticks is kept apart from a price in mills.
use Rattle.std.specs.Prelude.{◌*◌}
use Rattle.rules.specs.declared.Mills.{Mills}
use Rattle.rules.specs.declared.Ticks.{Ticks}

-- a distance as a price: so many ticks of one tick's size
unfoldable pub distance : Ticks → Mills → Mills
distance ticks tick = record { 0 = ticks.0 * tick.0 }
