-- How far a crossing quote reaches.
use Rattle.std.specs.Prelude.{Bool, cond}
use Rattle.rules.specs.declared.Mills.{Mills}

-- its own price where it is short of the away price or there is none, and so its remainder is booked; else the away price
abbrev pub furthest : Bool → Mills → Mills → Mills
furthest booked price away = cond booked price away
