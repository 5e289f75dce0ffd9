-- What comes with a crossing quote, as the code holds it, and the definitions' record of it.
use Rattle.rules.specs.Crossing as rules
use Rattle.resting.specs.declared.Crossing.{Crossing}

abbrev pub lent : Crossing → rules.Crossing
lent c = record { sell = c.sell; size = c.size; prices = c.prices.now; sizes = c.sizes.now; away = c.away }
