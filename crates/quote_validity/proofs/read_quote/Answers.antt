-- The parts that are read are small.
use Rattle.symbol.proofs.Laws.{read_small}
use Rattle.quote_validity.proofs.read_quote.Goals as goal

pub series_of-requires : goal.series_of-requires
series_of-requires c = let p = read_small _ c.in_ok-parts.parts c.in_ok-parts.ensures in (p.0, p.1, p.2)
