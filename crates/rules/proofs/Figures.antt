-- Document 02, S-3, by computing its definitions.
use mathlib.Core.Path.{refl}
use Rattle.rules.specs.Pairing.{pair_of, matched, reach, walk}
use Rattle.rules.specs.OpenContracts.{open_on, begun, searched, figure}
use Rattle.rules.specs.Figures.{Figures}

pub figures : Figures
unfolding pair_of matched reach walk open_on begun searched figure
figures = record { legs = (refl, refl, refl, refl); adjusts = (refl, refl, refl); sums = (refl, refl); sides = (refl, refl, refl, refl, refl) }
