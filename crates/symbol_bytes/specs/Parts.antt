-- What is asked of parts, so that their bytes can be written.
use Rattle.std.specs.Prelude.{◌^◌, ◌≤◌, ◌<◌}
use Rattle.rules.specs.declared.SymbolParts.{SymbolParts}

-- each part fits the bytes that are written for it
pub record Fits (p : SymbolParts) : Type 0 where
  pub root : p.root < 256 ^ 6
  pub from : 2000 ≤ p.year
  pub to : p.year ≤ 2099
  pub month : p.month ≤ 12
  pub day : p.day ≤ 32
  pub right : p.right ≤ 80
  pub strike : p.strike.0 ≤ 99999999
