-- Parts that are in the layout fit their bytes.
use Rattle.std.proofs.Common.{◌≡◌, true}
use Rattle.rules.specs.declared.SymbolParts.{SymbolParts}
use Rattle.rules.specs.Symbol.{in_layout}
use Rattle.rules.proofs.Symbols.{laid, limits}
use Rattle.symbol_bytes.specs.Parts.{Fits}

pub layout_fits : (p : SymbolParts) → in_layout p ≡ true → Fits p
layout_fits p h =
    let a = laid p h in
    let l = limits p a.2 in
    record { root = a.0; from = l.from; to = l.to; month = l.month; day = l.day; right = l.right; strike = l.strike }
