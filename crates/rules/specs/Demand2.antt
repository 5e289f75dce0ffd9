-- Demand 2, of symbols: "read then written, the same bytes; written then read, the same series."
use Rattle.std.specs.Prelude.{◌≡◌, ◌↔◌, List, ℕ, ◌≤◌, length, take}
use Rattle.rules.specs.declared.SymbolParts.{SymbolParts}
use Rattle.rules.specs.Symbol.{read_symbol, write_symbol, SymbolWritten}

-- the leading part that the writer hands back
abbrev pub part : SymbolWritten → List ℕ
part w = take w.handed w.buffer

abbrev pub ReadThenWritten : Type 0
ReadThenWritten =
    (s buffer : List ℕ) →
    (read_symbol s).number ≡ 0 →
    21 ≤ length buffer →
    ((write_symbol (read_symbol s).parts buffer).number ≡ 0) × (part (write_symbol (read_symbol s).parts buffer) ≡ s)

abbrev pub WrittenThenRead : Type 0
WrittenThenRead =
    (p : SymbolParts) (buffer : List ℕ) →
    (write_symbol p buffer).number ≡ 0 →
    read_symbol (part (write_symbol p buffer)) ≡ record { number = 0; parts = p }

-- two valid symbols are one series exactly where their bytes are equal
abbrev pub OneSeries : Type 0
OneSeries =
    (s t : List ℕ) →
    (read_symbol s).number ≡ 0 →
    (read_symbol t).number ≡ 0 →
    ((read_symbol s).parts ≡ (read_symbol t).parts) ↔ (s ≡ t)
