-- What the symbol writer promises of the part that it hands back.
use Rattle.std.specs.Prelude.{◌≡◌, List, ℕ, take}
use Rattle.std.specs.Borrow.{MutBor}
use Rattle.rules.specs.declared.SymbolParts.{SymbolParts}
use Rattle.rules.specs.Symbol.{write_symbol}

-- `r` is the part of `buffer` that is handed back, `number` the number that is stored
pub record Handed (p : SymbolParts) (buffer r : MutBor (List ℕ)) (number : ℕ) : Type 0 where
  -- the part begins where the buffer begins
  pub place : r.ref_ptr ≡ buffer.ref_ptr
  pub bytes : r.now ≡ take (write_symbol p buffer.now).handed (write_symbol p buffer.now).buffer
  pub stored : number ≡ (write_symbol p buffer.now).number
