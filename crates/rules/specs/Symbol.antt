-- Document 01, Option symbol (OSI, 21 bytes).
use Rattle.std.specs.Prelude.{List, [], ◌∷◌, ◌++◌, Bool, true, false, cond, ◌&&◌, ◌||◌, ℕ, ◌+◌, ◌-◌, ◌%◌, ◌^◌, length, get_or, drop, ltb, eqb}
use Rattle.std.proofs.Math.Seq.{slice}
use Rattle.rules.specs.Limits.{within}
use Rattle.rules.specs.Numerals.{value, numeral, are_digits}
use Rattle.rules.specs.declared.Mills.{Mills}
use Rattle.rules.specs.declared.SymbolParts.{SymbolParts}
use Rattle.rules.specs.declared.SymbolRead.{SymbolRead}

-- "Root: 6 bytes, an uppercase letter, then uppercase letters or digits, then spaces to the end."
abbrev pub is_letter : ℕ → Bool
is_letter b = within 65 90 b

abbrev pub is_digit : ℕ → Bool
is_digit b = within 48 57 b

unfoldable pub are_spaces : List ℕ → Bool
are_spaces [] = true
are_spaces (b ∷ bs) = eqb b 32 && are_spaces bs

unfoldable pub is_root_tail : List ℕ → Bool
is_root_tail [] = true
is_root_tail (b ∷ bs) = cond (is_letter b || is_digit b) (is_root_tail bs) (are_spaces (b ∷ bs))

unfoldable pub is_root : List ℕ → Bool
is_root [] = false
is_root (b ∷ bs) = is_letter b && is_root_tail bs

-- "years 2000 to 2099, and the day exists in that month": in these years each fourth is a leap year
abbrev pub month_lengths : List ℕ
month_lengths = 31 ∷ 28 ∷ 31 ∷ 30 ∷ 31 ∷ 30 ∷ 31 ∷ 31 ∷ 30 ∷ 31 ∷ 30 ∷ 31 ∷ []

unfoldable pub leap_day : ℕ → ℕ → ℕ
leap_day year month = cond (eqb month 2 && eqb (year % 4) 0) 1 0

unfoldable pub days_in : ℕ → ℕ → ℕ
days_in year month = get_or month_lengths (month - 1) 0 + leap_day year month

unfoldable pub day_exists : ℕ → ℕ → ℕ → Bool
day_exists year month day = within 2000 2099 year && within 1 12 month && within 1 (days_in year month) day

-- "One byte C or P."
abbrev pub is_right : ℕ → Bool
is_right b = eqb b 67 || eqb b 80

-- "Strike: 8 digits, mills, 1 to 99999999."
abbrev pub is_strike : Mills → Bool
is_strike k = within 1 99999999 k.0

-- expiry, type and strike are in their limits
unfoldable pub in_limits : SymbolParts → Bool
in_limits p = day_exists p.year p.month p.day && is_right p.right && is_strike p.strike

-- the parts are in the layout; the root's number is that of six bytes
unfoldable pub in_layout : SymbolParts → Bool
in_layout p = ltb p.root (256 ^ 6) && is_root (numeral 256 0 6 p.root) && in_limits p

-- the 21 bytes of parts that are in the layout
unfoldable pub symbol_of : SymbolParts → List ℕ
symbol_of p =
    numeral 256 0 6 p.root ++ (numeral 10 48 2 (p.year - 2000) ++ (numeral 10 48 2 p.month ++ (numeral 10 48 2 p.day ++ (p.right ∷ numeral 10 48 8 p.strike.0))))

-- the parts that 21 bytes say
unfoldable pub parts_of : List ℕ → SymbolParts
parts_of s =
    record {
      root = value 256 0 (slice 0 6 s);
      year = 2000 + value 10 48 (slice 6 8 s);
      month = value 10 48 (slice 8 10 s);
      day = value 10 48 (slice 10 12 s);
      right = get_or s 12 0;
      strike = record { 0 = value 10 48 (slice 13 21 s) };
    }

-- 21 bytes are in the layout
unfoldable pub is_symbol : List ℕ → Bool
is_symbol s =
    is_root (slice 0 6 s) && are_digits 10 48 (slice 6 12 s) && are_digits 10 48 (slice 13 21 s) && in_limits (parts_of s)

-- a refusal of the reader: its number, and all else zero
abbrev pub refused_read : ℕ → SymbolRead
refused_read n = record { number = n; parts = record { root = 0; year = 0; month = 0; day = 0; right = 0; strike = record { 0 = 0 } } }

-- The symbol reader. The host: "1 symbol bytes are not 21 per count (quote, reader: not 21)". The trading firm: "4 a symbol or its parts outside the layout".
unfoldable pub read_symbol : List ℕ → SymbolRead
read_symbol s = cond (eqb (length s) 21) (cond (is_symbol s) (record { number = 0; parts = parts_of s }) (refused_read 4)) (refused_read 1)

-- what the symbol writer leaves
pub record SymbolWritten : Type 0 where
  pub number : ℕ
  -- how many leading bytes of the buffer are handed back
  pub handed : ℕ
  -- every byte of the lent buffer
  pub buffer : List ℕ

-- "a refusal hands back an empty part", and lent bytes keep their contents
abbrev pub refused_write : ℕ → List ℕ → SymbolWritten
refused_write n buffer = record { number = n; handed = 0; buffer = buffer }

-- The symbol writer. The host: "2 fewer than 21 bytes to write in"; 4 as above. It "hands back the 21 bytes written as a part of the lent buffer; bytes after them keep their values".
unfoldable pub write_symbol : SymbolParts → List ℕ → SymbolWritten
write_symbol p buffer =
    cond (ltb (length buffer) 21)
    (refused_write 2 buffer)
    (cond (in_layout p) (record { number = 0; handed = 21; buffer = symbol_of p ++ drop 21 buffer }) (refused_write 4 buffer))
