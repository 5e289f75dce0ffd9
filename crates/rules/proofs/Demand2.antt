-- Symbols read and write as exact inverses.
use mathlib.Core.Path.{◌≡◌, refl, sym, ap, ◌∙◌}
use mathlib.Core.List.{List, ◌++◌}
use mathlib.Core.Bool.{true}
use mathlib.Core.Logic.{⊎_elim}
use Prim.Native.Nat.{ℕ}
use native.Mathlib.Omega.{arith}
use lib.ListN.{length, take, drop}
use lib.Seq.{take_at}
use Rattle.rules.specs.Symbol.{symbol_of, parts_of, is_symbol, read_symbol}
use Rattle.rules.specs.Demand2.{ReadThenWritten, WrittenThenRead, OneSeries}
use Rattle.rules.proofs.Symbols.{symbol_length, parts_of_symbol, symbol_is_symbol, symbol_of_parts, parts_in_layout, read_of, read_cases, write_of, handed_symbol}

accepted_read : (s : List ℕ) → (read_symbol s).number ≡ 0 → (length s ≡ 21) × (is_symbol s ≡ true)
accepted_read s h =
    ⊎_elim
    (λ a. (a.0, a.1))
    (λ r. absurd (⊎_elim (λ b. let z : ◌≡◌ {A = ℕ} 1 0 = rw b at h in omega arith) (λ d. let z : ◌≡◌ {A = ℕ} 4 0 = rw d at h in omega arith) r))
    (read_cases s)

pub read_then_written : ReadThenWritten
read_then_written s buffer h room =
    let a = accepted_read s h in
    let r = read_of s a.0 a.1 in
    let w = write_of (parts_of s) buffer room (parts_in_layout s a.0 a.1) in
    rw (r, w) (refl, take_at (symbol_of (parts_of s)) (drop 21 buffer) 21 (symbol_length (parts_of s)) ∙ symbol_of_parts s a.0 a.1)

pub written_then_read : WrittenThenRead
written_then_read p buffer h =
    let a = handed_symbol p buffer h in
    let w = write_of p buffer a.0 a.1 in
    let e : take 21 (symbol_of p ++ drop 21 buffer) ≡ symbol_of p = take_at (symbol_of p) (drop 21 buffer) 21 (symbol_length p) in
    rw (w, e, read_of (symbol_of p) (symbol_length p) (symbol_is_symbol p a.1), parts_of_symbol p a.1)

pub one_series : OneSeries
one_series s t hs ht =
    let a = accepted_read s hs in
    let b = accepted_read t ht in (
      (λ e. sym (symbol_of_parts s a.0 a.1) ∙ ap symbol_of (rw (read_of s a.0 a.1, read_of t b.0 b.1) at e) ∙ symbol_of_parts t b.0 b.1),
      λ e. ap (λ (x : List ℕ). (read_symbol x).parts) e,
    )
