-- The number decides how many bytes are handed back.
use Rattle.std.proofs.Common.{◌≡◌, ℕ, Result, Ok, Err, MatchResult, sym, ◌∙◌}
use Rattle.rules.specs.Symbol.{SymbolWritten}
use Rattle.rules.proofs.Symbols.{handed_symbol, handed_nothing}
use Rattle.answers.specs.declared.Refusal.{Refusal}
use Rattle.answers.specs.Answers.{refusal_number, number_of}
use Rattle.unit.proofs.symbols.opc_write_symbol.Goals as goal

numbered : {number : ℕ} (r : Result (Unit {0}) Refusal) → MatchResult r (λ _. number ≡ 0) (λ e. number ≡ refusal_number e) → number ≡ number_of refusal_number r
numbered (Ok u) h = h
numbered (Err e) h = h

-- field by field
written : {number handed : ℕ} {buffer : _} (w : SymbolWritten) → number ≡ w.number → w.handed ≡ handed → buffer ≡ w.buffer → record { number = number; handed = handed; buffer = buffer } ≡ w
written w p q r = λ i. record { number = p i; handed = sym q i; buffer = r i }

pub returns-then-n-eq0 : goal.returns-then-n-eq0
returns-then-n-eq0 c =
    let value = numbered c.fill.result c.number-n.ensures ∙ c.fill.ensures.value in
    written _ value (handed_symbol _ _ (sym value ∙ c.if-n-eq0.true)).2 c.fill.ensures.buffer_after

pub returns-else-n-eq0 : goal.returns-else-n-eq0
returns-else-n-eq0 c =
    let value = numbered c.fill.result c.number-n.ensures ∙ c.fill.ensures.value in
    written _ value (handed_nothing _ _ (λ z. c.if-n-eq0.false (value ∙ z))) c.fill.ensures.buffer_after
