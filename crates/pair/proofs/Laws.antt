-- The number of a refusal or of a check is not that of an accepted order.
use Rattle.std.proofs.Common.{◌≡◌, ℕ, zero, suc, true, false, arith}
use borrow.Author.Tests.{ne_eqb}
use Rattle.std.proofs.lemmas.Bool.{false≢true}
use Rattle.rules.specs.Kinds.{is_accepted, is_refused, is_rejected}
use Rattle.answers.specs.declared.Refusal.{Refusal}
use Rattle.answers.specs.declared.Check.{Check}
use Rattle.answers.specs.Answers.{refusal_number, check_number}
use Rattle.answers.proofs.Laws.{refusal_refuses, check_rejects}

not_refused : (n : ℕ) → is_refused n ≡ true → is_accepted n ≡ false
not_refused zero h = absurd (false≢true h)
not_refused (suc n) h = ne_eqb (suc n) 0 (λ e. omega arith)

not_rejected : (n : ℕ) → is_rejected n ≡ true → is_accepted n ≡ false
not_rejected zero h = absurd (false≢true h)
not_rejected (suc n) h = ne_eqb (suc n) 0 (λ e. omega arith)

pub not_of_refusal : (e : Refusal) → is_accepted (refusal_number e) ≡ false
not_of_refusal e = not_refused (refusal_number e) (refusal_refuses e)

pub not_of_check : (c : Check) → is_accepted (check_number c) ≡ false
not_of_check c = not_rejected (check_number c) (check_rejects c)
