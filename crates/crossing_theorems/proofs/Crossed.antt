-- What is promised of every crossing quote.
use mathlib.Core.Path.{◌≡◌, refl, sym, ap, ◌∙◌}
use mathlib.Core.List.{List}
use mathlib.Core.Bool.{Bool, true, false, cond, ◌&&◌, true≢false}
use Prim.Native.Nat.{ℕ}
use native.Mathlib.Omega.{arith}
use lib.Dec.{eqb}
use borrow.Author.Tests.{eqb-true, eqb-false}
use Rattle.rules.specs.declared.Mills.{Mills}
use Rattle.rules.specs.declared.Settings.{Settings}
use Rattle.rules.specs.declared.Market.{Market}
use Rattle.rules.specs.declared.QuoteAnswer.{QuoteAnswer}
use Rattle.rules.specs.declared.CrossingAnswer.{CrossingAnswer}
use Rattle.rules.specs.Order.{is_yes}
use Rattle.rules.specs.Kinds.{is_refused, is_rejected}
use Rattle.rules.specs.Quote.{check_quote}
use Rattle.rules.specs.Crossing.{Crossing, is_bought, crossing_price, is_bad_crossing, execution, unfilled, check_crossing}
use Rattle.rules.proofs.Tests.{no_flag}
use Rattle.rules.proofs.Executing.{gets_refused, gets_36, gets_rejected, gets_executed}
use Rattle.rules.proofs.Demand1.{quote_check}
use Rattle.crossing_theorems.specs.Crossed.{OfQuote, Executes, CrossingTheorem}
use Rattle.crossing_theorems.proofs.Limits.{is_good, is_not_bad}
use Rattle.crossing_theorems.proofs.Executed.{executes}
use Rattle.crossing_theorems.proofs.Mirror.{mirrored_good, mirrored_same}

module _ (st : Settings) (m : Market) (symbol : List ℕ) (bid offer : Mills) (resting : ℕ) (c : Crossing) (room : ℕ) where
  abbrev q : QuoteAnswer
  q = check_quote st m symbol bid offer resting

  abbrev r : CrossingAnswer
  r = (check_crossing st m symbol bid offer resting c room).answer

  of_quote_lem : OfQuote c room q r
  unfolding execution
  of_quote_lem =
      record {
        refused = gets_own;
        bad = λ h b. both 36 0 (gets_36 st m symbol bid offer resting c room h b);
        own = λ b. go (is_refused q.number) refl (eqb q.number 0) refl b;
      }
    where
      both : (n cancel : ℕ) → check_crossing st m symbol bid offer resting c room ≡ unfilled room n cancel → (r.number ≡ n) × (r.cancel ≡ cancel)
      both n cancel e = (ap (λ x. x.answer.number) e, ap (λ x. x.answer.cancel) e)

      gets_own : is_refused q.number ≡ true → (r.number ≡ q.number) × (r.cancel ≡ q.cancel)
      gets_own h = both q.number q.cancel (gets_refused st m symbol bid offer resting c room h)

      -- an accepted quote leaves the resting one
      accepted : q.number ≡ 0 → q.cancel ≡ 0
      accepted z = (quote_check st m symbol bid offer resting).flag ∙ ap (λ (k : ℕ). cond (is_yes resting && is_rejected k) 1 0) z ∙ no_flag (is_yes resting)

      go : (refused : Bool) → is_refused q.number ≡ refused → (accepts : Bool) → eqb q.number 0 ≡ accepts → is_bad_crossing room c ≡ false → (r.number ≡ q.number) × (r.cancel ≡ q.cancel)
      go true h a e b = gets_own h
      go false h true e b =
          let z = eqb-true q.number 0 e in
          let g = gets_executed st m symbol bid offer resting c room h b z in
          (ap (λ x. x.answer.number) g ∙ sym z, ap (λ x. x.answer.cancel) g ∙ sym (accepted z))
      go false h false e b = both q.number q.cancel (gets_rejected st m symbol bid offer resting c room h b (eqb-false q.number 0 e))

  -- 36 and a refusal are other numbers than 0
  not_bad : r.number ≡ 0 → is_bad_crossing room c ≡ false
  not_bad h = go (is_bad_crossing room c) refl (is_refused q.number) refl
    where
      go : (b : Bool) → is_bad_crossing room c ≡ b → (d : Bool) → is_refused q.number ≡ d → b ≡ false
      go false e d f = refl
      go true e true f = let z = (of_quote_lem.refused f).0 in absurd (true≢false (sym f ∙ ap is_refused (sym z ∙ h)))
      go true e false f = let z = (of_quote_lem.bad f e).0 in absurd (omega (arith, z, h))

  as_executed : r.number ≡ 0 → Executes (crossing_price (is_bought c) bid offer).0 c room (check_crossing st m symbol bid offer resting c room)
  as_executed h =
      let b = not_bad h in
      let z : q.number ≡ 0 = sym (of_quote_lem.own b).0 ∙ h in
      rw (gets_executed st m symbol bid offer resting c room (ap is_refused z) b z) (executes room (crossing_price (is_bought c) bid offer) c (is_good room c b))

pub crossing_theorem : CrossingTheorem
crossing_theorem =
    record {
      good = is_good;
      bad = is_not_bad;
      of_quote = of_quote_lem;
      executes = as_executed;
      mirror = λ room price c p g. (mirrored_good room c g, mirrored_same room c g price p);
    }
