-- A list that is not too long; fills, one for each offer; a crossing quote's number by the quote check's answer, and what it gets by each number.
use mathlib.Core.Path.{◌≡◌, refl, sym, ap, ap₂, ◌∙◌}
use mathlib.Core.List.{List, [], ◌∷◌}
use mathlib.Core.Bool.{Bool, true, false, cond, not, ◌&&◌, true≢false}
use Prim.Native.Nat.{ℕ, zero, suc, ◌-◌, ◌≤◌, min}
use native.Mathlib.Omega.{arith}
use lib.Dec.{eqb, ltb}
use lib.ListN.{length}
use borrow.Author.Tests.{eqb-true, eq-eqb, ne_eqb, ltb-false, not-false}
use Rattle.rules.specs.declared.Mills.{Mills}
use Rattle.rules.specs.declared.Settings.{Settings}
use Rattle.rules.specs.declared.Market.{Market}
use Rattle.rules.specs.declared.QuoteAnswer.{QuoteAnswer}
use Rattle.rules.specs.Lists.{all, total}
use Rattle.rules.specs.Symbol.{parts_of}
use Rattle.rules.specs.Order.{is_yes, series_of}
use Rattle.rules.specs.Kinds.{is_refused, is_rejected}
use Rattle.rules.specs.Numbers.{first_of}
use Rattle.rules.specs.Quote.{quote_refusals, quote_refusal, quote_rejections, quote_rejection, answered_quote, quote_outcome, check_quote}
use Rattle.rules.specs.Crossing.{Crossing, Crossed, is_bought, crossing_price, are_bad_lengths, is_bad_crossing, fill_of, fills_of, execution, unfilled, crossing_number, check_crossing}
use Rattle.rules.proofs.Tests.{or_neither, no_flag, not_eq}
use Rattle.rules.proofs.Numbering.{first_behind, first_passes}
use Rattle.rules.proofs.Demand1.{quote_check}

-- a list that is not too long
pub lengths_fit : (room : ℕ) (ps ns : List ℕ) → are_bad_lengths room ps ns ≡ false → (length ns ≡ length ps) × (length ps ≤ 64) × (length ps ≤ room)
unfolding are_bad_lengths
lengths_fit room ps ns h =
    let a = or_neither (not (eqb (length ps) (length ns))) _ h in
    let b = or_neither (ltb 64 (length ps)) (ltb room (length ps)) a.1 in
    (sym (eqb-true (length ps) (length ns) (not-false _ a.0)), ltb-false 64 (length ps) b.0, ltb-false room (length ps) b.1)

-- and one that gets no 36
pub good_lengths : (room : ℕ) (c : Crossing) → is_bad_crossing room c ≡ false → (length c.sizes ≡ length c.prices) × (length c.prices ≤ 64) × (length c.prices ≤ room)
unfolding is_bad_crossing
good_lengths room c h = lengths_fit room c.prices c.sizes (or_neither (are_bad_lengths room c.prices c.sizes) _ h).0

-- no fill exceeds what is left of the size, or its offer's
pub fill_small : (b : Bool) (size n : ℕ) → (cond b (min size n) 0 ≤ size) × (cond b (min size n) 0 ≤ n)
fill_small true size n = (omega arith, omega arith)
fill_small false size n = (omega arith, omega arith)

-- all of them together fill no more than the size
pub total_fills : (may : ℕ → Bool) (size : ℕ) (ps ns : List ℕ) → total (fills_of may size ps ns) ≤ size
unfolding fills_of total
total_fills may size [] ns = omega arith
total_fills may size (p ∷ ps) [] = omega arith
total_fills may size (p ∷ ps) (n ∷ ns) = go (fill_of may size p n) (fill_small (may p) size n).0 (total_fills may (size - fill_of may size p n) ps ns)
  where
    go : (f : ℕ) → f ≤ size → total (fills_of may (size - f) ps ns) ≤ size - f → total (f ∷ fills_of may (size - f) ps ns) ≤ size
    go f h k = omega arith

-- "one for each offer"
pub length_fills : (may : ℕ → Bool) (size : ℕ) (ps ns : List ℕ) → length ns ≡ length ps → length (fills_of may size ps ns) ≡ length ps
unfolding fills_of
length_fills may size [] ns h = refl
length_fills may size (p ∷ ps) [] h = absurd (omega (arith, h))
length_fills may size (p ∷ ps) (n ∷ ns) h = ap suc (length_fills may (size - fill_of may size p n) ps ns (omega (arith, h)))

module _ (st : Settings) (m : Market) (symbol : List ℕ) (bid offer : Mills) (resting : ℕ) where
  refusals_numbers : (n : ℕ) → quote_refusal st m symbol bid offer ≡ n → cond (eqb n 0) true (is_refused n) ≡ true
  unfolding quote_refusal all
  refusals_numbers n e = ap (λ (n : ℕ). cond (eqb n 0) true (is_refused n)) (sym e) ∙ first_passes (λ n. cond (eqb n 0) true (is_refused n)) (quote_refusals st m symbol bid offer) refl refl

  rejections_numbers : is_refused (quote_rejection st m (series_of (parts_of symbol)) bid offer) ≡ false
  unfolding quote_rejection all
  rejections_numbers = not_eq _ (first_passes (λ n. not (is_refused n)) (quote_rejections st m (series_of (parts_of symbol)) bid offer) refl refl)

  -- the quote check's number stands where it refuses, and else where 36 does not apply
  number_by_quote : (bad : Bool) → crossing_number st m symbol bid offer bad ≡ cond (is_refused (check_quote st m symbol bid offer resting).number) (check_quote st m symbol bid offer resting).number (cond bad 36 (check_quote st m symbol bid offer resting).number)
  unfolding crossing_number check_quote quote_refusal quote_rejection quote_outcome all first_of
  number_by_quote bad = first_behind (quote_refusals st m symbol bid offer) ((bad, 36) ∷ quote_rejections st m (series_of (parts_of symbol)) bid offer) refl ∙ go (quote_refusal st m symbol bid offer) (refusals_numbers _ refl)
    where
      k : ℕ
      k = quote_rejection st m (series_of (parts_of symbol)) bid offer

      rest : (b : Bool) → cond b 36 k ≡ cond (is_refused k) k (cond b 36 k)
      rest b = sym (ap (λ (t : Bool). cond t k (cond b 36 k)) rejections_numbers)

      go : (n : ℕ) → cond (eqb n 0) true (is_refused n) ≡ true → cond (eqb n 0) (cond bad 36 k) n ≡ cond (is_refused (quote_outcome n (answered_quote resting k)).number) (quote_outcome n (answered_quote resting k)).number (cond bad 36 (quote_outcome n (answered_quote resting k)).number)
      go zero h = rest bad
      go (suc n) h =
          let z : eqb (suc n) 0 ≡ false = ne_eqb (suc n) 0 (λ e. omega (arith, e)) in
          let r : is_refused (suc n) ≡ true = ap (λ (b : Bool). cond b true (is_refused (suc n))) (sym z) ∙ h in
          ap (λ (b : Bool). cond b (cond bad 36 k) (suc n)) z ∙ sym (ap (λ (b : Bool). cond b (suc n) (cond bad 36 (suc n))) r)

  module _ (c : Crossing) (room : ℕ) where
    abbrev q : QuoteAnswer
    q = check_quote st m symbol bid offer resting

    abbrev number : ℕ
    number = crossing_number st m symbol bid offer (is_bad_crossing room c)

    abbrev given : Crossed
    given = check_crossing st m symbol bid offer resting c room

    by_number : (refused bad : Bool) → is_refused q.number ≡ refused → is_bad_crossing room c ≡ bad → number ≡ cond refused q.number (cond bad 36 q.number)
    by_number refused bad e f = number_by_quote (is_bad_crossing room c) ∙ ap₂ (λ (b d : Bool). cond b q.number (cond d 36 q.number)) e f

    gets_unfilled : (n : ℕ) → number ≡ n → (n ≡ 0 → ⊥) → given ≡ unfilled room n (cond (is_yes resting && is_rejected n) 1 0)
    unfolding check_crossing
    gets_unfilled n h z = rw h (ap (λ (b : Bool). cond b (execution room (crossing_price (is_bought c) bid offer) c) (unfilled room n (cond (is_yes resting && is_rejected n) 1 0))) (ne_eqb n 0 z))

    -- "that check's answer, all else zero"
    by_quote : number ≡ q.number → (q.number ≡ 0 → ⊥) → given ≡ unfilled room q.number q.cancel
    by_quote e z = gets_unfilled _ e z ∙ ap (unfilled room q.number) (sym (quote_check st m symbol bid offer resting).flag)

    pub gets_refused : is_refused q.number ≡ true → given ≡ unfilled room q.number q.cancel
    gets_refused h = by_quote (by_number true (is_bad_crossing room c) h refl) (λ e. true≢false (sym h ∙ ap is_refused e))

    pub gets_36 : is_refused q.number ≡ false → is_bad_crossing room c ≡ true → given ≡ unfilled room 36 0
    gets_36 h b = gets_unfilled 36 (by_number false true h b) (λ e. omega (arith, e)) ∙ ap (unfilled room 36) (no_flag (is_yes resting))

    module _ (h : is_refused q.number ≡ false) (b : is_bad_crossing room c ≡ false) where
      pub gets_rejected : (q.number ≡ 0 → ⊥) → given ≡ unfilled room q.number q.cancel
      gets_rejected z = by_quote (by_number false false h b) z

      pub gets_executed : q.number ≡ 0 → given ≡ execution room (crossing_price (is_bought c) bid offer) c
      unfolding check_crossing
      gets_executed z =
          ap (λ (b : Bool). cond b (execution room (crossing_price (is_bought c) bid offer) c) (unfilled room number (cond (is_yes resting && is_rejected number) 1 0))) (eq-eqb number 0 (by_number false false h b ∙ z))
