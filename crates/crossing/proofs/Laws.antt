-- What a crossing quote executes, of a list that was filled; and what it gets, by the quote check's answer and the list.
use mathlib.Core.Path.{◌≡◌, refl, sym, ap, ap₂, ◌∙◌}
use mathlib.Core.List.{List, ◌++◌}
use mathlib.Core.Bool.{Bool, true, false, cond}
use Prim.Native.Nat.{ℕ, zero, suc, ◌-◌}
use native.Mathlib.Omega.{arith}
use lib.Dec.{eqb}
use lib.ListN.{length, drop, replicate}
use borrow.Author.Tests.{eqb-true, eqb-false}
use Rattle.rules.specs.declared.Mills.{Mills}
use Rattle.rules.specs.declared.Settings.{Settings}
use Rattle.rules.specs.declared.Market.{Market}
use Rattle.rules.specs.declared.QuoteAnswer.{QuoteAnswer}
use Rattle.rules.specs.Lists.{total}
use Rattle.rules.specs.Kinds.{is_refused}
use Rattle.rules.specs.Market.{at_or_past}
use Rattle.rules.specs.Quote.{check_quote}
use Rattle.rules.specs.Crossing.{Crossing, is_bought, crossing_price, is_bad_crossing, may_fill, fills_of, crossing_fills, is_booked, execution, unfilled, check_crossing}
use Rattle.rules.proofs.Executing.{total_fills, length_fills, gets_refused, gets_36, gets_rejected, gets_executed}
use Rattle.execution.specs.Bounds.{furthest}
use Rattle.execution.proofs.Laws.{may_fill_at}
use Rattle.crossing.specs.ByQuote.{crossed_by}

zeros_dropped : (n m : ℕ) → drop {A = ℕ} n (replicate m 0) ≡ replicate (m - n) 0
zeros_dropped zero m = let e : m ≡ m - 0 = omega arith in ap (λ (k : ℕ). replicate k 0) e
zeros_dropped (suc n) zero = let e : 0 ≡ 0 - suc n = omega arith in ap (λ (k : ℕ). replicate k 0) e
zeros_dropped (suc n) (suc m) = let e : m - n ≡ suc m - suc n = omega arith in zeros_dropped n m ∙ ap (λ (k : ℕ). replicate k 0) e

module _ (bid offer : Mills) (c : Crossing) {bought : Bool} {price far : Mills} {b : Bool} (side : bought ≡ is_bought c) (at : price ≡ crossing_price bought bid offer) (kept : b ≡ is_booked bought price c.away) (reach : far ≡ furthest b price c.away) where
  abbrev own : Mills
  own = crossing_price (is_bought c) bid offer

  known_price : price ≡ own
  known_price = at ∙ ap (λ (b : Bool). crossing_price b bid offer) side

  known_booked : b ≡ is_booked (is_bought c) own c.away
  known_booked = kept ∙ ap₂ (λ (b : Bool) (p : Mills). is_booked b p c.away) side known_price

  -- up to the furthest price, and so what may be filled
  as_filled : fills_of (at_or_past bought far.0) c.size c.prices c.sizes ≡ crossing_fills own c
  as_filled =
      ap₂ (λ (b : Bool) (p : Mills). fills_of (at_or_past b p.0) c.size c.prices c.sizes) side (reach ∙ ap₂ (λ (b : Bool) (p : Mills). furthest b p c.away) known_booked known_price)
      ∙ sym (λ i. fills_of (λ p. may_fill_at (is_bought c) own c.away p i) c.size c.prices c.sizes)

  pub executed : {before fills : List ℕ} {left booked cancelled : ℕ} → length c.sizes ≡ length c.prices → before ≡ replicate (length before) 0
      → left ≡ c.size - total (fills_of (at_or_past bought far.0) c.size c.prices c.sizes) → fills ≡ fills_of (at_or_past bought far.0) c.size c.prices c.sizes ++ drop (length c.prices) before
      → booked ≡ cond b left 0 → cancelled ≡ cond b 0 left
      → record { answer = record { number = 0; cancel = 0; executed = c.size - left; booked = booked; cancelled = cancelled }; fills = fills } ≡ execution (length before) own c
  unfolding execution
  executed {before} {fills} {left} same zeros e f g h =
      let n = length_fills (may_fill (is_bought c) own c.away) c.size c.prices c.sizes same in
      let k = total_fills (may_fill (is_bought c) own c.away) c.size c.prices c.sizes in
      let l : left ≡ c.size - total (crossing_fills own c) = e ∙ ap (λ (fs : List ℕ). c.size - total fs) as_filled in
      let s : c.size - left ≡ total (crossing_fills own c) = omega (arith, l, k) in
      let t : fills ≡ crossing_fills own c ++ replicate (length before - length (crossing_fills own c)) 0 =
      f
      ∙ ap (λ (fs : List ℕ). fs ++ drop (length c.prices) before) as_filled
      ∙ ap (λ (ns : List ℕ). crossing_fills own c ++ ns) (ap (drop (length c.prices)) zeros ∙ zeros_dropped (length c.prices) (length before) ∙ ap (λ (k : ℕ). replicate (length before - k) 0) (sym n))
      in
      cc (l, known_booked, g, h, s, t)

-- ---- by the quote check's answer `q`

module _ (q : QuoteAnswer) (bid offer : Mills) (c : Crossing) (room : ℕ) where
  -- by the three tests
  by_tests : (refused bad accepts : Bool) → is_refused q.number ≡ refused → is_bad_crossing room c ≡ bad → eqb q.number 0 ≡ accepts
      → crossed_by q bid offer c room ≡ cond refused (unfilled room q.number q.cancel) (cond bad (unfilled room 36 0) (cond accepts (execution room (crossing_price (is_bought c) bid offer) c) (unfilled room q.number q.cancel)))
  unfolding crossed_by
  by_tests refused bad accepts e f g = rw (e, f, g) refl

-- ---- which is what the check gives

pub crossed_by_lem : (st : Settings) (m : Market) (symbol : List ℕ) (bid offer : Mills) (resting : ℕ) (c : Crossing) (room : ℕ) → crossed_by (check_quote st m symbol bid offer resting) bid offer c room ≡ check_crossing st m symbol bid offer resting c room
crossed_by_lem st m symbol bid offer resting c room = go (is_refused q.number) refl (is_bad_crossing room c) refl (eqb q.number 0) refl
  where
    q : QuoteAnswer
    q = check_quote st m symbol bid offer resting

    go : (refused : Bool) → is_refused q.number ≡ refused → (bad : Bool) → is_bad_crossing room c ≡ bad → (accepts : Bool) → eqb q.number 0 ≡ accepts → crossed_by q bid offer c room ≡ check_crossing st m symbol bid offer resting c room
    go true h b e a f = by_tests q bid offer c room true b a h e f ∙ sym (gets_refused st m symbol bid offer resting c room h)
    go false h true e a f = by_tests q bid offer c room false true a h e f ∙ sym (gets_36 st m symbol bid offer resting c room h e)
    go false h false e true f = by_tests q bid offer c room false false true h e f ∙ sym (gets_executed st m symbol bid offer resting c room h e (eqb-true q.number 0 f))
    go false h false e false f = by_tests q bid offer c room false false false h e f ∙ sym (gets_rejected st m symbol bid offer resting c room h e (eqb-false q.number 0 f))
