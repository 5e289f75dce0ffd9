-- The tally over lists of tallied checks: each of its numbers rises by one where a call's number passes its test.
use mathlib.Core.Path.{◌≡◌, refl, sym, ap, ◌∙◌}
use mathlib.Core.List.{List, [], ◌∷◌}
use mathlib.Core.Bool.{Bool, true, false, not, ◌&&◌, ◌||◌, true≢false}
use Prim.Native.Nat.{ℕ, ◌+◌}
use native.Mathlib.Omega.{arith}
use borrow.Author.Tests.{eqb-true}
use Rattle.rules.specs.declared.OrderAnswer.{OrderAnswer}
use Rattle.rules.specs.declared.Tally.{Tally}
use Rattle.rules.specs.Kinds.{is_accepted, is_rejected, is_refused}
use Rattle.rules.specs.Numbers.{refused}
use Rattle.rules.specs.Demand1.{call_numbers}
use Rattle.rules.specs.Tally.{is_bad_tally, one_more, counted, tallied, Call, own_answer, check_tallied, numbers_of, tally_after, fresh, how_many, is_twelve, Tallies, TallyTheorem}
use Rattle.rules.proofs.Demand1.{passes, call_answers, no_twelve}

-- ---- no check gives 12 by itself

not_twelve : (c : Call) → not (is_twelve (own_answer c).number) ≡ true
not_twelve c = passes (λ n. not (is_twelve n)) _ (call_numbers c) (no_twelve c) (call_answers c).number

-- ---- one call

bad_call : (t : Tally) (c : Call) → is_bad_tally t ≡ true → ((check_tallied t c).answer ≡ refused 12) × ((check_tallied t c).tally ≡ t)
unfolding check_tallied tallied
bad_call t c h = rw h (refl, refl)

counted_call : (t : Tally) (c : Call) → is_bad_tally t ≡ false → ((check_tallied t c).answer ≡ own_answer c) × ((check_tallied t c).tally ≡ counted t (own_answer c).number)
unfolding check_tallied tallied
counted_call t c h = rw h (refl, refl)

-- ---- lists of calls

module _ (get : Tally → ℕ) (f : ℕ → Bool) (none : f 12 ≡ false) (step : (t : Tally) (n : ℕ) → not (is_twelve n) ≡ true → get (counted t n) ≡ one_more (f n) (get t)) where
  moved : (b : Bool) (x y : ℕ) → one_more b x + y ≡ x + one_more b y
  moved true x y = omega arith
  moved false x y = refl

  pub tally_of_lem : (t : Tally) (cs : List Call) → get (tally_after t cs) ≡ get t + how_many f (numbers_of t cs)
  unfolding tally_after numbers_of how_many
  tally_of_lem t [] = omega arith
  tally_of_lem t (c ∷ cs) = go (is_bad_tally t) refl (tally_of_lem (check_tallied t c).tally cs)
    where
      go : (b : Bool) → is_bad_tally t ≡ b → get (tally_after (check_tallied t c).tally cs) ≡ get (check_tallied t c).tally + how_many f (numbers_of (check_tallied t c).tally cs)
          → get (tally_after (check_tallied t c).tally cs) ≡ get t + one_more (f (check_tallied t c).answer.number) (how_many f (numbers_of (check_tallied t c).tally cs))
      go true e ih =
          let k = bad_call t c e in
          let zero_more : one_more (f (check_tallied t c).answer.number) (how_many f (numbers_of (check_tallied t c).tally cs)) ≡ how_many f (numbers_of (check_tallied t c).tally cs) =
          ap (λ (b : Bool). one_more b (how_many f (numbers_of (check_tallied t c).tally cs))) (ap (λ (a : OrderAnswer). f a.number) k.0 ∙ none)
          in
          ih ∙ ap (λ (u : Tally). get u + how_many f (numbers_of (check_tallied t c).tally cs)) k.1 ∙ ap (λ (x : ℕ). get t + x) (sym zero_more)
      go false e ih =
          let k = counted_call t c e in
          let rest = how_many f (numbers_of (check_tallied t c).tally cs) in
          let n = (own_answer c).number in
          ih
          ∙ ap (λ (x : ℕ). x + rest) (ap get k.1 ∙ step t n (not_twelve c))
          ∙ moved (f n) (get t) rest
          ∙ ap (λ (a : OrderAnswer). get t + one_more (f a.number) rest) (sym k.0)

-- ---- the theorem

and_yes : (b c : Bool) → c ≡ true → b && c ≡ b
and_yes true c h = h
and_yes false c h = refl

seen_step : (t : Tally) (n : ℕ) → not (is_twelve n) ≡ true → (counted t n).seen ≡ one_more (not (is_twelve n)) t.seen
unfolding counted
seen_step t n h = rw h

refused_step : (t : Tally) (n : ℕ) → not (is_twelve n) ≡ true → (counted t n).refused ≡ one_more (is_refused n && not (is_twelve n)) t.refused
unfolding counted
refused_step t n h = ap (λ (b : Bool). one_more b t.refused) (sym (and_yes (is_refused n) (not (is_twelve n)) h))

accepted_step : (t : Tally) (n : ℕ) → not (is_twelve n) ≡ true → (counted t n).accepted ≡ one_more (is_accepted n) t.accepted
unfolding counted
accepted_step t n h = refl

rejected_step : (t : Tally) (n : ℕ) → not (is_twelve n) ≡ true → (counted t n).rejected ≡ one_more (is_rejected n) t.rejected
unfolding counted
rejected_step t n h = refl

tallies : (cs : List Call) → Tallies cs
tallies cs =
    record {
      seen = tally_of_lem (λ t. t.seen) (λ n. not (is_twelve n)) refl seen_step fresh cs ∙ from_zero _;
      refused = tally_of_lem (λ t. t.refused) (λ n. is_refused n && not (is_twelve n)) refl refused_step fresh cs ∙ from_zero _;
      accepted = tally_of_lem (λ t. t.accepted) is_accepted refl accepted_step fresh cs ∙ from_zero _;
      rejected = tally_of_lem (λ t. t.rejected) is_rejected refl rejected_step fresh cs ∙ from_zero _;
    }
  where
    from_zero : (x : ℕ) → 0 + x ≡ x
    from_zero x = omega arith

same_number : (t : Tally) (c : Call) → ((check_tallied t c).answer.number ≡ 12 → ⊥) → (check_tallied t c).answer ≡ own_answer c
same_number t c h = go (is_bad_tally t) refl
  where
    go : (b : Bool) → is_bad_tally t ≡ b → (check_tallied t c).answer ≡ own_answer c
    go true e = absurd (h (ap (λ (a : OrderAnswer). a.number) (bad_call t c e).0))
    go false e = (counted_call t c e).0

-- exactly one of the three kinds rises
one_kind : (n r a j : ℕ) → one_more (is_refused n) r + one_more (is_accepted n) a + one_more (is_rejected n) j ≡ r + a + j + 1
one_kind n r a j = go (is_accepted n) refl (is_rejected n) refl
  where
    both_not : is_accepted n ≡ true → is_rejected n ≡ true → ⊥
    both_not e f = let z = eqb-true n 0 e in true≢false (sym f ∙ ap is_rejected z)

    go : (p : Bool) → is_accepted n ≡ p → (q : Bool) → is_rejected n ≡ q → one_more (not (p || q)) r + one_more p a + one_more q j ≡ r + a + j + 1
    go true e true f = absurd (both_not e f)
    go true e false f = omega arith
    go false e true f = omega arith
    go false e false f = omega arith

sum_of : (t : Tally) (n : ℕ) → t.seen ≡ t.refused + t.accepted + t.rejected → (counted t n).seen ≡ (counted t n).refused + (counted t n).accepted + (counted t n).rejected
unfolding counted
sum_of t n h = let k = one_kind n t.refused t.accepted t.rejected in ap (λ (x : ℕ). x + 1) h ∙ sym k

keeps_sum : (t : Tally) (c : Call) → t.seen ≡ t.refused + t.accepted + t.rejected → let u = (check_tallied t c).tally in u.seen ≡ u.refused + u.accepted + u.rejected
keeps_sum t c h = go (is_bad_tally t) refl
  where
    go : (b : Bool) → is_bad_tally t ≡ b → let u = (check_tallied t c).tally in u.seen ≡ u.refused + u.accepted + u.rejected
    go true e = rw (bad_call t c e).1 h
    go false e = rw (counted_call t c e).1 (sum_of t (own_answer c).number h)

pub tally_theorem : TallyTheorem
tally_theorem = record { lists = tallies; same = same_number; sum = keeps_sum }
