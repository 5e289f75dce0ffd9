-- Document 01, Market and quote checks: "A tallied check gives the same number and adds to a tally".
use Rattle.std.specs.Prelude.{◌≡◌, List, [], ◌∷◌, Bool, cond, not, ◌&&◌, ◌||◌, ℕ, ◌+◌, eqb, leb}
use Rattle.rules.specs.declared.OrderAnswer.{OrderAnswer}
use Rattle.rules.specs.declared.Tally.{Tally}
use Rattle.rules.specs.declared.TalliedAnswer.{TalliedAnswer}
use Rattle.rules.specs.Kinds.{is_accepted, is_rejected, is_refused}
use Rattle.rules.specs.Numbers.{refused, Inputs, answer_to}
use Rattle.rules.specs.Fix.{MessageInputs, check_fix}

-- a tally "whose seen is not refused, accepted and rejected together": the true sum, not that of a word
unfoldable pub is_broken : Tally → Bool
is_broken t = not (eqb t.seen (t.refused + t.accepted + t.rejected))

-- "12 a tally that has seen 1,000,000 or more, or whose seen is not [..]"
unfoldable pub is_bad_tally : Tally → Bool
is_bad_tally t = leb 1000000 t.seen || is_broken t

-- one more where the test holds
abbrev pub one_more : Bool → ℕ → ℕ
one_more b n = cond b (n + 1) n

-- the tally's step, by the number given
unfoldable pub counted : Tally → ℕ → Tally
counted t n =
    record {
      seen = t.seen + 1;
      refused = one_more (is_refused n) t.refused;
      accepted = one_more (is_accepted n) t.accepted;
      rejected = one_more (is_rejected n) t.rejected;
    }

-- "12 comes first"; "1 to 12 return zeros elsewhere, a tally apart"; "tally unchanged"
unfoldable pub tallied : Tally → OrderAnswer → TalliedAnswer
tallied t answer = record { answer = cond (is_bad_tally t) (refused 12) answer; tally = cond (is_bad_tally t) t (counted t answer.number) }

-- one call of a tallied check: what the order check, or the check on messages (document 02, S-1), is called with
pub data Call : Type 0 where
  order : (a : Inputs) (symbols counts : List ℕ) → Call
  message : (a : MessageInputs) (m : List ℕ) → Call

-- the answer of the call's own check
abbrev pub own_answer : Call → OrderAnswer
own_answer (order a symbols counts) = answer_to a symbols counts
own_answer (message a m) = check_fix a m

unfoldable pub check_tallied : Tally → Call → TalliedAnswer
check_tallied t c = tallied t (own_answer c)

-- the numbers that a list of tallied checks gets, each with the tally that the one before left
unfoldable pub numbers_of : Tally → List Call → List ℕ
numbers_of t [] = []
numbers_of t (c ∷ cs) = let r = check_tallied t c in r.answer.number ∷ numbers_of r.tally cs

-- and the tally that the last leaves
unfoldable pub tally_after : Tally → List Call → Tally
tally_after t [] = t
tally_after t (c ∷ cs) = tally_after (check_tallied t c).tally cs

abbrev pub fresh : Tally
fresh = record { seen = 0; refused = 0; accepted = 0; rejected = 0 }

-- how many numbers pass the test
unfoldable pub how_many : (ℕ → Bool) → List ℕ → ℕ
how_many f [] = 0
how_many f (n ∷ ns) = one_more (f n) (how_many f ns)

abbrev pub is_twelve : ℕ → Bool
is_twelve n = eqb n 12

-- "after every list of tallied checks from a fresh tally, seen, refused, accepted and rejected equal the numbers of such calls in the list, those given 12 left out"
pub record Tallies (cs : List Call) : Type 0 where
  pub seen : (tally_after fresh cs).seen ≡ how_many (λ n. not (is_twelve n)) (numbers_of fresh cs)
  pub refused : (tally_after fresh cs).refused ≡ how_many (λ n. is_refused n && not (is_twelve n)) (numbers_of fresh cs)
  pub accepted : (tally_after fresh cs).accepted ≡ how_many is_accepted (numbers_of fresh cs)
  pub rejected : (tally_after fresh cs).rejected ≡ how_many is_rejected (numbers_of fresh cs)

pub record TallyTheorem : Type 0 where
  pub lists : (cs : List Call) → Tallies cs
  -- "A tallied check gives the same number"
  pub same : (t : Tally) (c : Call) → ((check_tallied t c).answer.number ≡ 12 → ⊥) → (check_tallied t c).answer ≡ own_answer c
  -- the tally keeps its own sum
  pub sum : (t : Tally) (c : Call) → t.seen ≡ t.refused + t.accepted + t.rejected → let u = (check_tallied t c).tally in u.seen ≡ u.refused + u.accepted + u.rejected
