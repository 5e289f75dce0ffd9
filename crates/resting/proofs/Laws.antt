-- What a test of each number, or of each two neighbours, says of a list.
use Rattle.std.proofs.Common.{◌≡◌, refl, sym, ap, ◌∙◌, List, [], ◌∷◌, Bool, true, false, not, ◌&&◌, ℕ, zero, suc, ◌+◌, ◌<◌, arith, length, get_or}
use Rattle.std.specs.List.{list_all, IsAllAdjacentAnswer, AllAdjacentBelow}
use Rattle.std.proofs.lemmas.List.Recursion.{same_from_clauses}
use Rattle.rules.specs.Lists.{all}
use Rattle.rules.specs.Market.{at_or_past}
use Rattle.rules.specs.Crossing.{in_sequence}

pub all_same : (f : ℕ → Bool) (ns : List ℕ) → list_all f ns ≡ all f ns
unfolding all
all_same f ns = same_from_clauses (list_all f) (all f) (λ (n : ℕ) (b : Bool). f n && b) refl (λ _ _. refl) (λ _ _. refl) ns

and_no : (a b : Bool) → b ≡ false → a && b ≡ false
and_no true b h = h
and_no false b h = refl

module _ (bought : Bool) where
  abbrev pub before : ℕ → ℕ → Bool
  before p q = not (at_or_past bought p q)

  -- a place behind the first
  next_place : (p : ℕ) (ps : List ℕ) (k d : ℕ) → get_or (p ∷ ps) (suc k + 1) d ≡ get_or ps (k + 1) d
  next_place p ps k d = let e : suc k + 1 ≡ suc (k + 1) = omega arith in ap (λ (n : ℕ). get_or (p ∷ ps) n d) e

  sequence_holds : (ps : List ℕ) → AllAdjacentBelow (λ p q. true ≡ before p q) ps (length ps) → true ≡ in_sequence bought ps
  unfolding in_sequence
  sequence_holds [] h = refl
  sequence_holds (p ∷ []) h = refl
  sequence_holds (p ∷ q ∷ ps) h =
      let rest = sequence_holds (q ∷ ps) (λ k d l. h (suc k) d (omega arith) ∙ ap (before (get_or (q ∷ ps) k d)) (next_place p (q ∷ ps) k d)) in
      rw (sym (h 0 0 (omega arith))) rest

  sequence_breaks : (ps : List ℕ) (k : ℕ) → k + 1 < length ps → false ≡ before (get_or ps k 0) (get_or ps (k + 1) 0) → false ≡ in_sequence bought ps
  unfolding in_sequence
  sequence_breaks [] k l h = absurd (omega arith)
  sequence_breaks (p ∷ []) k l h = absurd (omega arith)
  sequence_breaks (p ∷ q ∷ ps) zero l h = rw (sym h) refl
  sequence_breaks (p ∷ q ∷ ps) (suc k) l h =
      let rest = sequence_breaks (q ∷ ps) k (omega arith) (h ∙ ap (before (get_or (q ∷ ps) k 0)) (next_place p (q ∷ ps) k 0)) in
      sym (and_no (before p q) _ (sym rest))

  pub sequence_found : (ps : List ℕ) (r : Bool) → IsAllAdjacentAnswer (λ p q b. b ≡ before p q) ps r → r ≡ in_sequence bought ps
  sequence_found ps true h = sequence_holds ps h
  sequence_found ps false (k, l, h) = sequence_breaks ps k l (h 0)
