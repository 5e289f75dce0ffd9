-- The first of listed numbers: what holds of each that applies holds of it.
use mathlib.Core.Path.{◌≡◌, refl, sym, ap, ◌∙◌}
use mathlib.Core.List.{List, [], ◌∷◌, ◌++◌}
use mathlib.Core.Bool.{Bool, true, false, cond, not, ◌&&◌, true≢false}
use Prim.Native.Nat.{ℕ, ◌≤◌}
use native.Mathlib.Omega.{arith}
use lib.Dec.{eqb, leb}
use borrow.Author.Tests.{leb-true, eq-eqb}
use Rattle.rules.specs.Lists.{All, all}
use Rattle.rules.proofs.Tests.{and_both, not_eq}
use Rattle.rules.specs.declared.RawLeg.{RawLeg}
use Rattle.rules.specs.declared.Terms.{Terms}
use Rattle.rules.specs.declared.Leg.{Leg}
use Rattle.rules.specs.declared.Mills.{Mills}
use Rattle.rules.specs.declared.Series.{Series}
use Rattle.rules.specs.declared.Settings.{Settings}
use Rattle.rules.specs.declared.Market.{Market}
use Rattle.rules.specs.Kinds.{sequence, place_in}
use Rattle.rules.specs.Quote.{quote_refusals, quote_refusal, quote_rejections, quote_rejection}
use Rattle.rules.specs.Numbers.{first_of, named, refusals, refusal, rejections, rejection}

pub first_of_lem : (P : ℕ → Type 0) (es : List (Bool × ℕ)) → P 0 → All (λ e. e.0 ≡ true → P e.1) es → P (first_of es)
unfolding first_of
first_of_lem P [] z h = z
first_of_lem P (e ∷ es) z h = go e.0 h.0 (first_of_lem P es z h.1)
  where
    go : (b : Bool) → (b ≡ true → P e.1) → P (first_of es) → P (cond b e.1 (first_of es))
    go true f r = f refl
    go false f r = r

-- what every number of the list passes, and 0, the first passes
pub first_passes : (f : ℕ → Bool) (es : List (Bool × ℕ)) → f 0 ≡ true → all f (named es) ≡ true → f (first_of es) ≡ true
unfolding all
first_passes f es z h = first_of_lem (λ n. f n ≡ true) es z (each es h)
  where
    each : (ds : List (Bool × ℕ)) → all f (named ds) ≡ true → All (λ e. e.0 ≡ true → f e.1 ≡ true) ds
    each [] k = tt
    each (d ∷ ds) k = let a = and_both (f d.1) _ k in ((λ t. a.0), each ds a.1)

-- no test of a list that gives 0 applies, where 0 is none of its numbers
pub none_apply : (es : List (Bool × ℕ)) → all (λ n. not (eqb n 0)) (named es) ≡ true → first_of es ≡ 0 → All (λ e. e.0 ≡ false) es
unfolding all first_of
none_apply [] s h = tt
none_apply ((true, n) ∷ es) s h = absurd (true≢false (sym (and_both (not (eqb n 0)) _ s).0 ∙ ap not (eq-eqb n 0 h)))
none_apply ((false, n) ∷ es) s h = (refl, none_apply es (and_both (not (eqb n 0)) _ s).1 h)

-- of one list behind another: the first of the second, where the first gives 0
pub first_behind : (es fs : List (Bool × ℕ)) → all (λ n. not (eqb n 0)) (named es) ≡ true → first_of (es ++ fs) ≡ cond (eqb (first_of es) 0) (first_of fs) (first_of es)
unfolding all first_of
first_behind [] fs s = refl
first_behind ((true, n) ∷ es) fs s = sym (ap (λ (b : Bool). cond b (first_of fs) n) (not_eq (eqb n 0) (and_both (not (eqb n 0)) _ s).0))
first_behind ((false, n) ∷ es) fs s = first_behind es fs (and_both (not (eqb n 0)) _ s).1

-- what is given by a list whose numbers rise by their rank
module _ (rank : ℕ → ℕ) where
  -- from `n` on
  abbrev rises : ℕ → List (Bool × ℕ) → Bool
  rises n [] = true
  rises n (e ∷ es) = leb n (rank e.1) && rises (rank e.1) es

  above : (n m : ℕ) (es : List (Bool × ℕ)) → n ≤ m → rises m es ≡ true → All (λ f. f.0 ≡ true → n ≤ rank f.1) es
  above n m [] l h = tt
  above n m (e ∷ es) l h =
      let k = and_both (leb m (rank e.1)) _ h in
      let b = leb-true m (rank e.1) k.0 in
      ((λ t. omega arith), above n (rank e.1) es (omega arith) k.1)

  -- the first has the least rank of those that apply
  earliest : (n : ℕ) (es : List (Bool × ℕ)) → rises n es ≡ true → All (λ e. e.0 ≡ true → rank (first_of es) ≤ rank e.1) es
  unfolding first_of
  earliest n [] h = tt
  earliest n (e ∷ es) h = let k = and_both (leb n (rank e.1)) _ h in go e.0 k.1 (earliest (rank e.1) es k.1)
    where
      go : (b : Bool) → rises (rank e.1) es ≡ true → All (λ f. f.0 ≡ true → rank (first_of es) ≤ rank f.1) es
          → (b ≡ true → rank (cond b e.1 (first_of es)) ≤ rank e.1) × All (λ f. f.0 ≡ true → rank (cond b e.1 (first_of es)) ≤ rank f.1) es
      go true r ih = ((λ t. omega arith), above (rank e.1) (rank e.1) es (omega arith) r)
      go false r ih = ((λ t. absurd (true≢false (sym t))), ih)

-- "The lowest number that applies is given"
lowest : (n : ℕ) (es : List (Bool × ℕ)) → rises (λ n. n) n es ≡ true → All (λ e. e.0 ≡ true → first_of es ≤ e.1) es
lowest = earliest (λ n. n)

-- with 33, the first in the sequence of numbers
pub earliest_refusal : (st : Settings) (m : Market) (t : Terms) (n : ℕ) (rs : List RawLeg) → All (λ e. e.0 ≡ true → place_in sequence (refusal st m t n rs) ≤ place_in sequence e.1) (refusals st m t n rs)
unfolding refusal
earliest_refusal st m t n rs = earliest (place_in sequence) 0 (refusals st m t n rs) refl

pub lowest_rejection : (st : Settings) (m : Market) (t : Terms) (us : List Leg) (class : ℕ) → All (λ e. e.0 ≡ true → rejection st m t us class ≤ e.1) (rejections st m t us class)
unfolding rejection
lowest_rejection st m t us class = lowest 0 (rejections st m t us class) refl

pub lowest_quote_refusal : (st : Settings) (m : Market) (symbol : List ℕ) (bid offer : Mills) → All (λ e. e.0 ≡ true → quote_refusal st m symbol bid offer ≤ e.1) (quote_refusals st m symbol bid offer)
unfolding quote_refusal
lowest_quote_refusal st m symbol bid offer = lowest 0 (quote_refusals st m symbol bid offer) refl

pub lowest_quote_rejection : (st : Settings) (m : Market) (s : Series) (bid offer : Mills) → All (λ e. e.0 ≡ true → quote_rejection st m s bid offer ≤ e.1) (quote_rejections st m s bid offer)
unfolding quote_rejection
lowest_quote_rejection st m s bid offer = lowest 0 (quote_rejections st m s bid offer) refl
